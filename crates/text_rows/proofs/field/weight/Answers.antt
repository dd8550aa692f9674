-- `text_rows::field::weight` meets its contract: a blank field is 10, any other has no sign.
use Rattle.std.proofs.Common.{sym, ◌∙◌}
use borrow.Author.Tests.{eqb-true, eqb-false}
use Rattle.text_rows.proofs.AnswerLaws.{weight_blank, weight_plain}
use Rattle.text_rows.proofs.field.weight.Goals as goal

pub returns-then-is_empty : goal.returns-then-is_empty
returns-then-is_empty c = weight_blank c.args.field.now (eqb-true _ 0 (sym c.is_empty.ensures ∙ c.if-is_empty.true))

pub returns : goal.returns
returns c = c.unsigned.ensures ∙ weight_plain c.args.field.now (eqb-false _ 0 (sym c.is_empty.ensures ∙ c.if-is_empty.false))
