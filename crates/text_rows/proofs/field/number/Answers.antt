use Rattle.std.proofs.Common.{sym, ◌∙◌, arith}
use borrow.Author.Tests.{eqb-true, eqb-false}
use Rattle.text_rows.proofs.DigitLaws.{blank_none, long_none, told_none, told_small, told_more, told_stop, told_all}
use Rattle.text_rows.proofs.field.number.Goals.{then-is_empty-via-then-is_empty, then-is_empty-via-else-is_empty+then-field-gt-DIGITS_MOST}
use Rattle.text_rows.proofs.field.number.Goals as goal

pub returns-then-is_empty : goal.returns-then-is_empty
returns-then-is_empty c =
    elim c.then-is_empty.branch [
      | then-is_empty-via-then-is_empty w ↦ blank_none c.args.field.now (eqb-true _ 0 (sym c.is_empty.ensures ∙ w.if-is_empty.true))
      | then-is_empty-via-else-is_empty+then-field-gt-DIGITS_MOST w ↦ long_none c.args.field.now w.if-field-gt-DIGITS_MOST.true
    ]

pub loop-digit-init : goal.loop-digit-init
loop-digit-init c = told_none c.args.field.now

pub returns-then-not-is_ascii_digit : goal.returns-then-not-is_ascii_digit
returns-then-not-is_ascii_digit c =
    told_stop c.loop-digit.invariant (omega arith) (sym c.is_ascii_digit.ensures.value ∙ c.if-not-is_ascii_digit.true)

pub overflow_mul-value : goal.overflow_mul-value
overflow_mul-value c = omega (arith, told_small c.loop-digit.invariant (omega arith) (omega arith))

pub overflow_add-value : goal.overflow_add-value
overflow_add-value c = omega (arith, told_small c.loop-digit.invariant (omega arith) (omega arith))

pub loop-digit-preserved : goal.loop-digit-preserved
loop-digit-preserved c =
    rw c.from.ensures
    (told_more c.loop-digit.invariant (omega arith) (sym c.is_ascii_digit.ensures.value ∙ c.if-not-is_ascii_digit.false))

pub returns : goal.returns
returns c =
    told_all c.loop-digit.invariant (omega arith) (eqb-false _ 0 (sym c.is_empty.ensures ∙ c.if-is_empty.false)) (omega arith)
