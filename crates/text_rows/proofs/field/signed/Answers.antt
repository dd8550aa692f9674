-- `text_rows::field::signed` meets its contract: the first byte decides the sign.
use Rattle.std.proofs.Common.{sym, ◌∙◌, arith}
use Rattle.std.specs.Prelude.{None, Some}
use Rattle.text_rows.proofs.AnswerLaws.{negated_bits, signed_minus, signed_plain, unsigned_small}
use Rattle.text_rows.proofs.field.signed.Goals.{then-field-lt1, else-field-lt1+in_default-1}
use Rattle.text_rows.proofs.field.signed.Goals as goal

pub returns-in_err-value : goal.returns-in_err-value
returns-in_err-value c =
    c.from_residual.ensures ∙ signed_minus c.args.field.now (omega arith) (omega arith) None (sym c.in_err-value.was ∙ c.unsigned.ensures)

pub returns-in-45 : goal.returns-in-45
returns-in-45 c =
    let told = sym c.in_ok-value.was ∙ c.unsigned.ensures in
    rw (negated_bits c.in_ok-value.value (unsigned_small _ c.in_ok-value.value told))
    (signed_minus c.args.field.now (omega arith) (omega arith) (Some c.in_ok-value.value) told)

pub returns : goal.returns
returns c =
    c.unsigned-2.ensures
    ∙ signed_plain c.args.field.now (λ h e. elim c.if-field-lt1.branch [
      | then-field-lt1 w ↦ grind arith
      | else-field-lt1+in_default-1 w ↦ grind arith
    ])
