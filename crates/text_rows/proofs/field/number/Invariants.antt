-- `text_rows::field::number` meets its contract: the bytes passed are digits, and the value is what they tell.
use Rattle.text_rows.proofs.DigitLaws.{Digits}
use Rattle.text_rows.proofs.field.number.Given as goal

abbrev pub invariant-loop-digit : goal.invariant-loop-digit
invariant-loop-digit l = Digits l.field l.digit-index l.value
