-- The digits that are written for a number are those that a reader of the text is told.
use mathlib.Core.Path.{◌≡◌, sym}
use Prim.Native.Nat.{ℕ, suc, ◌<◌, ◌^◌}
use native.Mathlib.Omega.{arith}
use borrow.Author.Tests.{lt-ltb, le-ltb}
use lib.IntN.{ℤ, pos, negsuc}
use lib.Signed.{mag}
use Rattle.std.specs.Fmt as printed
use Rattle.std.proofs.lemmas.Fmt.{AppendsLastDigit, decimal_from_appends, length-decimal-le}
use Rattle.text_rows.specs.Numeral.{digits_of, decimal_most, decimal, signed_decimal}

by_last : AppendsLastDigit digits_of
unfolding digits_of
by_last = record { one = λ k n h. rw (lt-ltb n 10 h); more = λ k n h. rw (le-ltb n 10 h) }

pub same_digits : (n : ℕ) → n < 2 ^ 64 → printed.decimal n ≡ decimal n
same_digits n h = sym (decimal_from_appends digits_of by_last decimal_most n h (length-decimal-le 20 n (omega arith) (omega arith) h))

pub same_signed : (z : ℤ) → mag z < 2 ^ 63 → printed.signed_decimal z ≡ signed_decimal z
same_signed (pos n) h = same_digits n (omega arith)
same_signed (negsuc n) h = rw (same_digits (suc n) (omega arith))
