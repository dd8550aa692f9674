-- The decimal digits of a number: by its last digit, and how many they are.
use mathlib.Core.Path.{◌≡◌, refl, sym, ap, subst, ◌∙◌}
use mathlib.Core.Bool.{Bool, true, false, cond}
use mathlib.Core.List.{List, [], ◌∷◌, ◌++◌}
use Prim.Native.Nat.{ℕ, zero, suc, ◌+◌, ◌/◌, ◌%◌, ◌≤◌, ◌<◌, ◌^◌}
use native.Mathlib.Omega.{arith}
use native.Mathlib.Nat.{pow-suc}
use lib.Dec.{ltb}
use borrow.Author.Tests.{ltb-true, lt-ltb, le-ltb}
use lib.ListN.{length, length-append}
use lib.IntN.{ℤ, pos, negsuc, nat_abs}
use lib.Signed.{lt_z}
use mir.Syntax.{w64}
use mir.Val.{SFits}
use mir.ValLaws.{to_z-of_z}
use Rattle.algebra.proofs.Quotient.{kept, magnitude_fits}
use Rattle.std.specs.Fmt as printed
use Rattle.std.proofs.lemmas.Fmt.{AppendsLastDigit, decimal_from_appends, length-decimal-le}
use Rattle.text_rows.specs.Numeral.{digits_of, decimal_most, decimal, signed_decimal, digit_zero, minus}

-- ---- by the last digit

by_last : AppendsLastDigit digits_of
unfolding digits_of
by_last = record { one = λ k n h. rw (lt-ltb n 10 h); more = λ k n h. rw (le-ltb n 10 h) }

-- more than enough digits are as good
enough : (k n : ℕ) → n < 2 ^ 64 → length (printed.decimal n) ≤ k → digits_of (suc k) n ≡ digits_of k n
enough k n h l = decimal_from_appends digits_of by_last (suc k) n h (omega arith) ∙ sym (decimal_from_appends digits_of by_last k n h l)

pub decimal_below_ten : (n : ℕ) → n < 10 → (digit_zero + n) ∷ [] ≡ decimal n
decimal_below_ten n h = sym (by_last.one 19 n h)

-- a number of 64 bits from ten up: the digits of its tenth, then its last digit
pub decimal_by_last : (n : ℕ) → 10 ≤ n → n < 2 ^ 64 → decimal (n / 10) ++ ((digit_zero + n % 10) ∷ []) ≡ decimal n
decimal_by_last n h f =
    ap (λ (d : List ℕ). d ++ ((digit_zero + n % 10) ∷ []))
    (enough 19 (n / 10) (omega arith) (length-decimal-le 19 (n / 10) (omega arith) (omega arith) (omega arith)))
    ∙ sym (by_last.more 19 n h)

-- which is one digit more
pub longer : (n : ℕ) → 10 ≤ n → n < 2 ^ 64 → length (decimal n) ≡ length (decimal (n / 10)) + 1
longer n h f = sym (ap length (decimal_by_last n h f)) ∙ length-append (decimal (n / 10)) ((digit_zero + n % 10) ∷ [])

-- ---- how many they are

-- a tenth of a number below a power of ten
tenth : (k n : ℕ) → n < 10 ^ suc k → n / 10 < 10 ^ k
tenth k n h = omega (arith, pow-suc 10 k)

-- a number below a power of ten has no more digits than the power
length_digits : (most k n : ℕ) → n < 10 ^ suc k → length (digits_of most n) ≤ suc k
unfolding digits_of
length_digits zero k n h = omega arith
length_digits (suc most) zero n h = rw (lt-ltb n 10 h) (omega arith)
length_digits (suc most) (suc k) n h = go (ltb n 10) (length_digits most k (n / 10) (tenth (suc k) n h))
  where
    go :
        (t : Bool) → length (digits_of most (n / 10)) ≤ suc k → length
        (cond t ((digit_zero + n) ∷ []) (digits_of most (n / 10) ++ ((digit_zero + n % 10) ∷ []))) ≤ suc (suc k)
    go true less = omega arith
    go false less = omega (arith, length-append (digits_of most (n / 10)) ((digit_zero + n % 10) ∷ []))

pub length_decimal : (k n : ℕ) → n < 10 ^ suc k → length (decimal n) ≤ suc k
length_decimal k n h = length_digits decimal_most k n h

-- ---- signed numbers

pub signed_below : (x : ℤ) → lt_z x (pos 0) ≡ true → minus ∷ decimal (nat_abs x) ≡ signed_decimal x
signed_below (pos n) e = absurd (omega (arith, ltb-true n 0 e))
signed_below (negsuc n) e = refl

pub signed_above : (x : ℤ) → lt_z x (pos 0) ≡ false → decimal (nat_abs x) ≡ signed_decimal x
signed_above (pos n) e = refl
signed_above (negsuc n) e = absurd (cc)

-- below a power of ten, and a sign
pub length_signed : (k : ℕ) (x : ℤ) → nat_abs x < 10 ^ suc k → length (signed_decimal x) ≤ suc (suc k)
length_signed k (pos n) h = omega (arith, length_decimal k n h)
length_signed k (negsuc n) h = omega (arith, length_decimal k (suc n) h)

-- a signed number of 64 bits has at most 20 bytes
pub length_signed_64 : (x : ℤ) → SFits w64 x → length (signed_decimal x) ≤ 20
length_signed_64 x f = length_signed 18 x (omega (arith, magnitude_fits x f))

-- as the machine reads it back from its bits
pub length_signed_kept : (x : ℤ) → SFits w64 x → length (signed_decimal (kept x)) ≤ 20
length_signed_kept x f =
    subst (λ (v : ℤ). length (signed_decimal v) ≤ 20) (sym (to_z-of_z w64 x f)) (length_signed_64 x f)
