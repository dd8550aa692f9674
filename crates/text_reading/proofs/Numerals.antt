-- Numbers as digits: what is written is digits, at most nine below 10 ^ 9, and is read back as the number.
use Prim.Native.Nat.{ℕ, zero, suc, ◌+◌, ◌/◌, ◌%◌, ◌^◌, ◌≤◌, ◌<◌}
use mathlib.Core.Path.{◌≡◌, refl}
use mathlib.Core.Bool.{Bool, true, false, cond}
use mathlib.Core.List.{List, [], ◌∷◌, ◌++◌}
use Rattle.std.specs.Prelude.{Some, option_map}
use native.Mathlib.Omega.{arith}
use lib.Dec.{ltb}
use lib.ListN.{length, get_or, length-append}
use lib.IntN.{ℤ, pos, negsuc, nat_abs}
use lib.Signed.{◌≤ℤ◌}
use borrow.Author.Tests.{ltb-true, le-leb, ne_eqb}
use Rattle.text_rows.specs.Numeral.{digit_zero, digit_nine, minus, all_digits, value_of, digits_most, number, signed, weight_of, digits_of, decimal_most, decimal, signed_decimal}
use Rattle.text_rows.proofs.DigitLaws.{value_append}
use Rattle.text_rows.proofs.Decimal.{length_decimal}
use Rattle.ground.proofs.Each.{each_map}
use Rattle.ground.specs.Entries.{Each}

-- ---- a property of every entry of a list

pub each_at :
    {A : Type 0} (P : A → Type 0) (d : A) (xs : List A) → ((k : ℕ) → k < length xs → P (get_or xs k d)) → Each P xs
each_at P d [] h = tt
each_at P d (x ∷ xs) h = (h 0 (omega arith), each_at P d xs (λ k l. h (suc k) (omega arith)))

-- past its end too, if it holds of what stands there
pub each_entry : {A : Type 0} (P : A → Type 0) (d : A) (xs : List A) → Each P xs → P d → (k : ℕ) → P (get_or xs k d)
each_entry P d [] h past k = past
each_entry P d (x ∷ xs) h past zero = h.0
each_entry P d (x ∷ xs) h past (suc k) = each_entry P d xs h.1 past k

pub each_append : {A : Type 0} (P : A → Type 0) (xs ys : List A) → Each P xs → Each P ys → Each P (xs ++ ys)
each_append P [] ys h k = k
each_append P (x ∷ xs) ys h k = (h.0, each_append P xs ys h.1 k)

abbrev pub Digit : ℕ → Type 0
Digit b = (digit_zero ≤ b) × (b ≤ digit_nine)

-- ---- the digits of a number

pub digits_only : (most n : ℕ) → Each Digit (digits_of most n)
unfolding digits_of
digits_only zero n = tt
digits_only (suc most) n = go (ltb n 10) refl (digits_only most (n / 10))
  where
    go :
        (t : Bool) → ltb n 10 ≡ t → Each Digit (digits_of most (n / 10)) → Each Digit
        (cond t ((digit_zero + n) ∷ []) (digits_of most (n / 10) ++ ((digit_zero + n % 10) ∷ [])))
    go true e before = omega (arith, ltb-true n 10 e)
    go false e before = each_append Digit (digits_of most (n / 10)) _ before (omega arith)

-- the digits tell the number
pub digits_value : (most n : ℕ) → n < 10 ^ most → value_of 0 (digits_of most n) ≡ n
unfolding digits_of value_of
digits_value zero n h = omega arith
digits_value (suc most) n h = go (ltb n 10) refl (digits_value most (n / 10) (omega arith))
  where
    go :
        (t : Bool) → ltb n 10 ≡ t → value_of 0 (digits_of most (n / 10)) ≡ n / 10 → value_of 0
        (cond t ((digit_zero + n) ∷ []) (digits_of most (n / 10) ++ ((digit_zero + n % 10) ∷ []))) ≡ n
    go true e before = omega arith
    go false e before = rw (value_append, before) (omega arith)

pub digits_least : (most n : ℕ) → 1 ≤ length (digits_of (suc most) n)
unfolding digits_of
digits_least most n = go (ltb n 10)
  where
    go :
        (t : Bool) → 1 ≤ length (cond t ((digit_zero + n) ∷ []) (digits_of most (n / 10)
        ++ ((digit_zero + n % 10) ∷ [])))
    go true = omega arith
    go false = rw length-append (omega arith)

-- a number of 64 bits has at most 20 digits: those that are written tell it
pub decimal_value : (n : ℕ) → n < 10 ^ decimal_most → value_of 0 (decimal n) ≡ n
decimal_value n h = digits_value decimal_most n h

-- ---- numbers below 10 ^ 9 are read back

pub all_digits_lem : (f : List ℕ) → Each Digit f → all_digits f ≡ true
unfolding all_digits
all_digits_lem [] h = refl
all_digits_lem (b ∷ bs) h = rw (le-leb digit_zero b h.0.0, le-leb b digit_nine h.0.1) (all_digits_lem bs h.1)

pub number_back : (n : ℕ) → n < 10 ^ digits_most → number (decimal n) ≡ Some n
unfolding number
number_back n h =
    rw (
      le-leb 1 _ (digits_least 19 n),
      le-leb _ digits_most (length_decimal 8 n h),
      all_digits_lem _ (digits_only
          decimal_most n),
      decimal_value n (omega arith),
    )

-- a digit is no minus sign
signed_digits : (f : List ℕ) → Each Digit f → signed f ≡ option_map pos (number f)
unfolding signed number
signed_digits [] h = refl
signed_digits (b ∷ bs) h = rw (ne_eqb b minus (omega arith))

pub signed_back : (z : ℤ) → nat_abs z < 10 ^ digits_most → signed (signed_decimal z) ≡ Some z
unfolding signed
signed_back (pos n) h = rw (signed_digits _ (digits_only decimal_most n), number_back n h)
signed_back (negsuc n) h = rw (number_back (suc n) h)

-- a number is no blank
weight_digits : (f : List ℕ) → 1 ≤ length f → weight_of f ≡ option_map pos (number f)
unfolding weight_of
weight_digits [] h = absurd (omega arith)
weight_digits (b ∷ bs) h = refl

pub weight_back : (z : ℤ) → pos 0 ≤ℤ z → nat_abs z < 10 ^ digits_most → weight_of (signed_decimal z) ≡ Some z
weight_back (pos n) l h = rw (weight_digits _ (digits_least 19 n), number_back n h)
weight_back (negsuc n) l h = absurd l.le

-- ---- the bytes of a number

abbrev pub NumeralByte : ℕ → Type 0
NumeralByte b = (minus ≤ b) × (b ≤ digit_nine)

pub signed_bytes : (z : ℤ) → Each NumeralByte (signed_decimal z)
signed_bytes (pos n) = each_map {P = Digit} {Q = NumeralByte} (λ b h. omega arith) (decimal n) (digits_only decimal_most n)
signed_bytes (negsuc n) =
    (omega arith, each_map {P = Digit} {Q = NumeralByte} (λ b h. omega arith) (decimal (suc n)) (digits_only decimal_most (suc n)))
