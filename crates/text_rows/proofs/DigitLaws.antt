-- Laws of digits, and what the reader of a number knows after the digits that it passed.
use Prim.Native.Nat.{ℕ, suc, ◌+◌, ◌-◌, ◌*◌, ◌^◌, ◌≤◌, ◌<◌}
use mathlib.Core.Path.{◌≡◌, refl, sym, ◌∙◌, ap}
use mathlib.Core.Bool.{Bool, true, false, cond, ◌&&◌, false≢true}
use mathlib.Core.List.{List, [], ◌∷◌, ◌++◌}
use Rattle.std.specs.Prelude.{Option, None, Some}
use native.Mathlib.Nat.{pow-succ', pow-le-pow_right, mul_assoc}
use native.Mathlib.Numerals.{add-one}
use native.Mathlib.Omega.{arith}
use borrow.Author.Tests.{leb-true, lt-leb, le-leb}
use lib.Dec.{leb}
use lib.ListN.{length, take, drop, get_or}
use lib.Seq.{take-suc, take_all, split_at, length-take-le}
use Rattle.text_rows.specs.Numeral.{digit_zero, digit_nine, digits_most, is_digit, all_digits, value_of, number}

and_left : (a b : Bool) → (a && b) ≡ true → a ≡ true
and_left true b h = refl
and_left false b h = h

and_right : (a b : Bool) → (a && b) ≡ true → b ≡ true
and_right true b h = h
and_right false b h = absurd (false≢true h)

and_assoc : (a b c : Bool) → (a && (b && c)) ≡ ((a && b) && c)
and_assoc true b c = refl
and_assoc false b c = refl

and_false : (a : Bool) (o : Option ℕ) → None ≡ cond (a && false) o None
and_false true o = refl
and_false false o = refl

-- digits one after another
pub digits_append : (xs ys : List ℕ) → all_digits (xs ++ ys) ≡ (all_digits xs && all_digits ys)
unfolding all_digits
digits_append [] ys = refl
digits_append (b ∷ xs) ys = rw (digits_append xs ys) (and_assoc (is_digit b) (all_digits xs) (all_digits ys))

pub value_append : (n : ℕ) (xs ys : List ℕ) → value_of n (xs ++ ys) ≡ value_of (value_of n xs) ys
unfolding value_of
value_append n [] ys = refl
value_append n (b ∷ xs) ys = value_append (10 * n + (b - digit_zero)) xs ys

-- the test of a digit
pub is_digit_lem : (b : ℕ) → digit_zero ≤ b → b ≤ digit_nine → is_digit b ≡ true
is_digit_lem b h l = rw (le-leb digit_zero b h, le-leb b digit_nine l)

pub below_no_digit : (b : ℕ) → b < digit_zero → is_digit b ≡ false
below_no_digit b h = rw (lt-leb digit_zero b h)

pub above_no_digit : (b : ℕ) → digit_nine < b → is_digit b ≡ false
above_no_digit b h = rw (le-leb digit_zero b (omega arith), lt-leb b digit_nine h)

digit_most : (b : ℕ) → is_digit b ≡ true → b ≤ digit_nine
digit_most b h = leb-true b digit_nine (and_right (leb digit_zero b) (leb b digit_nine) h)

-- every digit after a number below k multiplies the bound by ten
pub value_below : (xs : List ℕ) (n k : ℕ) → all_digits xs ≡ true → n < k → value_of n xs < k * 10 ^ length xs
unfolding value_of all_digits
value_below [] n k h l = omega arith
value_below (b ∷ xs) n k h l =
    let d : b ≤ digit_nine = digit_most b (and_left (is_digit b) (all_digits xs) h) in
    let rest = value_below xs (10 * n + (b - digit_zero)) (k * 10) (and_right (is_digit b) (all_digits xs) h)
    (omega arith) in
    rw (pow-succ' 10 (length xs), ← mul_assoc k 10 (10 ^ length xs)) rest

-- so at most nine digits tell less than a thousand millions
nine_digits : (xs : List ℕ) → all_digits xs ≡ true → length xs ≤ digits_most → value_of 0 xs < 1000000000
nine_digits xs h m =
    let tens : 10 ^ length xs ≤ 10 ^ digits_most = pow-le-pow_right (omega arith) {j = digits_most} m in
    omega (arith, value_below xs 0 1 h (omega arith))

pub number_small : (f : List ℕ) (n : ℕ) → number f ≡ Some n → n < 1000000000
unfolding number
number_small f n e = go (leb 1 (length f) && leb (length f) digits_most && all_digits f) refl e
  where
    sized : Bool
    sized = leb 1 (length f) && leb (length f) digits_most

    go : (t : Bool) → (sized && all_digits f) ≡ t → cond t (Some (value_of 0 f)) None ≡ Some n → n < 1000000000
    go true t p =
        let same : value_of 0 f ≡ n = cc in
        let most : length f ≤ digits_most = leb-true (length f) digits_most
        (and_right (leb 1 (length f)) (leb (length f) digits_most) (and_left sized (all_digits f) t)) in
        omega (arith, nine_digits f (and_right sized (all_digits f) t) most)
    go false t p = absurd (cc)

-- the first i bytes of a field are digits, and tell v
pub record Digits (f : List ℕ) (i v : ℕ) : Type 0 where
  pub digits : all_digits (take i f) ≡ true
  pub told : v ≡ value_of 0 (take i f)

pub told_none : (f : List ℕ) → Digits f 0 0
unfolding all_digits value_of
told_none f = record { digits = refl; told = refl }

module _ (f : List ℕ) where
  pub blank_none : length f ≡ 0 → None ≡ number f
  unfolding number
  blank_none e = rw e

  pub long_none : digits_most < length f → None ≡ number f
  unfolding number
  long_none h = rw (le-leb 1 (length f) (omega arith), lt-leb (length f) digits_most h)

module _ {f : List ℕ} {i v : ℕ} (d : Digits f i v) where
  pub told_small : i ≤ length f → i ≤ digits_most → v < 1000000000
  told_small l m = rw d.told (nine_digits (take i f) d.digits (rw (length-take-le i f l) m))

  pub told_more : i < length f → is_digit (get_or f i 0) ≡ true → Digits f (i + 1) (10 * v + (get_or f i 0 - digit_zero))
  unfolding all_digits value_of
  told_more l h = record {
    digits = rw (add-one i, take-suc f i 0 l) (rw (digits_append (take i f) (get_or f i 0 ∷ []), d.digits, h));
    told = rw (add-one i, take-suc f i 0 l) (rw (value_append 0 (take i f) (get_or f i 0 ∷ []), ← d.told));
  }

  pub told_stop : i < length f → is_digit (get_or f i 0) ≡ false → None ≡ number f
  unfolding number all_digits
  told_stop l h =
      let broken : all_digits f ≡ false = ap all_digits (split_at f i 0 l)
      ∙ rw (digits_append (take i f) (get_or f i 0 ∷ drop (suc i) f), d.digits, h) in
      rw broken (and_false (leb 1 (length f) && leb (length f) digits_most) (Some (value_of 0 f)))

  pub told_all : length f ≤ i → (length f ≡ 0 → ⊥) → length f ≤ digits_most → Some v ≡ number f
  unfolding number
  told_all l some most =
      let whole : take i f ≡ f = take_all i f l in
      rw (le-leb 1 (length f) (omega arith), le-leb (length f) digits_most most, d.told, whole)
      (rw (ap all_digits (sym whole) ∙ d.digits))
