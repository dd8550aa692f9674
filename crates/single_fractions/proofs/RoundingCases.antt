-- The six cases of the rounding: each fraction falls in exactly one, and what is given there.
use mathlib.Core.Path.{◌≡◌, refl, sym, ◌∙◌, ap}
use mathlib.Core.Logic.{◌⊎◌, inl, inr}
use mathlib.Core.Bool.{Bool, true, false}
use Prim.Native.Nat.{ℕ, ◌+◌, ◌*◌, ◌-◌, ◌/◌, ◌%◌}
use native.Mathlib.Omega.{arith}
use native.Mathlib.Nat.{div-add-mod', mod-lt}
use lib.Dec.{ltb}
use borrow.Author.Tests.{ltb-true, ltb-false, lt-ltb, le-ltb}
use lib.IntN.{ℤ, pos, negsuc, neg_ℤ, nat_abs, ◌+ℤ◌, ◌-ℤ◌, +ℤ_idl}
use lib.Signed.{◌≤ℤ◌, ◌<ℤ◌, quot_z}
use Rattle.algebra.proofs.Whole.{le_or_lt, le_parts, parts_le, lt_parts, parts-+, pp_neg, nn_neg}
use Rattle.algebra.proofs.Quotient.{nat_abs-above, nat_abs-negated}
use Rattle.single_fractions.specs.declared.Ties.TheVariants.{AwayFromZero}
use Rattle.std.specs.Prelude.{Ok}
use Rattle.std.specs.declared.cmp.Ordering.{Ordering}
use Rattle.std.specs.declared.cmp.Ordering.TheVariants.{Less, Equal, Greater}
use Rattle.exact.specs.Nearest.{on_side, round_ties_to_away, off}
use Rattle.ground.specs.Answers.{number_of}
use Rattle.single_fractions.specs.Round.{rounded, Rounded}
use Rattle.single_fractions.specs.RoundingCases.{Side, zero_or_above, below_zero, HasSide, Stands, AgainstHalf, Case, InCase}
use Rattle.single_fractions.specs.RoundingCases.{signed, whole_part, next_away, given, Bracketed, ByCases, SixCases}
use Rattle.exact.proofs.Nearest.{off_side, rounded_ties_to_away}
use Rattle.single_fractions.proofs.Rounding.{given_above, whole_given, quot_magnitude}

-- ---- exactly one of the six

one_side : (num : ℤ) (s t : Side) → HasSide s num → HasSide t num → t ≡ s
one_side num zero_or_above zero_or_above h k = refl
one_side num zero_or_above below_zero h k = absurd (omega (arith, le_parts h, lt_parts k))
one_side num below_zero zero_or_above h k = absurd (omega (arith, lt_parts h, le_parts k))
one_side num below_zero below_zero h k = refl

some_side : (num : ℤ) → (s : Side) × HasSide s num
some_side num = go (le_or_lt (pos 0) num)
  where
    go : (pos 0 ≤ℤ num) ⊎ (num <ℤ pos 0) → (s : Side) × HasSide s num
    go (inl h) = (zero_or_above, h)
    go (inr h) = (below_zero, h)

one_half : (x y : ℕ) (g h : Ordering) → Stands g x y → Stands h x y → h ≡ g
one_half x y Less Less p q = refl
one_half x y Less Equal p q = absurd (omega arith)
one_half x y Less Greater p q = absurd (omega arith)
one_half x y Equal Less p q = absurd (omega arith)
one_half x y Equal Equal p q = refl
one_half x y Equal Greater p q = absurd (omega arith)
one_half x y Greater Less p q = absurd (omega arith)
one_half x y Greater Equal p q = absurd (omega arith)
one_half x y Greater Greater p q = refl

some_half : (x y : ℕ) → (h : Ordering) × Stands h x y
some_half x y = go (ltb x y) (ltb y x) refl refl
  where
    go : (s t : Bool) → ltb x y ≡ s → ltb y x ≡ t → (h : Ordering) × Stands h x y
    go true t e f = (Less, ltb-true x y e)
    go false true e f = (Greater, ltb-true y x f)
    go false false e f = (Equal, omega (arith, ltb-false x y e, ltb-false y x f))

case_as : {c d : Case} → d.side ≡ c.side → d.half ≡ c.half → d ≡ c
case_as p q = λ i. record { side = p i; half = q i }

one_case : (num den : ℤ) → (c : Case) × InCase c num den × ((d : Case) → InCase d num den → d ≡ c)
one_case num den =
    let (s, on) = some_side num in
    let (h, st) = some_half (2 * (nat_abs num % nat_abs den)) (nat_abs den) in
    (record { side = s; half = h }, (on, st), λ d in-d. case_as (one_side num s d.side on in-d.0) (one_half _ _ h d.half st in-d.1))

-- ---- what is given

signed_side : (num : ℤ) (s : Side) (m : ℕ) → HasSide s num → signed s m ≡ on_side num m
signed_side (pos n) zero_or_above m h = refl
signed_side (negsuc n) zero_or_above m h = absurd (omega (arith, le_parts h))
signed_side (pos n) below_zero m h = absurd (omega (arith, lt_parts h))
signed_side (negsuc n) below_zero m h = refl

pub given_rounded : (num den : ℤ) (s : Side) (h : Ordering) → HasSide s num → AgainstHalf h num den → given s h num den ≡ round_ties_to_away num den
unfolding round_ties_to_away
given_rounded num den s Less on st = rw (lt-ltb (2 * (nat_abs num % nat_abs den)) (nat_abs den) st) (signed_side num s (nat_abs num / nat_abs den) on)
given_rounded num den s Equal on st = rw (le-ltb (2 * (nat_abs num % nat_abs den)) (nat_abs den) (omega arith)) (signed_side num s (nat_abs num / nat_abs den + 1) on)
given_rounded num den s Greater on st = rw (le-ltb (2 * (nat_abs num % nat_abs den)) (nat_abs den) (omega arith)) (signed_side num s (nat_abs num / nat_abs den + 1) on)

-- ---- what the code gives: the whole part of the magnitude, and 1 more where the remainder is at or over half

abbrev pub moved_on : Ordering → ℤ → ℤ
moved_on Less whole = whole
moved_on Equal whole = whole +ℤ pos 1
moved_on Greater whole = whole +ℤ pos 1

pub above_given : (num den : ℤ) (half : Ordering) → pos 0 ≤ℤ num → pos 0 <ℤ den → AgainstHalf half num den → round_ties_to_away num den ≡ moved_on half (quot_z num den)
above_given num den half from above st = sym (given_rounded num den zero_or_above half from st) ∙ rw (quot_magnitude num den from above) (go half)
  where
    go : (h : Ordering) → given zero_or_above h num den ≡ moved_on h (pos (nat_abs num / nat_abs den))
    go Less = refl
    go Equal = refl
    go Greater = refl

pub below_given : (num den : ℤ) (half : Ordering) → num <ℤ pos 0 → pos 0 <ℤ den → AgainstHalf half (pos 0 -ℤ num) den → round_ties_to_away num den ≡ pos 0 -ℤ moved_on half (quot_z (pos 0 -ℤ num) den)
below_given num den half low above st =
    sym (given_rounded num den below_zero half low (rw (nat_abs-negated num) at st))
    ∙ rw (quot_magnitude (pos 0 -ℤ num) den turned_from above, nat_abs-negated num) (go half)
  where
    turned_from : pos 0 ≤ℤ (pos 0 -ℤ num)
    turned_from = parts_le (omega (arith, lt_parts low, parts-+ (pos 0) (neg_ℤ num), pp_neg num, nn_neg num))

    go : (h : Ordering) → given below_zero h num den ≡ pos 0 -ℤ moved_on h (pos (nat_abs num / nat_abs den))
    go Less = sym (+ℤ_idl (neg_ℤ (pos (nat_abs num / nat_abs den))))
    go Equal = sym (+ℤ_idl (neg_ℤ (pos (nat_abs num / nat_abs den + 1))))
    go Greater = sym (+ℤ_idl (neg_ℤ (pos (nat_abs num / nat_abs den + 1))))

-- ---- the two on either side, and which is nearer

bracketed : (num den : ℤ) → pos 0 <ℤ den → Bracketed num den
bracketed num den above =
    (omega (arith, div-add-mod' (nat_abs num) (nat_abs den)), omega (arith, div-add-mod' (nat_abs num) (nat_abs den), mod-lt (nat_abs num) (nat_abs-above above)))

-- a remainder r of d against half, and r against what is left of d
against_rest : (h : Ordering) (r d x y : ℕ) → x ≡ r → y + r ≡ d → Stands h (2 * r) d → Stands h x y
against_rest Less r d x y e f st = omega arith
against_rest Equal r d x y e f st = omega arith
against_rest Greater r d x y e f st = omega arith

module _ (num den : ℤ) (above : pos 0 <ℤ den) (s : Side) (on : HasSide s num) where
  off_signed : (m : ℕ) → off num den (signed s m) ≡ (m * nat_abs den - nat_abs num) + (nat_abs num - m * nat_abs den)
  off_signed m = ap (off num den) (signed_side num s m on) ∙ off_side num den m above

  off_whole : off num den (whole_part s num den) ≡ nat_abs num % nat_abs den
  off_whole = omega (arith, off_signed (nat_abs num / nat_abs den), div-add-mod' (nat_abs num) (nat_abs den))

  off_next : off num den (next_away s num den) + nat_abs num % nat_abs den ≡ nat_abs den
  off_next =
      omega
      (arith, off_signed (nat_abs num / nat_abs den + 1), div-add-mod' (nat_abs num) (nat_abs den), mod-lt (nat_abs num) (nat_abs-above above))

  nearer : (h : Ordering) → AgainstHalf h num den → Stands h (off num den (whole_part s num den)) (off num den (next_away s num den))
  nearer h = against_rest h (nat_abs num % nat_abs den) (nat_abs den) (off num den (whole_part s num den)) (off num den (next_away s num den)) off_whole off_next

-- ---- the entry's answer

module _ (num den : ℤ) (not : number_of (rounded AwayFromZero num den) ≡ 0) where
  above : pos 0 <ℤ den
  above = given_above AwayFromZero num den not

  as_given : (c : Case) → InCase c num den → rounded AwayFromZero num den ≡ Ok (given c.side c.half num den)
  as_given c in_c = whole_given AwayFromZero num den not ∙ ap Ok (sym (given_rounded num den c.side c.half in_c.0 in_c.1))

-- the entry's answer goes by the six cases
pub six_cases : SixCases
six_cases num den not = record {
  one_case = one_case num den;
  gives = as_given num den not;
  nearer = λ c in_c. nearer num den (above num den not) c.side in_c.0 c.half in_c.1;
  bracketed = bracketed num den (above num den not);
  ties_to_away = rw (whole_given AwayFromZero num den not) (rounded_ties_to_away num den (above num den not));
}

-- and they decide it: an answer that goes by them is the rounded number
pub decided : (num den : ℤ) {answer : Rounded} → ByCases num den answer → answer ≡ Ok (round_ties_to_away num den)
decided num den by =
    let (c, in_c, only) = by.one_case in
    by.gives c in_c ∙ ap Ok (given_rounded num den c.side c.half in_c.0 in_c.1)
