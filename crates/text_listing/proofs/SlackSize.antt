-- A slack that is printed is a fraction of 64 bits, whatever places and distances are lent.
use mathlib.Core.Path.{◌≡◌, refl}
use mathlib.Core.Bool.{Bool, true, false, cond, ◌&&◌}
use Prim.Native.Nat.{ℕ, ◌+◌, ◌*◌, ◌≤◌, ◌<◌, ◌^◌}
use native.Mathlib.Omega.{arith}
use native.Mathlib.Nat.{mul-le-mul}
use borrow.Author.Tests.{leb-true}
use lib.IntN.{ℤ, pos, neg_ℤ, nat_abs, ◌-ℤ◌, ◌*ℤ◌}
use mir.Syntax.{w64}
use mir.Val.{SFits}
use Rattle.algebra.proofs.Whole.{le_parts}
use Rattle.algebra.proofs.Quotient.{nat_abs-neg, nat_abs-*, nat_abs-+, above_nat_abs, small_fits, quot_most}
use Rattle.ground.specs.Entries.{nat, int}
use Rattle.ground.specs.Limits.{distance_most, fraction_den_most, slack_num_most}
use Rattle.exact.specs.declared.Fraction.{Fraction}
use Rattle.std.specs.Prelude.{Ok}
use Rattle.exact.specs.Fraction.{whole}
use Rattle.single_fractions.specs.Places.{within_places}
use Rattle.exact.specs.Slack.{Measurable, gcd_of, lowest_of, difference, slack_between}
use Rattle.single_fractions.specs.Slack.{within_distance, refusal, slack_given, slack_answer}
use Rattle.single_fractions.proofs.Slacks.{place_measurable}
use Rattle.text_listing.specs.Listing.{Listable, is_label, place_in, printed_slack}

-- a fraction of two numbers of 64 bits
abbrev pub FractionFits : Fraction → Type 0
FractionFits q = SFits w64 q.num × SFits w64 q.den

-- ---- the difference

product_most : (x y : ℤ) {m n : ℕ} → nat_abs x ≤ m → nat_abs y ≤ n → nat_abs (x *ℤ y) ≤ m * n
product_most x y h k = rw nat_abs-* (mul-le-mul h k)

less_most : (x y : ℤ) {m n : ℕ} → nat_abs x ≤ m → nat_abs y ≤ n → nat_abs (x -ℤ y) ≤ m + n
less_most x y h k = omega (arith, nat_abs-+ x (neg_ℤ y), nat_abs-neg y)

measured_den : (q : Fraction) → Measurable q → nat_abs q.den ≤ fraction_den_most
measured_den q m = omega (arith, above_nat_abs m.above, le_parts m.den_most)

-- lowest terms are no larger
lowest_num : (q : Fraction) → nat_abs (lowest_of q).num ≤ nat_abs q.num
unfolding lowest_of
lowest_num q = quot_most q.num (pos (gcd_of (nat_abs q.num) (nat_abs q.den)))

lowest_den : (q : Fraction) → nat_abs (lowest_of q).den ≤ nat_abs q.den
unfolding lowest_of
lowest_den q = quot_most q.den (pos (gcd_of (nat_abs q.num) (nat_abs q.den)))

module _ (l r : Fraction) (g : ℤ) (ml : Measurable l) (mr : Measurable r) (mg : nat_abs g ≤ distance_most) where
  both_most : nat_abs (r.den *ℤ l.den) ≤ fraction_den_most * fraction_den_most
  both_most = product_most r.den l.den (measured_den r mr) (measured_den l ml)

  apart_most : nat_abs (r.num *ℤ l.den -ℤ l.num *ℤ r.den) ≤ slack_num_most * fraction_den_most + slack_num_most * fraction_den_most
  apart_most =
      less_most (r.num *ℤ l.den) (l.num *ℤ r.den)
      (product_most r.num l.den mr.num_most (measured_den l ml))
      (product_most l.num r.den ml.num_most (measured_den r mr))

  num_small : nat_abs (difference l r g).num < 2 ^ 63
  num_small =
      omega (
        arith,
        less_most ((r.num *ℤ l.den -ℤ l.num *ℤ r.den) *ℤ pos 1) (g *ℤ (r.den *ℤ l.den))
            (product_most (r.num *ℤ l.den -ℤ l.num *ℤ r.den) (pos 1) {n = 1} apart_most (omega arith))
            (product_most g (r.den *ℤ l.den) mg both_most),
      )

  den_small : nat_abs (difference l r g).den < 2 ^ 63
  den_small = omega (arith, product_most (r.den *ℤ l.den) (pos 1) {n = 1} both_most (omega arith))

  between_fits : FractionFits (slack_between l r g)
  between_fits = (
    small_fits (slack_between l r g).num (omega (arith, num_small, lowest_num (difference l r g))),
    small_fits (slack_between l r g).den (omega (arith, den_small, lowest_den (difference l r g))),
  )

-- ---- the slack given

-- 0/1
zero_fits : FractionFits (whole (pos 0))
zero_fits = (small_fits (pos 0) (omega arith), small_fits (pos 1) (omega arith))

-- the slack of places and a distance within their limits, else 0/1
given_fits : (l r : Fraction) (g : ℤ) → FractionFits (slack_given (slack_answer l r g))
unfolding slack_answer
given_fits l r g = go (within_places l.num l.den) (within_places r.num r.den) (within_distance g) refl refl refl
  where
    go :
        (s t u : Bool) → within_places l.num l.den ≡ s → within_places r.num r.den ≡ t → within_distance g ≡ u
        → FractionFits (slack_given (cond (s && t) (cond u (Ok (slack_between l r g)) (refusal 8)) (refusal 12)))
    go true true true e f h =
        between_fits l r g (place_measurable l e) (place_measurable r f) (leb-true (nat_abs g) distance_most h)
    go true true false e f h = zero_fits
    go true false u e f h = zero_fits
    go false t u e f h = zero_fits

-- the slack printed for a gap: that one, or 0/1 where an end is no label
pub printed_fits : (l : Listable) (e : ℕ) → FractionFits (printed_slack l e)
unfolding printed_slack
printed_fits l e = go (is_label l (nat l.left e) && is_label l (nat l.right e))
  where
    given : Fraction
    given = slack_given (slack_answer (place_in l (nat l.left e)) (place_in l (nat l.right e)) (int l.distance e))

    go : (t : Bool) → FractionFits (cond t given (whole (pos 0)))
    go true = given_fits (place_in l (nat l.left e)) (place_in l (nat l.right e)) (int l.distance e)
    go false = zero_fits
