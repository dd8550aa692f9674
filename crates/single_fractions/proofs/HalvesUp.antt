-- The rounding with halves to the larger number: of every fraction not refused the nearest whole number, of two as near the
-- larger; and the code's division.
use mathlib.Core.Path.{◌≡◌, refl, sym, ◌∙◌, ap}
use Prim.Native.Nat.{ℕ}
use lib.IntN.{ℤ, pos, negsuc, nat_abs, ◌+ℤ◌, ◌*ℤ◌}
use Rattle.std.specs.Int.{int_div_euclid}
use Rattle.algebra.proofs.Quotient.{nat_abs-*}
use Rattle.exact.specs.Nearest.{floor_of, round_half_up}
use Rattle.exact.proofs.Nearest.{round_half_up_lem, half_up_nearest}
use Rattle.single_fractions.specs.declared.Ties.TheVariants.{Up}
use Rattle.single_fractions.specs.Round.{HalvesUp}
use Rattle.single_fractions.proofs.Rounding.{given_above, whole_given}

-- ---- the law of the answer

pub halves_up : HalvesUp
halves_up num den not =
    let law = round_half_up_lem num den (given_above Up num den not) in
    record {
      unit = round_half_up num den;
      gives = whole_given Up num den not;
      ties_up = half_up_nearest num den (round_half_up num den) (given_above Up num den not) law;
      half_up = law;
    }

-- ---- the code's division, whose remainder is not below zero

floor_is : (z : ℤ) (d : ℕ) → int_div_euclid z (pos d) ≡ floor_of z d
floor_is (pos n) d = refl
floor_is (negsuc n) d = refl

pub half_up_is : (num den : ℤ) (d : ℕ) → pos 2 *ℤ den ≡ pos d → int_div_euclid (pos 2 *ℤ num +ℤ den) (pos d) ≡ round_half_up num den
unfolding round_half_up
half_up_is num den d e =
    floor_is (pos 2 *ℤ num +ℤ den) d
    ∙ ap (floor_of (pos 2 *ℤ num +ℤ den)) (ap nat_abs (sym e) ∙ nat_abs-* (pos 2) den)

pub floor_half_up : (num den : ℤ) → floor_of (pos 2 *ℤ num +ℤ den) (nat_abs (pos 2 *ℤ den)) ≡ round_half_up num den
unfolding round_half_up
floor_half_up num den = ap (floor_of (pos 2 *ℤ num +ℤ den)) (nat_abs-* (pos 2) den)
