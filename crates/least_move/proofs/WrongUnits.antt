-- Whole units by other rules for halves, which break a gap that the places meet; and that halves to the larger number do not.
-- Nothing cites them.
use Prim.Native.Nat.{◌*◌, ◌%◌, ◌≤◌}
use mathlib.Core.Path.{◌≡◌, refl}
use mathlib.Core.List.{[], ◌∷◌}
use native.Mathlib.Omega.{arith}
use lib.IntN.{ℤ, pos, nat_abs}
use Rattle.exact.specs.declared.Fraction.{Fraction}
use Rattle.exact.specs.Nearest.{off, round_ties_to_away, round_half_up}
use Rattle.exact.specs.Slack.{euclid, lowest_of}
use Rattle.least_move.specs.Sheet.{label, gap_number}
use Rattle.least_move.specs.Placement.{Holds}
use Rattle.least_move.specs.WholeUnits.{Units, whole_units, UnitsMeet}
use Rattle.least_move.specs.Bench.{Placed, sheet, worked_out, ◌over◌, ◌to◌of◌, sheet_of, placement, crossing}
use Rattle.least_move.proofs.WholeUnits.{whole_meet}

-- ---- 1/2 and -1/2 with a gap of -1

-- halves away from zero would be 1 and -1, which break it
halves_away : ¬ (UnitsMeet (sheet_of crossing) (λ i. round_ties_to_away (placement crossing i).num (placement crossing i).den))
unfolding round_ties_to_away
halves_away u = (u.meets (gap_number 0) (omega arith)).le

-- to the larger number they are 1 and 0, which meet it
halves_up : (whole_units (placement crossing) (label 0) ≡ pos 1) × (whole_units (placement crossing) (label 1) ≡ pos 0)
unfolding round_half_up
halves_up = (refl, refl)

halves_up_meet : UnitsMeet (sheet_of crossing) (whole_units (placement crossing))
unfolding round_half_up
halves_up_meet =
    whole_meet (sheet_of crossing) (whole_units (placement crossing)) (λ e h. let first : e.0 ≡ 0 = omega arith in rw first (record { le = tt }))

-- ---- 3/2 and 5/2 with a gap of 1

-- wants 2, 2, weights 1, gap 0 to 1 of 1
abbrev stepped : Placed
stepped =
    record {
      sheet = sheet (pos 2 ∷ pos 2 ∷ []) (pos 1 ∷ pos 1 ∷ []) (0 to 1 of pos 1 ∷ []);
      places = pos 3 over 2 ∷ pos 5 over 2 ∷ [];
      multipliers = pos 1 over 1 ∷ [];
      source = worked_out;
    }

-- the places meet it
stepped_holds : Holds (placement stepped) ((sheet_of stepped).gap (gap_number 0))
unfolding lowest_of euclid
stepped_holds = record { le = tt }

-- z is at most a half from q, and even where it is a half
abbrev HalfEven : Fraction → ℤ → Type 0
HalfEven q z = (2 * off q.num q.den z ≤ nat_abs q.den) × (2 * off q.num q.den z ≡ nat_abs q.den → nat_abs z % 2 ≡ 0)

-- halves to the even number would be 2 and 2, which break it
abbrev even_units : Units
even_units i = pos 2

halves_even : HalfEven (placement stepped (label 0)) (even_units (label 0)) × HalfEven (placement stepped (label 1)) (even_units (label 1))
halves_even = ((omega arith, λ half. refl), (omega arith, λ half. refl))

halves_even_broken : ¬ (UnitsMeet (sheet_of stepped) even_units)
halves_even_broken u = (u.meets (gap_number 0) (omega arith)).le
