-- What wrong definitions would admit on the cases of the bench, and that ours do not. Nothing cites them.
use mathlib.Core.Path.{ap}
use mathlib.Core.List.{List, [], ◌∷◌}
use native.Mathlib.Omega.{arith}
use lib.IntN.{pos, nat_abs}
use Rattle.exact.specs.declared.Fraction.{Fraction}
use Rattle.exact.specs.Slack.{euclid, lowest_of}
use Rattle.exact.specs.Total.{total}
use Rattle.least_move.specs.Sheet.{label, gap_number}
use Rattle.least_move.specs.Multipliers.{Conditions}
use Rattle.least_move.specs.Ring.{Ring}
use Rattle.least_move.specs.Bench.{Placed, sheet, worked_out, minus, ◌over◌, ◌to◌of◌, sheet_of, written, placement, multipliers}
use Rattle.least_move.specs.Marks.{forwards}

-- P1 with other places and another multiplier: wants 0, 0, weights 1, gap 0 to 1 of 10
abbrev first : List Fraction → Fraction → Placed
first places multiplier =
    record {
      sheet = sheet (pos 0 ∷ pos 0 ∷ []) (pos 1 ∷ pos 1 ∷ []) (0 to 1 of pos 10 ∷ []);
      places = places;
      multipliers = multiplier ∷ [];
      source = worked_out;
    }

abbrev Admitted : Placed → Type 0
Admitted c = Conditions (sheet_of c) (placement c) (multipliers c)

-- half the multiplier, as if the balance had no factor 2
half_multiplier : Admitted (first (minus 5 over 1 ∷ pos 5 over 1 ∷ []) (pos 5 over 1)) → ⊥
unfolding total
half_multiplier c = omega (arith, ap nat_abs (c.balance (label 0) (omega arith)))

-- a multiplier below zero, as if the balance had the other sign
turned_multiplier : Admitted (first (minus 5 over 1 ∷ pos 5 over 1 ∷ []) (minus 10 over 1)) → ⊥
turned_multiplier c = (c.lawful (gap_number 0) (omega arith)).le

-- a multiplier on a gap with room to spare: -10, 10 with 20
slack_multiplier : Admitted (first (minus 10 over 1 ∷ pos 10 over 1 ∷ []) (pos 20 over 1)) → ⊥
unfolding lowest_of euclid
slack_multiplier c = omega (arith, ap nat_abs (c.loose (gap_number 0) (omega arith) (λ t. omega (arith, ap nat_abs t))))

-- the gaps of P8 sum to zero, and are no ring
zero_ring : Ring (written (sheet (pos 0 ∷ pos 0 ∷ []) (pos 1 ∷ pos 1 ∷ []) (0 to 1 of pos 5 ∷ 1 to 0 of minus 5 ∷ []))) (forwards 0) (forwards 1 ∷ []) → ⊥
zero_ring r = r.above.lt
