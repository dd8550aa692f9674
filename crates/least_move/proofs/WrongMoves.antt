-- Wrong places for revisions of P1, weights 1 and gap 0 to 1 of 10: each pair meets the gap, and moves no place further than the
-- want that moves furthest, but for the last; and it breaks a law for moved wants (specs/Moved).
-- Neither law rules out what the other does. Nothing cites them.
use mathlib.Core.List.{[], ◌∷◌}
use lib.IntN.{ℤ, pos}
use native.Mathlib.Omega.{arith}
use lib.ListN.{get_or}
use Rattle.exact.specs.Fraction.{◌≼◌, whole}
use Rattle.exact.specs.Total.{total}
use Rattle.least_move.specs.Sheet.{Sheet, label}
use Rattle.least_move.specs.Placement.{Placement}
use Rattle.least_move.specs.Moved.{NoWantDown, NoPlaceDown, sum_of_squares, sum_of_products, MovedWants}
use Rattle.least_move.specs.Bench.{sheet, written, minus, ◌to◌of◌}
use Rattle.least_move.proofs.Bench.{labels, at_mostℤ}

-- P1 with its second want here, and two labels at whole numbers
abbrev wanting : ℤ → Sheet
wanting d = written (sheet (pos 0 ∷ d ∷ []) (pos 1 ∷ pos 1 ∷ []) (0 to 1 of pos 10 ∷ []))

abbrev places : ℤ → ℤ → Placement
places x y i = whole (get_or (x ∷ y ∷ []) i.0 (pos 0))

-- the want goes from 0 to 20
want_up : NoWantDown (wanting (pos 0)) (wanting (pos 20))
want_up = (labels (λ i. at_mostℤ _ _)).shows tt

-- -5, 5 to -6, 15: the first place goes down. The squares alone would let it pass, 101 of 200
pub goes_down : MovedWants (wanting (pos 0)) (wanting (pos 20)) (places (minus 5) (pos 5)) (places (minus 6) (pos 15)) → ⊥
goes_down laws = (laws.rising want_up (label 0) (omega arith)).le

goes_down_squares : sum_of_squares (wanting (pos 0)) (places (minus 5) (pos 5)) (places (minus 6) (pos 15))
    ≼ sum_of_products (wanting (pos 0)) (wanting (pos 20)) (places (minus 5) (pos 5)) (places (minus 6) (pos 15))
unfolding sum_of_squares sum_of_products total
goes_down_squares = record { le = tt }

-- turned round: the want goes from 20 to 0, and the first place up
pub goes_up : MovedWants (wanting (pos 20)) (wanting (pos 0)) (places (minus 6) (pos 15)) (places (minus 5) (pos 5)) → ⊥
goes_up laws = (laws.falling want_up (label 0) (omega arith)).le

-- -5, 5 to 15, 25: the first goes along with the second, 800 of 400. No place goes down
pub goes_along : MovedWants (wanting (pos 0)) (wanting (pos 20)) (places (minus 5) (pos 5)) (places (pos 15) (pos 25)) → ⊥
unfolding sum_of_squares sum_of_products total
goes_along laws = laws.squares.le

goes_along_up : NoPlaceDown (wanting (pos 0)) (places (minus 5) (pos 5)) (places (pos 15) (pos 25))
goes_along_up = (labels (λ i. at_mostℤ _ _)).shows tt

-- and turned round the first law asks nothing of it, since a want goes down
goes_along_back : ¬ (NoWantDown (wanting (pos 20)) (wanting (pos 0)))
goes_along_back down = (down (label 1) (omega arith)).le

-- both moved by 10 where no want moves: 200 of 0
pub moves_unasked : MovedWants (wanting (pos 0)) (wanting (pos 0)) (places (minus 5) (pos 5)) (places (pos 5) (pos 15)) → ⊥
unfolding sum_of_squares sum_of_products total
moves_unasked laws = laws.squares.le
