-- Demand 3, the largest-move law (document 01, "What a station lends"; document 02, Item 6), of two layout calls on sheets that
-- have the same weights and gaps (`SameButWants`); which two calls is said in TwoCalls.
use Rattle.std.specs.Prelude.{◌≡◌, ◌↔◌}
use Rattle.least_move.specs.Placement.{Placement, Feasible, LeastMove}
use Rattle.least_move.specs.Moved.{LargestMove, SameNumbers}
use Rattle.ground.specs.Answers.{Answer, placed}
use Rattle.sheet_checks.specs.Lent.{Read, Written, sheet_of, place_of}
use Rattle.sheet_checks.specs.Refusals.{pass, table}

-- some placement meets all gaps of the sheet
abbrev pub Placeable : Read → Type 0
Placeable r = (p : Placement) × Feasible (sheet_of r) p

-- "A sheet is accepted if its call answers placed"; the carried records and the buffers lent to write may differ in all they
-- hold
pub record Demand3 (r : Read) (w : Written) (a : Answer) (after : Written) (r' : Read) (w' : Written) (a' : Answer) (after' : Written) : Type 0 where
  -- where the table lets both pass, both are accepted or neither
  pub both_or_neither : table r w ≡ pass → table r' w' ≡ pass → (a ≡ placed) ↔ (a' ≡ placed)
  -- since each is accepted exactly if the table lets it pass and a placement meets all gaps
  pub accepted : (a ≡ placed) ↔ ((table r w ≡ pass) × Placeable r)
  pub accepted' : (a' ≡ placed) ↔ ((table r' w' ≡ pass) × Placeable r')
  -- the places are the least moves of demand 2
  pub least : a ≡ placed → LeastMove (sheet_of r) (place_of after)
  pub least' : a' ≡ placed → LeastMove (sheet_of r') (place_of after')
  -- no place moves by more than a distance if no want does
  pub largest_move : a ≡ placed → a' ≡ placed → LargestMove (sheet_of r) (sheet_of r') (place_of after) (place_of after')
  -- at distance zero every place is the same numerator over the same denominator
  pub same_numbers : a ≡ placed → a' ≡ placed → SameNumbers (sheet_of r) (sheet_of r') (place_of after) (place_of after')
