-- Demand 3 and the two laws for moved wants follow from the promises of two calls, for each pair of ways to lend the gaps.
use mathlib.Core.Path.{◌≡◌}
use mathlib.Core.Logic.{◌↔◌}
use native.Mathlib.Omega.{arith}
use Rattle.exact.specs.Fraction.{LowestTerms}
use Rattle.least_move.specs.Placement.{Placement, Feasible}
use Rattle.least_move.specs.Moved.{EachLabel, SameButWants, RevisionLaws}
use Rattle.least_move.proofs.Moved.{same_sym, feasible_same, least_move_laws}
use Rattle.ground.specs.Answers.{Answer}
use Rattle.ground.specs.Answers as answer
use Rattle.sheet_checks.specs.Lent.{Read, Written, sheet_of, place_of}
use Rattle.sheet_checks.specs.Refusals.{pass, table}
use Rattle.layout.specs.Promise.{Promise}
use Rattle.layout.specs.Demand3.{Demand3}
use Rattle.layout.specs.TwoCalls.{AnyTwoCalls}
use Rattle.layout.proofs.Facts.{placed_exactly, accepted_exactly, placed_accepted, placed_least, placed_proper}

module _ {r : Read} {w : Written} {a : Answer} {after : Written} {r' : Read} {w' : Written} {a' : Answer} {after' : Written}
    (one : Promise r w a after) (two : Promise r' w' a' after') (same : SameButWants (sheet_of r) (sheet_of r')) where
  accepted_together : table r w ≡ pass → table r' w' ≡ pass → (a ≡ answer.placed) ↔ (a' ≡ answer.placed)
  accepted_together e e' =
      let there : (a ≡ answer.placed) ↔ ((p : Placement) × Feasible (sheet_of r) p) = placed_exactly one e in
      let here : (a' ≡ answer.placed) ↔ ((p : Placement) × Feasible (sheet_of r') p) = placed_exactly two e' in (
        (λ placed. let p : (p : Placement) × Feasible (sheet_of r) p = there.0 placed in here.1 (p.0, feasible_same (sheet_of r) (sheet_of r') same p.0 p.1)),
        λ placed. let p : (p : Placement) × Feasible (sheet_of r') p = here.0 placed in
            there.1 (p.0, feasible_same (sheet_of r') (sheet_of r) (same_sym (sheet_of r) (sheet_of r') same) p.0 p.1),
      )

  -- the laws of the two least moves
  laws : a ≡ answer.placed → a' ≡ answer.placed → RevisionLaws (sheet_of r) (sheet_of r') (place_of after) (place_of after')
  laws placed placed' =
      least_move_laws (sheet_of r) (sheet_of r') (place_of after) (place_of after') (placed_proper one placed) same (placed_least one placed) (placed_least two placed')

  lowest' : a' ≡ answer.placed → EachLabel (sheet_of r) (λ i. LowestTerms (place_of after' i))
  lowest' placed' i h = (placed_accepted two placed').places_lowest i (omega (arith, same.labels))

  pub demand_3 : Demand3 r w a after r' w' a' after'
  demand_3 =
      record {
        both_or_neither = accepted_together;
        accepted = accepted_exactly one;
        accepted' = accepted_exactly two;
        least = placed_least one;
        least' = placed_least two;
        largest_move = λ placed placed'. (laws placed placed').largest_move;
        same_numbers = λ placed placed'. (laws placed placed').same_numbers (placed_accepted one placed).places_lowest (lowest' placed');
      }

pub any_two_calls : AnyTwoCalls
any_two_calls r w a after r' w' a' after' one two =
    record {
      first = one;
      second = two;
      demand_3 = demand_3 one two;
      moved_wants = λ same placed placed'. (laws one two same placed placed').moved_wants;
    }
