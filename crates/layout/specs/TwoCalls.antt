-- What is promised of two layout calls (document 01, "What a station lends"; document 02, Item 7).
use Rattle.std.specs.Prelude.{◌≡◌}
use Rattle.ground.specs.Answers.{Answer, placed}
use Rattle.least_move.specs.Moved.{SameButWants, MovedWants}
use Rattle.sheet_checks.specs.Lent.{Read, Written, sheet_of, place_of}
use Rattle.layout.specs.Promise.{Promise}
use Rattle.layout.specs.Demand3.{Demand3}

-- each call keeps its promise; where their sheets "have the same weights and gaps" demand 3 holds of the two, and where both
-- are accepted too, "with any carried records", the two laws for moved wants. (The laws alone would let a layout stay as it
-- was; the promises do not, nor a second call that refuses or writes nothing: proofs/WrongPairs.)
pub record BothPromised (r : Read) (w : Written) (a : Answer) (after : Written) (r' : Read) (w' : Written) (a' : Answer) (after' : Written) : Type 0 where
  pub first : Promise r w a after
  pub second : Promise r' w' a' after'
  pub demand_3 : SameButWants (sheet_of r) (sheet_of r') → Demand3 r w a after r' w' a' after'
  pub moved_wants : SameButWants (sheet_of r) (sheet_of r') → a ≡ placed → a' ≡ placed →
      MovedWants (sheet_of r) (sheet_of r') (place_of after) (place_of after')

-- It is so of any two calls that keep their promises (`any_two_calls` in proofs/TwoCalls). Each is lent its gaps as lists or
-- as records: "the pair may be one of each", or two of one form; and what they are lent to write may differ in all it holds,
-- or be what the first call left.
abbrev pub AnyTwoCalls : Type 0
AnyTwoCalls =
    (r : Read) (w : Written) (a : Answer) (after : Written) (r' : Read) (w' : Written) (a' : Answer) (after' : Written) →
    Promise r w a after → Promise r' w' a' after' → BothPromised r w a after r' w' a' after'
