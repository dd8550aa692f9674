-- What the checks' private functions promise to each other, over the definitions of Refusals.
use Rattle.std.specs.Prelude.{◌≡◌, ℕ, Option, Some, None, length, map}
use Rattle.ground.specs.Answers.{Answer}
use Rattle.ground.specs.declared.lists.Lists.{Lists}
use Rattle.sheet_checks.specs.Lent.{Read}
use Rattle.sheet_checks.specs.Refusals.{pass, refuse, in_turn, offender, rows}

-- the answer to what a search for an offender found
abbrev pub told : ℕ → Option ℕ → Answer
told number (Some place) = refuse number place
told number None = pass

-- lists that belong together have the same length
pub record Even (lists : Lists) : Type 0 where
  pub weights : length lists.weight.now ≡ length lists.wanted.now
  pub rights : length lists.right.now ≡ length lists.left.now
  pub distances : length lists.distance.now ≡ length lists.left.now
  pub kinds : length lists.kind.now ≡ length lists.left.now

-- 5 to 8, and 23
abbrev pub contents_of : Read → Answer
contents_of r = in_turn (map offender (rows r))
