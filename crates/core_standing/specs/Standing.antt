-- What the method stands on between outer steps: a forest in balance with lawful multipliers.
use Rattle.std.specs.Prelude.{ℕ, ◌≤◌, ◌<◌, List, ℤ, pos, ◌<ℤ◌}
use Rattle.least_move.specs.States as States
use Rattle.least_move.specs.States.{StateAt, Settled}
use Rattle.ground.specs.Entries.{nat, int}
use Rattle.ground.specs.declared.problem.Problem.{Problem}
use Rattle.core_forest.specs.Problem.{marks_of, numbers_of, plain, IsForest}
use Rattle.core_forest.specs.declared.state.State.{State}
use Rattle.core_balance.specs.Places.{PlacesFound}
use Rattle.core_balance.specs.Balance.{Balanced}
use Rattle.core_worst_gap.specs.WorstGap.{GapHolds}

-- marks that the method can start from: a forest with lawful multipliers
pub record Startable (p : Problem) (mark : List ℕ) : Type 0 where
  pub forest : IsForest p mark
  pub bytes : (e : ℕ) → e < p.gaps → nat mark e ≤ 1
  pub N : ℤ
  pub X : ℕ → ℤ
  pub Λ : ℕ → ℤ
  pub above : pos 0 <ℤ N
  pub state : StateAt (numbers_of p) (marks_of mark) 0 0 N (pos 0) X Λ
  pub lawful : States.Lawful (numbers_of p) (marks_of mark) Λ

-- between outer steps
pub record Standing (p : Problem) (mark : List ℕ) (num den load over : List ℤ) : Type 0 where
  pub forest : IsForest p mark
  pub bytes : (e : ℕ) → e < p.gaps → nat mark e ≤ 1
  pub settled : Settled (numbers_of p) (marks_of mark) (int num) (int den)
  pub found : PlacesFound p mark num den
  pub balanced : Balanced (plain p) mark num den load over

abbrev pub StandingState : Problem → State → Type 0
StandingState p s = Standing p s.mark s.num s.den s.load s.over

-- every gap holds
abbrev pub AllHold : Problem → (num den : List ℤ) → Type 0
AllHold p num den = (e : ℕ) → e < p.gaps → GapHolds p num den e
