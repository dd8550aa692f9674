-- What an outer step comes to.
use Rattle.std.specs.Prelude.{ℕ, ◌≤◌, ◌<◌, ◌≡◌, Bool, true, false, List, ℤ}
use Rattle.least_move.specs.States.{Reached, Pushes}
use Rattle.ground.specs.Entries.{nat}
use Rattle.ground.specs.declared.problem.Problem.{Problem}
use Rattle.core_forest.specs.Problem.{marks_of, numbers_of, IsForest}
use Rattle.core_forest.specs.declared.search.Work.{Work}
use Rattle.core_forest.specs.declared.state.State.{State}
use Rattle.core_balance.specs.Balance.{Remarked, Untouched}
use Rattle.core_advance.specs.declared.Push.{Push}
use Rattle.core_advance.specs.Advance.{PushedBy, BlockedBy}

-- gap c pushes as it is said
abbrev pub PushesBy : Problem → ℕ → Push → Type 0
PushesBy p c push = Pushes (numbers_of p) c push.from.0 push.to.0 push.reach

-- the gap is tight at a larger cost, or nothing gives way
abbrev pub RaisedTo : Bool → (p : Problem) (push : Push) (num den : ℕ → ℤ) (mark : List ℕ) (w : Work) → Type 0
RaisedTo true p push num den mark w = Reached (numbers_of p) (marks_of mark) num den
RaisedTo false p push num den mark w = PushedBy p (marks_of mark) push num den × BlockedBy p mark push w

-- from a forest in which gap c pushes, to a forest
pub record Raised (p : Problem) (mark₀ : List ℕ) (c : ℕ) (push : Push) (r : Bool) (mark : List ℕ) (w : Work) : Type 0 where
  pub forest : IsForest p mark₀ → PushesBy p c push → (num den : ℕ → ℤ) → PushedBy p (marks_of mark₀) push num den → IsForest p mark
  pub raised : IsForest p mark₀ → PushesBy p c push → (num den : ℕ → ℤ) → PushedBy p (marks_of mark₀) push num den → RaisedTo r p push num den mark w
  pub bytes : ((e : ℕ) → e < p.gaps → nat mark₀ e ≤ 1) → (e : ℕ) → e < p.gaps → nat mark e ≤ 1

-- marks have changed, and neither numerators nor entries that are no gap's and no end's of one
pub record MarksChanged (p : Problem) (s₀ s : State) : Type 0 where
  pub remarked : Remarked p.left p.right s₀.mark s₀.den s₀.load s₀.over s.mark s.den s.load s.over
  pub untouched : Untouched p.gaps p.left p.right s₀.mark s₀.den s₀.load s₀.over s.mark s.den s.load s.over
  pub nums : s.num ≡ s₀.num
