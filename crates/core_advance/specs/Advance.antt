-- What an advance comes to, said of the states of an outer step.
use Rattle.std.specs.Prelude.{ℕ, ◌<◌, ◌≡◌, ◌⊎◌, ◌≢◌, Bool, true, false, List, ℤ}
use Rattle.least_move.specs.Sheet.{at_least}
use Rattle.least_move.specs.States.{Pushed, Reached, Without, With, Pushes}
use Rattle.core_forest.specs.Tree.{Tree}
use Rattle.ground.specs.Entries.{nat}
use Rattle.core_breaking.specs.declared.Outcome.{Outcome}
use Rattle.core_breaking.specs.declared.Outcome.TheVariants.{Dropped, Reached as reached, Ring}
use Rattle.ground.specs.declared.problem.Problem.{Problem}
use Rattle.core_forest.specs.declared.search.Work.{Work}
use Rattle.core_forest.specs.Problem.{graph_of, marks_of, numbers_of, IsForest}
use Rattle.core_forest.specs.Search.{Outside}
use Rattle.core_advance.specs.declared.Push.{Push}

-- the state of a push, in the numbers of the problem
abbrev pub PushedBy : Problem → (ℕ → Bool) → Push → (num den : ℕ → ℤ) → Type 0
PushedBy p F push num den = Pushed (numbers_of p) F push.from.0 push.to.0 push.reach num den

-- a marked gap is dropped: its multiplier is zero, and the gap still does not hold
pub record GapDropped (p : Problem) (mark : List ℕ) (push : Push) (e : ℕ) : Type 0 where
  pub gap_in : e < p.gaps
  pub marked : nat mark e ≡ 1
  pub pushed :
      (num den : ℕ → ℤ) → IsForest p mark → PushedBy p (marks_of mark) push num den →
      (F : ℕ → Bool) → Without p.gaps (marks_of mark) e F → PushedBy p F push num den

-- the gap becomes tight and can be marked: its ends stand in different blocks
pub record GapReached (p : Problem) (mark : List ℕ) (push : Push) : Type 0 where
  pub block : ℕ → Bool
  pub from : block push.from.0 ≡ true
  pub to : block push.to.0 ≡ false
  pub inside : (e : ℕ) → e < p.gaps → marks_of mark e ≡ true → block (nat p.left e) ≡ block (nat p.right e)
  pub settled :
      (num den : ℕ → ℤ) → IsForest p mark → PushedBy p (marks_of mark) push num den →
      (c : ℕ) → c < p.gaps → Pushes (numbers_of p) c push.from.0 push.to.0 push.reach → marks_of mark c ≡ false →
      (F : ℕ → Bool) → With p.gaps (marks_of mark) c F → Reached (numbers_of p) F num den

-- nothing gives way: the way from b up to a has no gap of the kind at least that points away from a
pub record Blocked (p : Problem) (mark : List ℕ) (a b count : ℕ) (at queue via up : List ℕ) (off : List ℤ) : Type 0 where
  pub tree : Tree (graph_of p mark) a count at queue via up off
  pub joined : 0 < nat at b
  pub on_way : ℕ → Bool
  pub starts : on_way b ≡ true
  pub climbs : (k : ℕ) → 0 < k → k < count → on_way (nat queue k) ≡ true → on_way (nat up (nat queue k)) ≡ true
  pub points :
      (k : ℕ) → 0 < k → k < count → on_way (nat queue k) ≡ true →
      (numbers_of p).kind (nat via (nat queue k)) ≡ at_least → nat p.right (nat via (nat queue k)) ≢ nat queue k

-- the same of what the search of the block of a left
abbrev pub BlockedBy : Problem → List ℕ → Push → Work → Type 0
BlockedBy p mark push w = Blocked p mark push.from.0 push.to.0 w.count w.at w.queue w.via w.up w.off

-- what each outcome says; only a ring is read out of the search
abbrev pub Gives : Problem → List ℕ → Push → Outcome → Work → Type 0
Gives p mark push (Dropped e) w = GapDropped p mark push e.0
Gives p mark push reached w = GapReached p mark push
Gives p mark push Ring w = BlockedBy p mark push w

-- after a search of the block of the root
pub record SearchedFrom (p : Problem) (mark : List ℕ) (root : ℕ) (w₀ w : Work) : Type 0 where
  pub tree : Tree (graph_of p mark) root w.count w.at w.queue w.via w.up w.off
  pub rest : Outside p.labels root w.count w₀ w

-- after a search of the block of a, in which b does not stand, and then of that of b
pub record BothSearched (p : Problem) (mark : List ℕ) (a b : ℕ) (w₀ w : Work) : Type 0 where
  pub w₁ : Work
  pub one : SearchedFrom p mark a w₀ w₁
  pub apart : nat w₁.at b ≡ 0
  pub two : SearchedFrom p mark b w₁ w

-- whatever gives way, the work arrays are left by a search from where the push begins, or by one from there and then one
-- from where it leads, which stands in another block
abbrev pub Searched : Problem → List ℕ → Push → (w₀ w : Work) → Type 0
Searched p mark push w₀ w =
    SearchedFrom p mark push.from.0 w₀ w ⊎ BothSearched p mark push.from.0 push.to.0 w₀ w
