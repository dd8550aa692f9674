-- The outer loop: from a forest that is in balance to one at which every gap holds, or to a ring.
use Rattle.std.specs.Prelude.{ℕ, ◌≤◌, ◌<◌, cond, Option, Some, None, Result, Ok, Err, length, take, pos, ◌-ℤ◌, ◌≡◌}
use Rattle.least_move.specs.Sheet.{label}
use Rattle.least_move.specs.States.{measure}
use Rattle.ground.specs.Entries.{nat, int, Filled}
use Rattle.ground.specs.declared.problem.Problem.{Problem}
use Rattle.core_forest.specs.Problem.{numbers_of, sheet_from}
use Rattle.core_forest.specs.declared.state.State.{State}
use Rattle.core_balance.specs.Hanging.{BeyondKept}
use Rattle.core_settle.specs.Raise.{MarksChanged}
use Rattle.least_move.specs.Ring.{steps_of, IsRing}
use Rattle.core_ring.specs.declared.Ring.{Ring}
use Rattle.core_ring.specs.declared.RingSize.{RingSize}
use Rattle.core_advance.specs.declared.Push.{Push}
use Rattle.core_worst_gap.specs.declared.Lacking.{Lacking}
use Rattle.ground.specs.Limits.{labels_most}
use Rattle.core_standing.specs.Standing.{StandingState, AllHold}

-- what the outer loop comes to, as the code's `Found`
abbrev pub Found : Type 0
Found = Result (Unit {0}) RingSize

-- the push of a gap
abbrev pub push_of : Problem → Lacking → Push
push_of p lacking =
    let e = lacking.gap.0 in
    cond lacking.backwards
    (record { from = label (nat p.right e); to = label (nat p.left e); reach = pos 0 -ℤ int p.distance e })
    (record { from = label (nat p.left e); to = label (nat p.right e); reach = int p.distance e })

-- a ring stands in the front of the two ring arrays, and each of its bytes is 0 or 1
pub record RingStands (p : Problem) (size : ℕ) (r : Ring) : Type 0 where
  pub some : 0 < size
  pub most : size ≤ labels_most
  pub gaps_room : size ≤ length r.gaps
  pub back_room : size ≤ length r.back
  pub ring : IsRing (sheet_from p) (steps_of (take size r.gaps) (take size r.back))
  pub bytes : (k : ℕ) → k < size → nat r.back k ≤ 1

-- a step that came to a ring is given up: the labels stood in balance, and some marks were dropped since
pub record GivenUp (p : Problem) (s : State) : Type 0 where
  pub before : State
  pub stood : StandingState p before
  pub changed : MarksChanged p before s

-- what the outer loop says: a forest in balance at which every gap holds, or a ring
abbrev pub SettleSays : Problem → Found → State → Ring → Type 0
SettleSays p (Ok _) s ring = StandingState p s × AllHold p s.num s.den
SettleSays p (Err size) s ring = RingStands p size.0 ring × GivenUp p s

-- what one turn says: that, or another is due, at a smaller measure
abbrev pub TurnSays : Problem → State → Option Found → State → Ring → Type 0
TurnSays p s₀ (Some found) s ring = SettleSays p found s ring
TurnSays p s₀ None s ring =
    StandingState p s × (measure (numbers_of p) (int s.num) (int s.den) < measure (numbers_of p) (int s₀.num) (int s₀.den))

-- how many entries of the ring's arrays the outer loop writes, and a turn
abbrev pub settle_writes : Found → ℕ
settle_writes (Ok _) = 0
settle_writes (Err size) = size.0

abbrev pub turn_writes : Option Found → ℕ
turn_writes (Some found) = settle_writes found
turn_writes None = 0

-- so many entries of the ring's arrays were written
abbrev pub RingFilled : ℕ → (before after : Ring) → Type 0
RingFilled n before after = Filled n before.gaps after.gaps × Filled n before.back after.back

-- entries that are no gap's and no label's stay
pub record Outlying (p : Problem) (s₀ s : State) : Type 0 where
  pub marks : (e : ℕ) → p.gaps ≤ e → nat s.mark e ≡ nat s₀.mark e
  pub numbers : BeyondKept p s₀ s
