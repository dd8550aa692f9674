-- What the core leaves in the work arrays.
use Rattle.std.specs.Prelude.{ℕ, ◌+◌, ◌*◌, ◌≤◌, ◌<◌, ◌≡◌, ◌≢◌, Bool, true, Result, Ok, Err, pos, nat_abs, ◌≤ℤ◌}
use Rattle.exact.specs.Fraction.{Reduced, fraction_at}
use Rattle.ground.specs.declared.GapNumber.{GapNumber}
use Rattle.ground.specs.declared.problem.Problem.{Problem}
use Rattle.least_move.specs.Sheet.{Sheet, ignored, label, gap_number}
use Rattle.least_move.specs.Placement.{Placement}
use Rattle.least_move.specs.Multipliers.{Multipliers, Conditions}
use Rattle.least_move.specs.Marks.{Marks}
use Rattle.ground.specs.Entries.{nat, int}
use Rattle.core_forest.specs.Problem.{marks_of, sheet_from}
use Rattle.core_forest.specs.declared.state.State.{State}
use Rattle.core_balance.specs.Places.{DenMost}
use Rattle.core_ring.specs.declared.Ring.{Ring}
use Rattle.core_ring.specs.declared.RingSize.{RingSize}
use Rattle.core_settle.specs.Settle.{RingStands}
use Rattle.ground.specs.Limits.{offset_most}

-- placements and multipliers that are those of the state, in lowest terms
pub record Written (p : Problem) (s : State) (place : Placement) (multiplier : Multipliers) : Type 0 where
  pub places : (i : ℕ) → i < p.labels → Reduced (fraction_at s.num s.den i) (place (label i))
  pub multipliers : (e : ℕ) → e < p.gaps → Reduced (fraction_at s.load s.over e) (multiplier (gap_number e))

-- a marked gap is never of the kind ignored
abbrev pub Asked : Sheet → (GapNumber → Bool) → Type 0
Asked s marked = (e : GapNumber) → e.0 < s.gaps → marked e ≡ true → (s.gap e).kind ≢ ignored

pub record CorePlaced (p : Problem) (s : State) : Type 0 where
  pub bytes : (e : ℕ) → e < p.gaps → nat s.mark e ≤ 1
  pub den_least : (i : ℕ) → i < p.labels → pos 1 ≤ℤ int s.den i
  pub over_least : (e : ℕ) → e < p.gaps → pos 1 ≤ℤ int s.over e
  pub den_most : (i : ℕ) → i < p.labels → DenMost p (int s.den i)
  pub num_most : (i : ℕ) → i < p.labels → (B : ℕ) → ((j : ℕ) → j < p.labels → nat_abs (int p.wanted j) ≤ B) → nat_abs (int s.num i) ≤ (B + offset_most) * nat_abs (int s.den i)
  pub conditions : (place : Placement) (multiplier : Multipliers) → Written p s place multiplier → Conditions (sheet_from p) place multiplier
  pub marks : (place : Placement) (multiplier : Multipliers) → Written p s place multiplier → Marks (sheet_from p) place multiplier (λ e. marks_of s.mark e.0)
  pub asked : Asked (sheet_from p) (λ e. marks_of s.mark e.0)
  pub over_most : (e : ℕ) → e < p.gaps → DenMost p (int s.over e)

-- what the core says: every label is placed, or a ring stands in its arrays
abbrev pub CoreSays : Problem → Result (Unit {0}) RingSize → State → Ring → Type 0
CoreSays p (Ok _) s ring = CorePlaced p s
CoreSays p (Err size) s ring = RingStands p size.0 ring
