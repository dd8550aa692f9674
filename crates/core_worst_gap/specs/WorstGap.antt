-- Which gaps hold at places num / den: the sign of the slack tells it.
use Rattle.std.specs.Prelude.{ℕ, ◌≤◌, ◌<◌, ◌≡◌, ◌≢◌, Bool, true, false, cond, List, Option, None, Some, eqb, ℤ, pos, nat_abs, ◌≤ℤ◌, ◌<ℤ◌}
use Rattle.exact.specs.declared.Fraction.{Fraction}
use Rattle.exact.specs.Fraction.{fraction_at}
use Rattle.exact.specs.Slack.{slack_between}
use Rattle.least_move.specs.Sheet.{exactly, ignored, kind_of}
use Rattle.least_move.specs.Placement.{HoldsWith}
use Rattle.ground.specs.Entries.{nat, int}
use Rattle.ground.specs.declared.GapNumber.{GapNumber}
use Rattle.ground.specs.declared.problem.Problem.{Problem}
use Rattle.core_worst_gap.specs.declared.Lead.{Lead}
use Rattle.core_worst_gap.specs.declared.Lacking.{Lacking}
use Rattle.ground.specs.Limits.{block_weight_most, distance_most, gaps_most, labels_most, moment_most}

-- the slack of gap e
abbrev pub slack_at : Problem → (num den : List ℤ) → ℕ → Fraction
slack_at p num den e =
    slack_between (fraction_at num den (nat p.left e)) (fraction_at num den (nat p.right e)) (int p.distance e)

-- gap e holds
abbrev pub GapHolds : Problem → (num den : List ℤ) → ℕ → Type 0
GapHolds p num den e = HoldsWith (kind_of (nat p.kind e)) (slack_at p num den e)

-- gap e does not hold; pushed backwards, an exact gap's right end stands too far right
abbrev pub Lacks : Problem → (num den : List ℤ) → ℕ → Bool → Type 0
Lacks p num den e false = (kind_of (nat p.kind e) ≢ ignored) × ((slack_at p num den e).num <ℤ pos 0)
Lacks p num den e true = (kind_of (nat p.kind e) ≡ exactly) × (pos 0 <ℤ (slack_at p num den e).num)

-- what the search for a gap that does not hold says of the first k gaps
abbrev pub WorstOf : Problem → (num den : List ℤ) → ℕ → Option Lacking → Type 0
WorstOf p num den k None = (e : ℕ) → e < k → GapHolds p num den e
WorstOf p num den k (Some worst) = (worst.gap.0 < k) × Lacks p num den worst.gap.0 worst.backwards

-- gap e, pushed as the flag says
abbrev pub lacking : GapNumber → Bool → Lacking
lacking e back = record { gap = e; backwards = back }

-- the worst gap so far
abbrev pub lead_of : Lead → Option Lacking
lead_of l = cond (eqb l.tag 0) None (Some (lacking l.gap (eqb l.tag 2)))

-- a place within the core's limits
pub record PlaceInRange (num den : List ℤ) (i : ℕ) : Type 0 where
  pub label_in : i < labels_most
  pub den_least : pos 1 ≤ℤ int den i
  pub den_most : nat_abs (int den i) ≤ block_weight_most
  pub num_most : nat_abs (int num i) ≤ moment_most

-- gaps within the core's limits whose ends are placed
pub record Comparable (p : Problem) (num den : List ℤ) : Type 0 where
  pub gaps_bound : p.gaps ≤ gaps_most
  pub left_placed : (e : ℕ) → e < p.gaps → PlaceInRange num den (nat p.left e)
  pub right_placed : (e : ℕ) → e < p.gaps → PlaceInRange num den (nat p.right e)
  pub distance_bound : (e : ℕ) → e < p.gaps → nat_abs (int p.distance e) ≤ distance_most
