-- Under the core's limits a multiplier's denominator is at most 172,800 before it is reduced, too.
use Prim.Native.Nat.{ℕ, ◌≤◌, ◌<◌}
use lib.IntN.{nat_abs}
use Rattle.ground.specs.Entries.{int}
use Rattle.ground.specs.Limits.{block_weight_most}
use Rattle.ground.specs.declared.problem.Problem.{Problem}
use Rattle.core_forest.specs.Problem.{Limits}
use Rattle.core_forest.specs.declared.state.State.{State}
use Rattle.core_balance.proofs.Placing.{den_limit}
use Rattle.core_project.specs.Core.{CorePlaced}

pub over_size : {p : Problem} {s : State} → Limits p → CorePlaced p s → (e : ℕ) → e < p.gaps → nat_abs (int s.over e) ≤ block_weight_most
over_size {s = s} lim c e h = den_limit lim (int s.over e) (c.over_most e h)
