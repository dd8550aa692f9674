-- The numbers before the place are inside.
use Rattle.std.proofs.Common.{◌≡◌, ◌<◌, ℕ, false, get_or, pos}
use Rattle.sheet_checks.specs.Refusals.{outside}
use Rattle.sheet_checks.proofs.check.first_outside.Given as goal

abbrev pub invariant-loop-place : goal.invariant-loop-place
invariant-loop-place l = (j : ℕ) → j < l.place → outside l.least l.most (get_or l.list j (pos 0)) ≡ false
