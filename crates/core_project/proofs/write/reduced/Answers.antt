-- Zero is 0/1, and any other fraction is as `lowest_by` gives it.
use Rattle.std.proofs.Common.{sym, ap, ◌∙◌, w64, to_z, to_z-of_z}
use Rattle.core_project.proofs.Passes.{zero_reduced}
use Rattle.core_project.proofs.write.reduced.Goals as goal

pub returns-then-num-eq0 : goal.returns-then-num-eq0
returns-then-num-eq0 c = (
  zero_reduced (record { num = c.args.num; den = c.args.den }) (sym (to_z-of_z c.ranges.num) ∙ ap (to_z w64) c.if-num-eq0.true) c.requires.0,
  c.requires.1,
)
