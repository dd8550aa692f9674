-- The checks answer by the table; a sheet that passes is what the core asks, and its answer is judged.
use Rattle.std.proofs.Common.{sym, rules}
use Rattle.layout.proofs.Judging.{buffers_of, passed_ready, judged, judged_kept, refused_kept}
use Rattle.layout.proofs.lists.lay_out.Goals as goal

pub returns-in_err-check : goal.returns-in_err-check
returns-in_err-check c = refused_kept c.in_err-check.ensures (search rules)

pub project-found-requires : goal.project-found-requires
project-found-requires c = passed_ready c.args.lists _ (sym c.in_ok-check.ensures)

pub returns : goal.returns
returns c = judged_kept c.in_ok-check.ensures (judged c.args.lists _ (sym c.in_ok-check.ensures) (buffers_of _) _ c.project-found.ensures c.answered.ensures)
