-- What one read gives stands behind what came before.
use Rattle.std.proofs.Common.{rules}
use Rattle.console.proofs.ReadLaws.{read_more}
use Rattle.console.proofs.read_full.Goals as goal

-- within the buffer, which keeps its length, and what the input gave up
pub loop-done-preserved : goal.loop-done-preserved
loop-done-preserved g c = (search rules, search rules, search (rules, read_more))
