-- The counts are those of a sheet that was read.
use Rattle.std.proofs.Common.{subst}
use Rattle.text_reading.specs.Problems.{zero_lists}
use Rattle.text_reading.proofs.Limits.{Few, few_into}
use Rattle.text_reading.proofs.problem.read_problem.Goals as goal

pub returns-clause-within : goal.returns-clause-within
returns-clause-within c = subst Few c.in_ok-counts.was (few_into c.args.text.now zero_lists _ _ c.read_sheet.ensures)
