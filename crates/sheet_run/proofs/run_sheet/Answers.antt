-- `sheet_run::run_sheet` meets its contract: a refused text lists nothing, and its record fits.
use Rattle.std.proofs.Common.{refl, arith}
use Rattle.sheet_run.proofs.Runs.{refusal_most}
use Rattle.sheet_run.proofs.run_sheet.Goals as goal

pub print-requires : goal.print-requires
print-requires c = (
  record { labels = omega arith; gaps = omega arith; dens = refl; right = refl; distance = refl },
  refusal_most c.args.text.now c.in-Err.unread c.in-Err.ensures.read,
)
