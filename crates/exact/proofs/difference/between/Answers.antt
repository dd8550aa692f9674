-- The places are measurable, so that every product and difference fits.
use Rattle.exact.proofs.Slacks.{apart_asks, span_asks, num_asks, difference_read}
use Rattle.exact.proofs.difference.between.Goals as goal

pub overflow_sub-apart : goal.overflow_sub-apart
overflow_sub-apart c = apart_asks c.args.left c.args.right c.args.distance c.requires.0 c.requires.1 c.requires.2

pub overflow_mul-result : goal.overflow_mul-result
overflow_mul-result c = span_asks c.args.left c.args.right c.args.distance c.requires.0 c.requires.1 c.requires.2

pub overflow_sub-result : goal.overflow_sub-result
overflow_sub-result c = num_asks c.args.left c.args.right c.args.distance c.requires.0 c.requires.1 c.requires.2

pub returns : goal.returns
returns c = difference_read c.args.left c.args.right c.args.distance c.requires.0 c.requires.1 c.requires.2
