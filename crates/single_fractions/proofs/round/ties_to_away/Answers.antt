-- Each of the six ways is a case of the rounding, found by the fraction's sign and by the remainder of its magnitude
-- against half.
use Rattle.std.proofs.Common.{arith}
use mir.ValLaws.{to_z-of_z}
use Rattle.single_fractions.proofs.RoundingCases.{above_given, below_given}
use Rattle.single_fractions.proofs.round.ties_to_away.Goals as goal

pub returns-in-Less : goal.returns-in-Less
returns-in-Less c = grind (arith, to_z-of_z, above_given)

pub returns-in-Equal : goal.returns-in-Equal
returns-in-Equal c = grind (arith, to_z-of_z, above_given)

pub returns-in-Greater : goal.returns-in-Greater
returns-in-Greater c = grind (arith, to_z-of_z, above_given)

pub returns-in-Less-against_half : goal.returns-in-Less-against_half
returns-in-Less-against_half c = grind (arith, to_z-of_z, below_given)

pub returns-in-Equal-against_half : goal.returns-in-Equal-against_half
returns-in-Equal-against_half c = grind (arith, to_z-of_z, below_given)

pub returns-in-Greater-against_half : goal.returns-in-Greater-against_half
returns-in-Greater-against_half c = grind (arith, to_z-of_z, below_given)
