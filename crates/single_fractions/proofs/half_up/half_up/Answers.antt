use Rattle.std.proofs.Common.{arith}
use mir.ValLaws.{to_z-of_z}
use Rattle.single_fractions.proofs.PlaceLimits.{places_passed}
use Rattle.single_fractions.proofs.HalvesUp.{floor_half_up}
use Rattle.single_fractions.proofs.half_up.half_up.Goals as goal

pub returns : goal.returns
returns c = grind (arith, to_z-of_z, places_passed, floor_half_up)
