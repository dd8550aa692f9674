-- One test refuses, whatever the rule, and each arm gives its rule's whole number.
use Rattle.std.proofs.Common.{◌≡◌, arith, true, w64}
use mir.ValLaws.{to_z-of_z}
use Rattle.single_fractions.specs.declared.Ties.TheVariants.{AwayFromZero, Up}
use Rattle.single_fractions.specs.Places.{within_places}
use Rattle.single_fractions.proofs.Rounding.{answers, refuses, in_range}
use Rattle.single_fractions.proofs.round.round.Goals as goal

pub returns-then-not-within_places : goal.returns-then-not-within_places
returns-then-not-within_places c = grind (arith, to_z-of_z, refuses)

pub ties_to_away-requires : goal.ties_to_away-requires
ties_to_away-requires c =
    let within : within_places c.args.num c.args.den ≡ true = grind (arith, to_z-of_z) in
    rw (to_z-of_z w64 c.args.num c.ranges.num, to_z-of_z w64 c.args.den c.ranges.den) (in_range c.args.num c.args.den within)

pub returns-in-AwayFromZero : goal.returns-in-AwayFromZero
returns-in-AwayFromZero c = grind (arith, to_z-of_z, answers AwayFromZero)

pub returns-in-Up : goal.returns-in-Up
returns-in-Up c = grind (arith, to_z-of_z, answers Up)
