-- `text_listing::listing::whole_unit` meets its contract.
use Rattle.std.proofs.Common.{◌∙◌, ap}
use mathlib.Core.Path.{ap₂}
use mir.Syntax.{w64}
use mir.ValLaws.{to_z-of_z}
use Rattle.single_fractions.specs.declared.Ties.TheVariants.{Up}
use Rattle.single_fractions.specs.Round.{rounded, whole_of}
use Rattle.text_listing.specs.Listing.{unit_of}
use Rattle.text_listing.proofs.listing.whole_unit.Goals as goal

pub returns : goal.returns
unfolding unit_of
returns c =
    to_z-of_z w64 c.whole_of.result (record { sfits = c.whole_of.type_inv })
    ∙ c.whole_of.ensures
    ∙ ap whole_of (c.round.ensures ∙ ap₂ (rounded Up) (to_z-of_z w64 c.args.num c.ranges.num) (to_z-of_z w64 c.args.den c.ranges.den))
