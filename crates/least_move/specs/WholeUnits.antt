-- Whole units that meet every gap (document 02, Item 4).
use Rattle.std.specs.Prelude.{◌<◌, ◌≡◌, ℤ, ◌+ℤ◌, ◌≤ℤ◌}
use Rattle.exact.specs.Fraction.{whole}
use Rattle.exact.specs.Nearest.{round_half_up}
use Rattle.ground.specs.declared.Label.{Label}
use Rattle.ground.specs.declared.GapNumber.{GapNumber}
use Rattle.least_move.specs.Sheet.{Sheet, Kind, at_least, exactly, ignored, Proper}
use Rattle.least_move.specs.Placement.{Placement, Feasible}

-- one whole number per label
abbrev pub Units : Type 0
Units = Label → ℤ

-- those of a placement: "halves shall go to the larger number"
abbrev pub whole_units : Placement → Units
whole_units p i = round_half_up (p i).num (p i).den

-- what a gap asks in whole numbers: unit(u) + g ≤ unit(v); an exact gap asks that they are equal, an ignored one nothing
abbrev pub AsksWhole : Kind → ℤ → ℤ → Type 0
AsksWhole at_least a b = a ≤ℤ b
AsksWhole exactly a b = a ≡ b
AsksWhole ignored a b = Unit {0}

-- whole units that "meet every gap"
abbrev pub MeetsWhole : Sheet → Units → Type 0
MeetsWhole s unit = (e : GapNumber) → e.0 < s.gaps → AsksWhole (s.gap e).kind (unit (s.gap e).left +ℤ (s.gap e).distance) (unit (s.gap e).right)

-- and that are so a feasible placement themselves
pub record UnitsMeet (s : Sheet) (unit : Units) : Type 0 where
  pub meets : MeetsWhole s unit
  pub feasible : Feasible s (λ i. whole (unit i))

-- the whole units of every feasible placement of a proper sheet meet every gap, of whichever kind (`units_meet` in
-- proofs/WholeUnits). What is printed for an accepted sheet is `UnitsShown` in sheet_run/specs/Run
abbrev pub RoundedMeet : Type 0
RoundedMeet = (s : Sheet) (p : Placement) → Proper s → Feasible s p → UnitsMeet s (whole_units p)
