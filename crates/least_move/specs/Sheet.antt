-- The sheet (document 01, "The sheet"): labels with a wanted place and a weight, and gaps between them.
use Rattle.std.specs.Prelude.{ℕ, zero, suc, ◌<◌, ℤ, pos, ◌<ℤ◌}
use Rattle.ground.specs.declared.Label.{Label}
use Rattle.ground.specs.declared.GapNumber.{GapNumber}

-- "labels and gaps, both counted from 0"; a label's number and a gap's number are of different types, as in the code
abbrev pub label : ℕ → Label
label i = record { 0 = i }

abbrev pub gap_number : ℕ → GapNumber
gap_number e = record { 0 = e }

-- What a gap asks: "at least, or exactly" (document 02, Item 6). An ignored gap asks nothing: no sheet that the table lets
-- pass has one, and the core has it for a later request.
pub data Kind : Type 0 where
  at_least : Kind
  exactly : Kind
  ignored : Kind

-- "0 at least and 1 exactly"; of what a station lends, 23 refuses any other number
abbrev pub kind_of : ℕ → Kind
kind_of zero = at_least
kind_of (suc zero) = exactly
kind_of (suc (suc k)) = ignored

-- "A gap names a left label u, a right label v and a distance g"
pub record Gap : Type 0 where
  pub left : Label
  pub right : Label
  pub distance : ℤ
  pub kind : Kind

-- "A sheet has labels and gaps": how many of each, and what each has
pub record Sheet : Type 0 where
  pub labels : ℕ
  pub gaps : ℕ
  pub wanted : Label → ℤ
  pub weight : Label → ℤ
  pub gap : GapNumber → Gap

-- what every sheet has that passes document 01's checks 6 and 7:
-- weights above zero, and gaps whose ends are labels of the sheet
pub record Proper (s : Sheet) : Type 0 where
  pub heavy : (i : Label) → i.0 < s.labels → pos 0 <ℤ s.weight i
  pub left_in : (e : GapNumber) → e.0 < s.gaps → (s.gap e).left.0 < s.labels
  pub right_in : (e : GapNumber) → e.0 < s.gaps → (s.gap e).right.0 < s.labels
