-- Multipliers and their conditions (document 01, "Least move"; document 02, Item 6; condition (3) of source document 003).
use Rattle.std.specs.Prelude.{◌<◌, ◌≡◌, cond, eqb, pos}
use Rattle.exact.specs.declared.Fraction.{Fraction}
use Rattle.exact.specs.Fraction.{IsFraction, ◌≃◌, ◌≼◌, ◌⊖◌, ◌⊛◌, whole}
use Rattle.exact.specs.Total.{total}
use Rattle.ground.specs.declared.Label.{Label}
use Rattle.ground.specs.declared.GapNumber.{GapNumber}
use Rattle.least_move.specs.Sheet.{Sheet, Kind, at_least, exactly, ignored, gap_number}
use Rattle.least_move.specs.Placement.{Placement, Feasible, Tight, move}

-- "Multipliers: one fraction per gap"
abbrev pub Multipliers : Type 0
Multipliers = GapNumber → Fraction

-- "never negative"; "An exact gap's multiplier may have either sign", and that of an ignored one is zero
abbrev pub Lawful : Kind → Fraction → Type 0
Lawful at_least q = whole (pos 0) ≼ q
Lawful exactly q = Unit {0}
Lawful ignored q = q ≃ whole (pos 0)

-- the multiplier where the gap's end is this label, else zero
abbrev pub counted : Label → Label → Fraction → Fraction
counted i end q = cond (eqb end.0 i.0) q (whole (pos 0))

-- "the sum of multipliers of gaps with this label on the right", and "of those with it on the left"
abbrev pub as_right : Sheet → Multipliers → Label → Fraction
as_right s m i = total s.gaps (λ k. counted i (s.gap (gap_number k)).right (m (gap_number k)))

abbrev pub as_left : Sheet → Multipliers → Label → Fraction
as_left s m i = total s.gaps (λ k. counted i (s.gap (gap_number k)).left (m (gap_number k)))

-- the conditions: the placement meets every gap, and the multipliers are lawful and balance each label
pub record Conditions (s : Sheet) (p : Placement) (m : Multipliers) : Type 0 where
  pub feasible : Feasible s p
  pub fractions : (e : GapNumber) → e.0 < s.gaps → IsFraction (m e)
  pub lawful : (e : GapNumber) → e.0 < s.gaps → Lawful (s.gap e).kind (m e)
  -- "zero where the gap is not tight"
  pub loose : (e : GapNumber) → e.0 < s.gaps → ¬ (Tight p (s.gap e)) → m e ≃ whole (pos 0)
  -- "2 × w × (place - d) = the sum of multipliers of gaps with this label on the right,
  -- less the sum of those with it on the left"
  pub balance : (i : Label) → i.0 < s.labels → pos 2 ⊛ (s.weight i ⊛ move s p i) ≃ (as_right s m i ⊖ as_left s m i)
  -- "A gap of a label to itself .. its multiplier is 0"
  pub self : (e : GapNumber) → e.0 < s.gaps → (s.gap e).left ≡ (s.gap e).right → m e ≃ whole (pos 0)
