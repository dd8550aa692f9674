-- Exact gaps and the two opposite gaps that they replace (document 02, Item 6).
use Rattle.std.specs.Prelude.{ℕ, suc, ◌<◌, ◌≡◌, ◌⊎◌, Bool, true, false, List, [], ◌∷◌, ◌++◌, length, get_or, pos, neg_ℤ}
use Rattle.ground.specs.declared.Label.{Label}
use Rattle.ground.specs.declared.GapNumber.{GapNumber}
use Rattle.least_move.specs.Sheet.{Sheet, Gap, Kind, at_least, exactly, ignored, label}

-- the two opposite gaps of a gap: its right label at least its distance from its left, and its left at least that distance
-- negated from its right; "two opposite gaps make an equality" (document 01)
abbrev pub forth : Gap → Gap
forth c = record { left = c.left; right = c.right; distance = c.distance; kind = at_least }

abbrev pub back : Gap → Gap
back c = record { left = c.right; right = c.left; distance = neg_ℤ c.distance; kind = at_least }

-- ---- sheets of which one has opposite gaps for exact ones: any number of them, in any order

-- a gap stands on a sheet, under whichever number
pub record Stands (s : Sheet) (c : Gap) : Type 0 where
  pub number : GapNumber
  pub inside : number.0 < s.gaps
  pub same : s.gap number ≡ c

-- the sheet has the gap, or the gap is exact and the sheet has both its opposite gaps
abbrev pub Asked : Sheet → Gap → Type 0
Asked t c = Stands t c ⊎ ((c.kind ≡ exactly) × Stands t (forth c) × Stands t (back c))

-- a gap of the sheet, or one of the opposite gaps of an exact gap of it
abbrev pub Stems : Sheet → Gap → Type 0
Stems s c = Stands s c ⊎ ((d : Gap) × (d.kind ≡ exactly) × Stands s d × ((c ≡ forth d) ⊎ (c ≡ back d)))

-- the first sheet has exact gaps where the second has the two opposite gaps that each replaces; else they are the same. Both
-- have the same least move (`replaced_least` in proofs/Opposite); what calls answer to the two is in layout/specs/Opposite
pub record Replaced (s t : Sheet) : Type 0 where
  pub labels : t.labels ≡ s.labels
  pub wanted : (i : Label) → i.0 < s.labels → t.wanted i ≡ s.wanted i
  pub weight : (i : Label) → i.0 < s.labels → t.weight i ≡ s.weight i
  pub asked : (e : GapNumber) → e.0 < s.gaps → Asked t (s.gap e)
  pub stems : (e : GapNumber) → e.0 < t.gaps → Stems s (t.gap e)

-- ---- such sheets from a list of gaps

-- what stands in the place of a gap: its opposite gaps where it is exact and chosen, else the gap
abbrev pub in_place : Bool → Kind → Gap → List Gap
in_place true exactly c = forth c ∷ back c ∷ []
in_place true at_least c = c ∷ []
in_place true ignored c = c ∷ []
in_place false kind c = c ∷ []

-- the list in which each exact gap whose number is chosen gives way to its opposite gaps
abbrev pub opposed : (chosen : ℕ → Bool) → List Gap → List Gap
opposed chosen [] = []
opposed chosen (c ∷ cs) = in_place (chosen 0) c.kind c ++ opposed (λ k. chosen (suc k)) cs

-- a sheet with these gaps in place of its own; no number of a gap leads past the list's end
abbrev pub no_gap : Gap
no_gap = record { left = label 0; right = label 0; distance = pos 0; kind = at_least }

abbrev pub with_gaps : Sheet → List Gap → Sheet
with_gaps s cs =
    record { labels = s.labels; gaps = length cs; wanted = s.wanted; weight = s.weight; gap = λ e. get_or cs e.0 no_gap }

-- a sheet with the one list, and with the other (`opposed_replaced` in proofs/Opposite)
abbrev pub OpposedReplaced : Type 0
OpposedReplaced = (s : Sheet) (chosen : ℕ → Bool) (cs : List Gap) → Replaced (with_gaps s cs) (with_gaps s (opposed chosen cs))
