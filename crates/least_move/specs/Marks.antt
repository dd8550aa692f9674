-- Marks (document 01, "What a station lends"): which gaps hold the labels together.
use Rattle.std.specs.Prelude.{ℕ, ◌<◌, ◌≡◌, ◌≢◌, Bool, true, false, cond, List, [], ◌∷◌, pos}
use Rattle.exact.specs.Fraction.{◌≃◌, whole}
use Rattle.ground.specs.declared.Label.{Label}
use Rattle.ground.specs.declared.GapNumber.{GapNumber}
use Rattle.least_move.specs.Sheet.{Sheet, gap_number}
use Rattle.least_move.specs.Placement.{Placement, Tight}
use Rattle.least_move.specs.Multipliers.{Multipliers}
use Rattle.ground.specs.Entries.{Each}

-- a gap passed on a walk, from its left label to its right, or backwards
pub record Step : Type 0 where
  pub by : GapNumber
  pub backwards : Bool

-- a gap of this number, passed forwards
abbrev pub forwards : ℕ → Step
forwards e = record { by = gap_number e; backwards = false }

-- the label that a step starts from, and the one that it comes to
abbrev pub start : Sheet → Step → Label
start s t = cond t.backwards (s.gap t.by).right (s.gap t.by).left

abbrev pub finish : Sheet → Step → Label
finish s t = cond t.backwards (s.gap t.by).left (s.gap t.by).right

-- the steps lead from one label to another, each starting where the one before came to
abbrev pub Leads : Sheet → Label → List Step → Label → Type 0
Leads s a [] b = a ≡ b
Leads s a (t ∷ ts) b = (start s t ≡ a) × Leads s (finish s t) ts b

-- "each passed at most once"
abbrev pub Once : List Step → Type 0
Once [] = Unit {0}
Once (t ∷ ts) = Each (λ r. r.by ≢ t.by) ts × Once ts

-- a walk along marked gaps that comes back to where it began
pub record MarkedRing (s : Sheet) (marked : GapNumber → Bool) (first : Step) (rest : List Step) : Type 0 where
  pub closed : Leads s (finish s first) rest (start s first)
  pub along : Each (λ t. (t.by.0 < s.gaps) × (marked t.by ≡ true)) (first ∷ rest)
  pub once : Once (first ∷ rest)

-- "marked gaps are tight, no ring can be walked along marked gaps, each passed at most once and either way,
-- and each unmarked gap has multiplier 0"
pub record Marks (s : Sheet) (p : Placement) (m : Multipliers) (marked : GapNumber → Bool) : Type 0 where
  pub tight : (e : GapNumber) → e.0 < s.gaps → marked e ≡ true → Tight p (s.gap e)
  pub no_ring : (first : Step) (rest : List Step) → ¬ (MarkedRing s marked first rest)
  pub zero : (e : GapNumber) → e.0 < s.gaps → marked e ≡ false → m e ≃ whole (pos 0)
