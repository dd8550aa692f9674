-- Rings (document 01, refusal 9; document 02, Item 6).
use Rattle.std.specs.Prelude.{ℕ, ◌<◌, ◌≡◌, ◌≢◌, Bool, false, cond, List, [], ◌∷◌, eqb, ℤ, pos, neg_ℤ, ◌+ℤ◌, ◌<ℤ◌}
use Rattle.least_move.specs.Sheet.{Sheet, Kind, at_least, exactly, ignored, gap_number}
use Rattle.least_move.specs.Marks.{Step, start, finish, Leads}
use Rattle.ground.specs.Entries.{Each}

-- which way a gap may be passed: forwards; "A ring may pass an exact gap backwards"; an ignored one not at all
abbrev pub Passable : Kind → Bool → Type 0
Passable at_least b = b ≡ false
Passable exactly b = Unit {0}
Passable ignored b = ⊥

-- the distance as walked: "counting its distance negated" where the gap is passed backwards
abbrev pub distance_of : Sheet → Step → ℤ
distance_of s t = cond t.backwards (neg_ℤ (s.gap t.by).distance) (s.gap t.by).distance

-- "the distances sum"
abbrev pub distance_sum : Sheet → List Step → ℤ
distance_sum s [] = pos 0
distance_sum s (t ∷ ts) = distance_of s t +ℤ distance_sum s ts

-- "no label is a left label twice", "of the ends as walked"
abbrev pub OnceLeft : Sheet → List Step → Type 0
OnceLeft s [] = Unit {0}
OnceLeft s (t ∷ ts) = Each (λ r. start s r ≢ start s t) ts × OnceLeft s ts

-- "each gap's right label is the next one's left, the last joins the first, no label is a left label twice,
-- and the distances sum above zero"; "document 01's ring rules speak of the ends as walked" (document 02, Item 6)
pub record Ring (s : Sheet) (first : Step) (rest : List Step) : Type 0 where
  pub closed : Leads s (finish s first) rest (start s first)
  pub passable : Each (λ t. (t.by.0 < s.gaps) × Passable (s.gap t.by).kind t.backwards) (first ∷ rest)
  pub once : OnceLeft s (first ∷ rest)
  pub above : pos 0 <ℤ distance_sum s (first ∷ rest)

-- ---- a ring as two buffers hold it

-- a gap number, and the byte beside it: "0 for forwards and 1 for backwards"
abbrev pub step_of : ℕ → ℕ → Step
step_of e back = record { by = gap_number e; backwards = eqb back 1 }

-- the steps that the two lists hold
abbrev pub steps_of : List ℕ → List ℕ → List Step
steps_of [] backs = []
steps_of (e ∷ es) [] = []
steps_of (e ∷ es) (back ∷ backs) = step_of e back ∷ steps_of es backs

-- a list of steps that is a ring
abbrev pub IsRing : Sheet → List Step → Type 0
IsRing s [] = ⊥
IsRing s (t ∷ ts) = Ring s t ts
