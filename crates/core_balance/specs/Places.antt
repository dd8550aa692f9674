-- The places that the marked gaps give.
use Rattle.std.specs.Prelude.{ℕ, ◌+◌, ◌*◌, ◌≤◌, ◌<◌, ◌≡◌, List, ℤ, pos, nat_abs, ◌*ℤ◌, ◌≤ℤ◌, ◌<ℤ◌}
use Rattle.least_move.specs.States.{StateAt}
use Rattle.ground.specs.Entries.{int}
use Rattle.ground.specs.declared.problem.Problem.{Problem}
use Rattle.core_forest.specs.Problem.{marks_of, numbers_of}
use Rattle.ground.specs.Limits.{labels_most, offset_most}

-- a denominator is at most 48 times the largest weight
abbrev pub DenMost : Problem → ℤ → Type 0
DenMost p den = (B : ℕ) → ((i : ℕ) → i < p.labels → nat_abs (int p.weight i) ≤ B) → nat_abs den ≤ labels_most * B

-- label j stands at num / den: wherever every marked gap is tight and all is balanced by the marked gaps alone
pub record LabelPlaced (p : Problem) (mark : List ℕ) (j : ℕ) (num den : ℤ) : Type 0 where
  pub den_least : pos 1 ≤ℤ den
  pub den_most : DenMost p den
  pub num_most : (B : ℕ) → ((i : ℕ) → i < p.labels → nat_abs (int p.wanted i) ≤ B) → nat_abs num ≤ (B + offset_most) * nat_abs den
  pub placed : (N : ℤ) (X Λ : ℕ → ℤ) → pos 0 <ℤ N → StateAt (numbers_of p) (marks_of mark) 0 0 N (pos 0) X Λ → X j *ℤ den ≡ N *ℤ num

-- every label is placed
abbrev pub PlacesFound : Problem → List ℕ → List ℤ → List ℤ → Type 0
PlacesFound p mark num den = (j : ℕ) → j < p.labels → LabelPlaced p mark j (int num j) (int den j)
