-- A sheet as the core's work arrays hold it, and its whole numbers.
use Rattle.std.specs.Prelude.{ℕ, ◌≤◌, ◌<◌, Bool, List, [], eqb, pos, nat_abs, ◌≤ℤ◌}
use Rattle.least_move.specs.Sheet.{Sheet, label, kind_of}
use Rattle.least_move.specs.States.{Numbers, Independent}
use Rattle.core_forest.specs.Tree.{Graph}
use Rattle.ground.specs.Entries.{nat, int}
use Rattle.ground.specs.Limits.{core_wanted_most, core_weight_most, distance_most, gaps_most, labels_most}
use Rattle.ground.specs.declared.problem.Problem.{Problem}

-- the core's limits, the widest that any of its users needs
pub record Limits (p : Problem) : Type 0 where
  pub labels_bound : p.labels ≤ labels_most
  pub gaps_bound : p.gaps ≤ gaps_most
  pub left_in : (e : ℕ) → e < p.gaps → nat p.left e < p.labels
  pub right_in : (e : ℕ) → e < p.gaps → nat p.right e < p.labels
  pub distance_bound : (e : ℕ) → e < p.gaps → nat_abs (int p.distance e) ≤ distance_most
  pub wanted_bound : (i : ℕ) → i < p.labels → nat_abs (int p.wanted i) ≤ core_wanted_most
  pub weight_low : (i : ℕ) → i < p.labels → pos 1 ≤ℤ int p.weight i
  pub weight_high : (i : ℕ) → i < p.labels → int p.weight i ≤ℤ pos core_weight_most

abbrev pub graph_of : Problem → List ℕ → Graph
graph_of p mark = record { labels = p.labels; gaps = p.gaps; left = p.left; right = p.right; distance = p.distance; mark = mark }

abbrev pub marks_of : List ℕ → ℕ → Bool
marks_of mark e = eqb (nat mark e) 1

abbrev pub numbers_of : Problem → Numbers
numbers_of p = record {
  n = p.labels;
  m = p.gaps;
  u = nat p.left;
  v = nat p.right;
  kind = λ e. kind_of (nat p.kind e);
  w = int p.weight;
  d = int p.wanted;
  g = int p.distance;
}

-- the marks are a forest
abbrev pub IsForest : Problem → List ℕ → Type 0
IsForest p mark = Independent p.labels p.gaps (nat p.left) (nat p.right) (marks_of mark)

-- the same with other kinds
abbrev pub with_kind : Problem → List ℕ → Problem
with_kind p kinds = record {
  labels = p.labels;
  gaps = p.gaps;
  left = p.left;
  right = p.right;
  distance = p.distance;
  kind = kinds;
  wanted = p.wanted;
  weight = p.weight;
}

-- the sheet that the core's work arrays hold
abbrev pub sheet_from : Problem → Sheet
sheet_from p = record {
  labels = p.labels;
  gaps = p.gaps;
  wanted = λ i. int p.wanted i.0;
  weight = λ i. int p.weight i.0;
  gap = λ e. record { left = label (nat p.left e.0); right = label (nat p.right e.0); distance = int p.distance e.0; kind = kind_of (nat p.kind e.0) };
}

-- the problem of what reads no kind
abbrev pub plain : Problem → Problem
plain p = with_kind p []
