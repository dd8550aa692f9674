-- The sums over a block and what they give: its labels are the first count entries of the queue.
use Rattle.std.specs.Prelude.{ℕ, ◌≤◌, ◌<◌, ◌≡◌, ◌≢◌, ◌⊎◌, cond, List, eqb, ℤ, pos, negsuc, nat_abs, ◌+ℤ◌, ◌-ℤ◌, ◌*ℤ◌, ◌≤ℤ◌}
use Rattle.algebra.specs.Sum.{sum}
use Rattle.core_elimination.specs.declared.Sums.{Sums}
use Rattle.ground.specs.Entries.{nat, int}
use Rattle.ground.specs.Limits.{block_weight_most, core_wanted_most, core_weight_most, labels_most, moment_most, offset_most}

-- the queue lists labels that the work arrays have, each once
pub record Listed (count : ℕ) (queue : List ℕ) : Type 0 where
  pub count_most : count ≤ labels_most
  pub labels_in : (k : ℕ) → k < count → nat queue k < labels_most
  pub distinct : (j k : ℕ) → j < k → k < count → nat queue j ≢ nat queue k

-- the sign of a push at the end of a gap that it comes from, or at the other
abbrev pub IsSign : ℤ → Type 0
IsSign s = (s ≡ pos 1) ⊎ (s ≡ negsuc 0)

-- the core's limits, and offsets as a search gives them
pub record InRange (count : ℕ) (queue : List ℕ) (off wanted weight : List ℤ) : Type 0 where
  pub weight_low : (k : ℕ) → k < count → pos 1 ≤ℤ int weight (nat queue k)
  pub weight_high : (k : ℕ) → k < count → int weight (nat queue k) ≤ℤ pos core_weight_most
  pub wanted_bound : (k : ℕ) → k < count → nat_abs (int wanted (nat queue k)) ≤ core_wanted_most
  pub off_most : (k : ℕ) → k < count → nat_abs (int off (nat queue k)) ≤ offset_most

-- W, the sum of the weights
abbrev pub weight_sum : ℕ → List ℕ → List ℤ → ℤ
weight_sum count queue weight = sum count (λ k. int weight (nat queue k))

-- P, the sum of weight times wanted place less offset
abbrev pub wanted_sum : ℕ → List ℕ → List ℤ → List ℤ → List ℤ → ℤ
wanted_sum count queue off wanted weight = sum count (λ k. int weight (nat queue k) *ℤ (int wanted (nat queue k) -ℤ int off (nat queue k)))

-- what sums over a block of the core's limits can be
pub record SumsInRange (s : Sums) : Type 0 where
  pub weight_low : pos 1 ≤ℤ s.weight
  pub weight_high : s.weight ≤ℤ pos block_weight_most
  pub wanted_bound : nat_abs s.wanted ≤ moment_most

-- a work array after a pass over the block: its labels hold what f says, the others what they held
pub record Given (count : ℕ) (queue : List ℕ) (f : ℕ → ℤ) (before after : List ℤ) : Type 0 where
  pub inside : (k : ℕ) → k < count → int after (nat queue k) ≡ f (nat queue k)
  pub outside : (x : ℕ) → ((k : ℕ) → k < count → nat queue k ≢ x) → int after x ≡ int before x

-- the numerator of a label's place over W
abbrev pub numerator : Sums → List ℤ → ℕ → ℤ
numerator s off x = s.wanted +ℤ int off x *ℤ s.weight

-- what a label lacks of its balance at that place, times W: 2 × w × (numerator - d × W)
abbrev pub surplus_at : Sums → List ℤ → List ℤ → List ℤ → ℕ → ℤ
surplus_at s off wanted weight x = pos 2 *ℤ (int weight x *ℤ (numerator s off x -ℤ int wanted x *ℤ s.weight))

-- a share for one label alone
abbrev pub only_at : ℕ → ℤ → ℕ → ℤ
only_at v share x = cond (eqb x v) share (pos 0)
