-- The states of the method in whole numbers: what the contracts of the core speak of.
-- Gap e goes from label u e to label v e over the distance g e and carries Λ e; label i wants d i and weighs w i;
-- F marks gaps. A fraction x stands as the whole number N × x, at a scale N.
use Rattle.std.specs.Prelude.{ℕ, zero, suc, ◌+◌, ◌*◌, ◌-◌, ◌/◌, ◌<◌, ◌≡◌, ◌⊎◌, ◌≢◌, Bool, true, false, eqb, ℤ, pos, nat_abs, ◌+ℤ◌, ◌-ℤ◌, ◌*ℤ◌, ◌≤ℤ◌, ◌<ℤ◌}
use Rattle.algebra.specs.Sum.{sum, ind}
use Rattle.least_move.specs.Sheet.{Kind, at_least, exactly, ignored}
use Rattle.ground.specs.Limits.{block_weight_most, core_wanted_most, core_weight_most, labels_most, offset_most}

-- ---- flows along gaps

-- what the gaps bring to label i as their right end, less what they take from it as their left
abbrev pub flow : (m : ℕ) (u v : ℕ → ℕ) (Λ : ℕ → ℤ) → ℕ → ℤ
flow m u v Λ i = sum m (λ e. ind (eqb (v e) i) *ℤ Λ e) -ℤ sum m (λ e. ind (eqb (u e) i) *ℤ Λ e)

-- what is carried along marked gaps alone
abbrev pub OnlyOn : (m : ℕ) (F : ℕ → Bool) (Λ : ℕ → ℤ) → Type 0
OnlyOn m F Λ = (e : ℕ) → e < m → F e ≡ false → Λ e ≡ pos 0

-- the marks hold no ring: only the load of nothing balances every label
pub record Independent (n m : ℕ) (u v : ℕ → ℕ) (F : ℕ → Bool) : Type 0 where
  pub nothing : (Λ : ℕ → ℤ) → OnlyOn m F Λ → ((i : ℕ) → i < n → flow m u v Λ i ≡ pos 0) →
      (e : ℕ) → e < m → Λ e ≡ pos 0

-- ---- the numbers of a sheet

-- the whole numbers of a sheet
pub record Numbers : Type 0 where
  pub n : ℕ
  pub m : ℕ
  pub u : ℕ → ℕ
  pub v : ℕ → ℕ
  pub kind : ℕ → Kind
  pub w : ℕ → ℤ
  pub d : ℕ → ℤ
  pub g : ℕ → ℤ

-- gaps whose ends are labels, and weights above zero
pub record Sound (z : Numbers) : Type 0 where
  pub left_in : (e : ℕ) → e < z.m → z.u e < z.n
  pub right_in : (e : ℕ) → e < z.m → z.v e < z.n
  pub heavy : (i : ℕ) → i < z.n → pos 0 <ℤ z.w i

-- ---- places and loads that balance under a push

-- what the push s from label a to label b brings to label i
abbrev pub push : (a b : ℕ) (s : ℤ) → ℕ → ℤ
push a b s i = s *ℤ (ind (eqb b i) -ℤ ind (eqb a i))

-- places and loads that balance under the push, with every marked gap tight
pub record State (n m : ℕ) (u v : ℕ → ℕ) (w D G : ℕ → ℤ) (F : ℕ → Bool) (a b : ℕ) (s : ℤ) (X Λ : ℕ → ℤ) : Type 0 where
  pub off : OnlyOn m F Λ
  pub tight : (e : ℕ) → e < m → F e ≡ true → X (v e) ≡ X (u e) +ℤ G e
  pub balance : (i : ℕ) → i < n → pos 2 *ℤ (w i *ℤ (X i -ℤ D i)) ≡ flow m u v Λ i +ℤ push a b s i

-- the cost of places, and by how much label b should stand further right of label a
abbrev pub cost_z : (n : ℕ) (w D X : ℕ → ℤ) → ℤ
cost_z n w D X = sum n (λ i. w i *ℤ ((X i -ℤ D i) *ℤ (X i -ℤ D i)))

abbrev pub viol : (a b : ℕ) (g : ℤ) (X : ℕ → ℤ) → ℤ
viol a b g X = X a +ℤ g -ℤ X b

-- what never falls within an outer step: twice the cost, and twice the push times the violation
abbrev pub dual : (n : ℕ) (w D : ℕ → ℤ) (a b : ℕ) (g s : ℤ) (X : ℕ → ℤ) → ℤ
dual n w D a b g s X = pos 2 *ℤ cost_z n w D X +ℤ pos 2 *ℤ s *ℤ viol a b g X

-- a state at scale N, with the push s from label a to label b
abbrev pub StateAt : (z : Numbers) (F : ℕ → Bool) (a b : ℕ) (N s : ℤ) (X Λ : ℕ → ℤ) → Type 0
StateAt z F a b N s X Λ = State z.n z.m z.u z.v z.w (λ i. N *ℤ z.d i) (λ e. N *ℤ z.g e) F a b s X Λ

abbrev pub cost_at : (z : Numbers) (N : ℤ) (X : ℕ → ℤ) → ℤ
cost_at z N X = cost_z z.n z.w (λ i. N *ℤ z.d i) X

-- marked gaps of the kind at least carry nothing below zero; an ignored gap is never marked
pub record Lawful (z : Numbers) (F : ℕ → Bool) (Λ : ℕ → ℤ) : Type 0 where
  pub carries : (e : ℕ) → e < z.m → F e ≡ true → z.kind e ≡ at_least → pos 0 ≤ℤ Λ e
  pub asked : (e : ℕ) → e < z.m → F e ≡ true → z.kind e ≢ ignored

-- places num i / den i at scale N
abbrev pub PlacedAt : (z : Numbers) (N : ℤ) (X num den : ℕ → ℤ) → Type 0
PlacedAt z N X num den = (i : ℕ) → i < z.n → X i *ℤ den i ≡ N *ℤ num i

-- between outer steps: the places are the least move for the marked gaps alone
pub record Settled (z : Numbers) (F : ℕ → Bool) (num den : ℕ → ℤ) : Type 0 where
  pub N : ℤ
  pub X : ℕ → ℤ
  pub Λ : ℕ → ℤ
  pub above : pos 0 <ℤ N
  pub state : StateAt z F 0 0 N (pos 0) X Λ
  pub lawful : Lawful z F Λ
  pub places : PlacedAt z N X num den

-- within an outer step: label a pushes label b, which should stand h to its right;
-- the places at the start were num i / den i
pub record Pushed (z : Numbers) (F : ℕ → Bool) (a b : ℕ) (h : ℤ) (num den : ℕ → ℤ) : Type 0 where
  pub N : ℤ
  pub s : ℤ
  pub X : ℕ → ℤ
  pub Λ : ℕ → ℤ
  pub X₀ : ℕ → ℤ
  pub above : pos 0 <ℤ N
  pub forward : pos 0 ≤ℤ s
  pub state : StateAt z F a b N s X Λ
  pub lawful : Lawful z F Λ
  pub short : pos 0 <ℤ viol a b (N *ℤ h) X
  pub origin : PlacedAt z N X₀ num den
  pub grown : (pos 2 *ℤ cost_at z N X₀) ≤ℤ dual z.n z.w (λ i. N *ℤ z.d i) a b (N *ℤ h) s X

-- at the end of an outer step: balanced without a push, at a larger cost than at the start
pub record Reached (z : Numbers) (F : ℕ → Bool) (num den : ℕ → ℤ) : Type 0 where
  pub N : ℤ
  pub X : ℕ → ℤ
  pub Λ : ℕ → ℤ
  pub X₀ : ℕ → ℤ
  pub above : pos 0 <ℤ N
  pub state : StateAt z F 0 0 N (pos 0) X Λ
  pub lawful : Lawful z F Λ
  pub origin : PlacedAt z N X₀ num den
  pub more : cost_at z N X₀ <ℤ cost_at z N X

-- the marks without gap k, and with it
pub record Without (m : ℕ) (F : ℕ → Bool) (k : ℕ) (F' : ℕ → Bool) : Type 0 where
  pub gone : F' k ≡ false
  pub others : (e : ℕ) → e < m → e ≢ k → F' e ≡ F e

pub record With (m : ℕ) (F : ℕ → Bool) (k : ℕ) (F' : ℕ → Bool) : Type 0 where
  pub there : F' k ≡ true
  pub others : (e : ℕ) → e < m → e ≢ k → F' e ≡ F e

-- gap k asks that label b stand at least h to the right of label a:
-- a gap of the kind at least as it is, an exact one either way
abbrev pub Pushes : Numbers → ℕ → ℕ → ℕ → ℤ → Type 0
Pushes z k a b h =
    ((z.u k ≡ a) × (z.v k ≡ b) × (z.g k ≡ h) × (z.kind k ≢ ignored))
    ⊎ ((z.v k ≡ a) × (z.u k ≡ b) × (pos 0 -ℤ z.g k ≡ h) × (z.kind k ≡ exactly))

-- ---- the one scale at which every place is a whole number, and the measure of the outer loop

-- the factorial
unfoldable pub fact : ℕ → ℕ
fact zero = 1
fact (suc n) = suc n * fact n

-- divisible by every weight that a block can have
unfoldable pub K : ℕ
K = fact block_weight_most

-- the place num / den at the scale K
unfoldable pub at_k : (num den : ℤ) → ℤ
at_k num den = num *ℤ pos (K / nat_abs den)

-- the cost of the places at the square of the scale K
unfoldable pub cost_k : (z : Numbers) (num den : ℕ → ℤ) → ℤ
cost_k z num den = cost_at z (pos K) (λ i. at_k (num i) (den i))

-- how far a label moves at most, at the scale K: it wants and stands within the largest want, and an offset further
unfoldable pub far : ℕ
far = (2 * core_wanted_most + offset_most) * K

-- the cost of such moves of every label, of the largest weight
unfoldable pub limit : ℕ
limit = labels_most * (core_weight_most * (far * far))

-- what is left of it, which falls with each outer step
unfoldable pub measure : (z : Numbers) (num den : ℕ → ℤ) → ℕ
measure z num den = limit - nat_abs (cost_k z num den)
