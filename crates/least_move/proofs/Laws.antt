-- The laws of the least move, over the definitions of specs/:
-- the conditions make it least and unique, and a ring excludes every placement. What moved wants do to places is in Moved.
-- Each is brought to a common scale (Bridge) and shown in whole numbers (Scaled).
use mathlib.Core.Path.{◌≡◌, refl, sym, ap, subst}
use mathlib.Core.Bool.{Bool, true, false, cond}
use mathlib.Core.List.{List, [], ◌∷◌}
use Prim.Native.Nat.{ℕ, ◌<◌}
use native.Mathlib.Omega.{arith}
use lib.IntN.{ℤ, pos, neg_ℤ, ◌+ℤ◌, ◌-ℤ◌, ◌*ℤ◌}
use lib.Signed.{◌≤ℤ◌, ◌<ℤ◌}
use Rattle.exact.specs.declared.Fraction.{Fraction}
use Rattle.exact.specs.Fraction.{LowestTerms, ◌≃◌, ◌≼◌}
use Rattle.algebra.proofs.Whole.{le_trans, le_of_eq, not_le_of_lt, *ℤ-above}
use Rattle.algebra.proofs.Ring.{ring, quotes, le_given, eq_given, le_goal}
use Rattle.exact.proofs.Fractions.{CommonScale, CommonScale₃, common, common₃, ≼-scale, ≃-scale}
use Rattle.ground.specs.declared.Label.{Label}
use Rattle.least_move.specs.Sheet.{Sheet, Kind, at_least, exactly, ignored, Proper, label, gap_number}
use Rattle.least_move.specs.Placement.{Placement, Feasible, LeastMove, cost}
use Rattle.least_move.specs.Multipliers.{Multipliers, Conditions}
use Rattle.least_move.specs.Marks.{Step, start, finish, Leads}
use Rattle.least_move.specs.Ring.{Passable, distance_of, distance_sum, Ring}
use Rattle.least_move.proofs.Scaled.{Meets-at, cost_least, cost_unique}
use Rattle.least_move.proofs.Bridge.{wants, Conditions-at, Meets-all, cost_scale, cost_fraction, feasible_at, conditions_at}
use Rattle.ground.specs.Entries.{Each}

-- ---- least and unique

module _ (s : Sheet) (p : Placement) (m : Multipliers) (proper : Proper s) (c : Conditions s p m) (q : Placement) (f : Feasible s q) where
  -- one scale for both placements and the multipliers
  scales : CommonScale₃ s.labels s.labels s.gaps (λ i. p (label i)) (λ i. q (label i)) (λ e. m (gap_number e))
  scales =
      common₃ s.labels s.labels s.gaps (λ i. p (label i)) (λ i. q (label i)) (λ e. m (gap_number e))
      (λ i h. c.feasible.fractions (label i) h) (λ i h. f.fractions (label i) h) (λ e h. c.fractions (gap_number e) h)

  at_scale : Conditions-at s scales.N (wants scales.N s) scales.first scales.third
  at_scale = conditions_at s proper scales.above p m c scales.first_scaled scales.third_scaled

  met : Meets-all s scales.N scales.second
  met = feasible_at s proper scales.above q f scales.second_scaled

  square_above_zero : pos 0 <ℤ (scales.N *ℤ scales.N)
  square_above_zero = *ℤ-above scales.above scales.above

  costs_less : cost s p ≼ cost s q
  costs_less =
      (≼-scale square_above_zero (cost_fraction s p c.feasible.fractions) (cost_fraction s q f.fractions)
      (cost_scale s p scales.first_scaled) (cost_scale s q scales.second_scaled)
      ).1 (cost_least at_scale scales.second met)

  same_places : cost s q ≼ cost s p → (i : Label) → i.0 < s.labels → q i ≃ p i
  same_places le i h =
      (≃-scale scales.above (f.fractions i h) (c.feasible.fractions i h) (scales.second_scaled i.0 h) (scales.first_scaled i.0 h)
      ).1
      (cost_unique at_scale scales.second met
      ((≼-scale square_above_zero (cost_fraction s q f.fractions) (cost_fraction s p c.feasible.fractions)
      (cost_scale s q scales.second_scaled) (cost_scale s p scales.first_scaled)
      ).0 le)
      i.0 h)

-- the conditions make a placement the least move
pub least_of_conditions : (s : Sheet) (p : Placement) (m : Multipliers) → Proper s → Conditions s p m → LeastMove s p
least_of_conditions s p m proper c = record { feasible = c.feasible; least = λ q f. costs_less s p m proper c q f }

-- and it is the only one
pub least_unique : (s : Sheet) (p q : Placement) (m : Multipliers) → Proper s → Conditions s p m → LeastMove s q → (i : Label) → i.0 < s.labels → q i ≃ p i
least_unique s p q m proper c l = same_places s p m proper c q l.feasible (l.least p c.feasible)

-- as numbers too, in lowest terms
pub least_same : ((a b : Fraction) → LowestTerms a → LowestTerms b → a ≃ b → a ≡ b) → (s : Sheet) (p q : Placement) (m : Multipliers) → Proper s → Conditions s p m → LeastMove s q → (i : Label) → i.0 < s.labels → LowestTerms (p i) → LowestTerms (q i) → p i ≡ q i
least_same lowest_unique s p q m proper c l i h lp lq = lowest_unique (p i) (q i) lp lq (sym (least_unique s p q m proper c l i h))

-- ---- rings

-- a gap that is met, passed forwards and backwards
forwards : (N g x y : ℤ) → pos 0 ≤ℤ (y -ℤ x -ℤ N *ℤ g) → (N *ℤ g) ≤ℤ (y -ℤ x)
forwards N g x y h =
    let ρ : List ℤ = N ∷ g ∷ x ∷ y ∷ [] in
    le_goal ρ (search quotes depth 12) (search quotes depth 12) (omega (arith, le_given ρ (search quotes depth 12) (search quotes depth 12) h))

backwards : (N g x y : ℤ) → y -ℤ x -ℤ N *ℤ g ≡ pos 0 → (N *ℤ neg_ℤ g) ≤ℤ (x -ℤ y)
backwards N g x y h =
    let ρ : List ℤ = N ∷ g ∷ x ∷ y ∷ [] in
    le_goal ρ (search quotes depth 12) (search quotes depth 12) (omega (arith, eq_given ρ (search quotes depth 12) (search quotes depth 12) h))

pass : (N g : ℤ) (X : ℕ → ℤ) (l r : Label) (k : Kind) (b : Bool) → Passable k b → Meets-at k (X r.0 -ℤ X l.0 -ℤ N *ℤ g) → (N *ℤ cond b (neg_ℤ g) g) ≤ℤ (X (cond b l r).0 -ℤ X (cond b r l).0)
pass N g X l r at_least true e h = absurd (let z : ◌≡◌ {A = ℕ} 0 1 = cc in omega arith)
pass N g X l r at_least false e h = forwards N g (X l.0) (X r.0) h
pass N g X l r exactly true e h = backwards N g (X l.0) (X r.0) h
pass N g X l r exactly false e h = forwards N g (X l.0) (X r.0) (le_of_eq (sym h))
pass N g X l r ignored b e h = absurd e

-- a walk's length is at most the way between its ends
no_way : (N : ℤ) {x y : ℤ} → x ≡ y → (N *ℤ pos 0) ≤ℤ (y -ℤ x)
no_way N {x} {y} e =
    let ρ : List ℤ = N ∷ x ∷ y ∷ [] in
    le_goal ρ (search quotes depth 12) (search quotes depth 12) (omega (arith, eq_given ρ (search quotes depth 12) (search quotes depth 12) e))

one_more : (N d r x y z : ℤ) → (N *ℤ d) ≤ℤ (y -ℤ x) → (N *ℤ r) ≤ℤ (z -ℤ y) → (N *ℤ (d +ℤ r)) ≤ℤ (z -ℤ x)
one_more N d r x y z h k =
    let ρ : List ℤ = N ∷ d ∷ r ∷ x ∷ y ∷ z ∷ [] in
    le_goal ρ (search quotes depth 12) (search quotes depth 12)
    (omega (arith, le_given ρ (search quotes depth 12) (search quotes depth 12) h, le_given ρ (search quotes depth 12) (search quotes depth 12) k))

walk : (s : Sheet) (N : ℤ) (X : ℕ → ℤ) → Meets-all s N X → (a : Label) (ts : List Step) (b : Label) → Leads s a ts b → Each (λ t. (t.by.0 < s.gaps) × Passable (s.gap t.by).kind t.backwards) ts → (N *ℤ distance_sum s ts) ≤ℤ (X b.0 -ℤ X a.0)
walk s N X met a [] b l p = no_way N (ap (λ i. X i.0) l)
walk s N X met a (t ∷ ts) b l p =
    one_more N (distance_of s t) (distance_sum s ts) (X a.0) (X (finish s t).0) (X b.0)
    (subst (λ (i : Label). (N *ℤ distance_of s t) ≤ℤ (X (finish s t).0 -ℤ X i.0)) l.0
    (pass N (s.gap t.by).distance X (s.gap t.by).left (s.gap t.by).right (s.gap t.by).kind t.backwards p.0.1 (met t.by.0 p.0.0)))
    (walk s N X met (finish s t) ts b l.1 p.1)

-- a ring with distances above zero leaves no placement
closed_way : (N d x : ℤ) → pos 0 <ℤ N → pos 0 <ℤ d → (N *ℤ d) ≤ℤ (x -ℤ x) → ⊥
closed_way N d x h k l = not_le_of_lt (*ℤ-above h k) (le_trans l (le_of_eq (ring (x ∷ []) (search quotes depth 12) (search quotes depth 12) refl)))

pub ring_excludes : (s : Sheet) → Proper s → (first : Step) (rest : List Step) → Ring s first rest → (p : Placement) → ¬ (Feasible s p)
ring_excludes s proper first rest r p f =
    let c : CommonScale s.labels (λ i. p (label i)) = common s.labels (λ i. p (label i)) (λ i h. f.fractions (label i) h) in
    closed_way c.N (distance_sum s (first ∷ rest)) (c.at (start s first).0) c.above r.above
    (walk s c.N c.at (feasible_at s proper c.above p f c.scaled) (start s first) (first ∷ rest) (start s first) (refl, r.closed) r.passable)
