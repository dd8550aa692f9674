-- Why the outer steps end: every place is a whole number at one scale K,
-- so that the cost at that scale is a whole number too.
-- It grows with each outer step and stays below a limit.
-- K is far too large to compute, and nothing computes it: it stays shut.
use mathlib.Core.Path.{◌≡◌, refl, sym, ◌∙◌, ap}
use mathlib.Core.Bool.{Bool}
use mathlib.Core.List.{[], ◌∷◌}
use Prim.Native.Nat.{ℕ, zero, suc, ◌+◌, ◌*◌, ◌-◌, ◌/◌, ◌≤◌, ◌<◌}
use native.Mathlib.Omega.{arith}
use native.Mathlib.Nat.{mul_comm, mul_assoc, mul-le-mul_left, mul-le-mul_right, mul-div_cancel, le_trans}
use native.Mathlib.Decide.{dec_le}
use lib.IntN.{ℤ, pos, neg_ℤ, nat_abs, ◌-ℤ◌, ◌*ℤ◌, *ℤ_comm, pos-*ℤ-pos}
use lib.Signed.{◌≤ℤ◌, ◌<ℤ◌}
use Rattle.algebra.proofs.Whole.{parts_nat_abs, le_parts, lt_parts, parts_lt, no_nn, le_of_lt, *ℤ-above, *ℤ-lt, *ℤ-lt_cancel, *ℤ-cancel}
use Rattle.algebra.proofs.Ring.{ring, quotes}
use Rattle.algebra.proofs.Quotient.{pos_of_above, nat_abs-neg, nat_abs-above, nat_abs-*, nat_abs-+}
use Rattle.ground.specs.Limits.{labels_most, core_wanted_most, core_weight_most, block_weight_most, offset_most}
use Rattle.least_move.proofs.Progress.{cost_nonneg, cost_bound}
use Rattle.least_move.specs.States.{Numbers, cost_at, PlacedAt, Reached, fact, K, at_k, cost_k, far, limit, measure}
use Rattle.least_move.proofs.Sides.{scaled_cost}

-- ---- one scale for every place

fact_above : (n : ℕ) → 0 < fact n
unfolding fact
fact_above zero = omega arith
fact_above (suc n) = omega (arith, fact_above n)

fact_divides : (n w : ℕ) → 0 < w → w ≤ n → (q : ℕ) × (q * w ≡ fact n)
unfolding fact
fact_divides zero w h l = absurd (omega arith)
fact_divides (suc n) w h l = go (dec_le w n) (fact_divides n w h)
  where
    go : Dec (w ≤ n) → (w ≤ n → (q : ℕ) × (q * w ≡ fact n)) → (q : ℕ) × (q * w ≡ suc n * fact n)
    go (yes k) below = (suc n * (below k).0, mul_assoc (suc n) (below k).0 w ∙ ap (λ (x : ℕ). suc n * x) (below k).1)
    go (no k) below =
        let e : w ≡ suc n = omega arith in
        (fact n, ap (λ (x : ℕ). fact n * x) e ∙ mul_comm (fact n) (suc n))

pub K-above : 0 < K
unfolding K
K-above = fact_above block_weight_most

pub K-divides : (w : ℕ) → 0 < w → w ≤ block_weight_most → (q : ℕ) × (q * w ≡ K)
unfolding K
K-divides = fact_divides block_weight_most

-- the quotient
K-over : (w : ℕ) → 0 < w → w ≤ block_weight_most → K / w * w ≡ K
K-over w h l =
    let r : (q : ℕ) × (q * w ≡ K) = K-divides w h l in
    let e : K / w ≡ r.0 = ap (λ (x : ℕ). x / w) (sym r.1) ∙ mul-div_cancel r.0 h in
    ap (λ (x : ℕ). x * w) e ∙ r.1

-- denominators from 1 to the most that a block weighs
pub record DensIn (n : ℕ) (den : ℕ → ℤ) : Type 0 where
  pub above : (i : ℕ) → i < n → pos 0 <ℤ den i
  pub most : (i : ℕ) → i < n → den i ≤ℤ pos block_weight_most

den_most : (den : ℤ) → pos 0 <ℤ den → den ≤ℤ pos block_weight_most → nat_abs den ≤ block_weight_most
den_most den h l = omega (arith, lt_parts h, le_parts l, parts_nat_abs den, no_nn (le_of_lt h))

turned : (a b c : ℤ) → a *ℤ b *ℤ c ≡ b *ℤ c *ℤ a
turned a b c = ring (a ∷ b ∷ c ∷ []) (search quotes depth 12) (search quotes depth 12) refl

pub at_k-says : (num den : ℤ) → pos 0 <ℤ den → den ≤ℤ pos block_weight_most → at_k num den *ℤ den ≡ pos K *ℤ num
unfolding at_k
at_k-says num den h l =
    let d : ℕ = nat_abs den in
    ap (λ x. num *ℤ pos (K / d) *ℤ x) (sym (pos_of_above h))
    ∙ turned num (pos (K / d)) (pos d)
    ∙ ap (λ x. x *ℤ num) (pos-*ℤ-pos (K / d) d ∙ ap pos (K-over d (nat_abs-above h) (den_most den h l)))

-- two numbers of one fraction, at two scales
same_place : (N x k y num den : ℤ) → pos 0 <ℤ den → x *ℤ den ≡ N *ℤ num → y *ℤ den ≡ k *ℤ num → k *ℤ x ≡ N *ℤ y
same_place N x k y num den h p q =
    *ℤ-cancel h
    (ring (den ∷ k ∷ x ∷ []) (search quotes depth 12) (search quotes depth 12) refl ∙ ap (λ t. k *ℤ t) p
    ∙ ring (k ∷ N ∷ num ∷ []) (search quotes depth 12) (search quotes depth 12) refl ∙ ap (λ t. N *ℤ t) (sym q)
    ∙ ring (N ∷ y ∷ den ∷ []) (search quotes depth 12) (search quotes depth 12) refl)

-- it is the cost at any other scale, but for the squares of the two scales
pub cost_k-scale : (z : Numbers) (N : ℤ) (X num den : ℕ → ℤ) → DensIn z.n den → PlacedAt z N X num den → (N *ℤ N) *ℤ cost_k z num den ≡ (pos K *ℤ pos K) *ℤ cost_at z N X
unfolding cost_k
cost_k-scale z N X num den dens placed =
    sym (scaled_cost z N (pos K) (λ i. at_k (num i) (den i)) (λ i. pos K *ℤ X i)
    (λ i l. same_place N (X i) (pos K) (at_k (num i) (den i)) (num i) (den i) (dens.above i l) (placed i l) (at_k-says (num i) (den i) (dens.above i l) (dens.most i l))))
    ∙ ap (λ M. cost_at z M (λ i. pos K *ℤ X i)) (*ℤ_comm N (pos K))
    ∙ scaled_cost z (pos K) N X (λ i. pos K *ℤ X i) (λ _ _. refl)

-- ---- it grows with each outer step

K-pos : pos 0 <ℤ pos K
K-pos = parts_lt (omega (arith, K-above))

pub cost_k-grows : (z : Numbers) (F : ℕ → Bool) (num den num' den' : ℕ → ℤ) → DensIn z.n den → DensIn z.n den' → (r : Reached z F num den) → PlacedAt z r.N r.X num' den' → cost_k z num den <ℤ cost_k z num' den'
cost_k-grows z F num den num' den' dens dens' r placed =
    *ℤ-lt_cancel {c = r.N *ℤ r.N} (*ℤ-above r.above r.above)
    (rw (cost_k-scale z r.N r.X₀ num den dens r.origin, cost_k-scale z r.N r.X num' den' dens' placed)
    (*ℤ-lt (*ℤ-above K-pos K-pos) r.more))

-- ---- it stays below a limit

-- a sheet within the bounds of document 01, and places that its gaps can lead to
pub record Small (z : Numbers) : Type 0 where
  pub labels : z.n ≤ labels_most
  pub heavy : (i : ℕ) → i < z.n → pos 0 ≤ℤ z.w i
  pub light : (i : ℕ) → i < z.n → nat_abs (z.w i) ≤ core_weight_most
  pub wants : (i : ℕ) → i < z.n → nat_abs (z.d i) ≤ core_wanted_most

pub record PlacesIn (n : ℕ) (num den : ℕ → ℤ) : Type 0 where
  pub dens : DensIn n den
  pub near : (i : ℕ) → i < n → nat_abs (num i) ≤ (core_wanted_most + offset_most) * nat_abs (den i)

nat_abs-- : (a b : ℤ) → nat_abs (a -ℤ b) ≤ nat_abs a + nat_abs b
nat_abs-- a b = omega (arith, nat_abs-+ a (neg_ℤ b), nat_abs-neg b)

at_k-near : (num den : ℤ) → pos 0 <ℤ den → den ≤ℤ pos block_weight_most → nat_abs num ≤ (core_wanted_most + offset_most) * nat_abs den → nat_abs (at_k num den) ≤ (core_wanted_most + offset_most) * K
unfolding at_k
at_k-near num den h l near =
    let d : ℕ = nat_abs den in
    let size : nat_abs (num *ℤ pos (K / d)) ≡ nat_abs num * (K / d) = nat_abs-* num (pos (K / d)) in
    let whole : K / d * d ≡ K = K-over d (nat_abs-above h) (den_most den h l) in
    omega (arith, size, mul-le-mul_right (K / d) near, whole)

moved_near : (num den d : ℤ) → pos 0 <ℤ den → den ≤ℤ pos block_weight_most → nat_abs num ≤ (core_wanted_most + offset_most) * nat_abs den → nat_abs d ≤ core_wanted_most → nat_abs (at_k num den -ℤ pos K *ℤ d) ≤ far
unfolding far
moved_near num den d h l near want =
    let size : nat_abs (pos K *ℤ d) ≡ K * nat_abs d = nat_abs-* (pos K) d in
    let reach : K * nat_abs d ≤ core_wanted_most * K = omega (arith, mul-le-mul_left K want) in
    omega (arith, nat_abs-- (at_k num den) (pos K *ℤ d), at_k-near num den h l near)

pub cost_k-nonneg : (z : Numbers) (num den : ℕ → ℤ) → Small z → pos 0 ≤ℤ cost_k z num den
unfolding cost_k
cost_k-nonneg z num den small = cost_nonneg z.n z.w (λ i. pos K *ℤ z.d i) (λ i. at_k (num i) (den i)) small.heavy

pub cost_k-bounded : (z : Numbers) (num den : ℕ → ℤ) → Small z → PlacesIn z.n num den → nat_abs (cost_k z num den) ≤ limit
unfolding cost_k limit
cost_k-bounded z num den small places =
    le_trans
    (cost_bound z.n z.w (λ i. pos K *ℤ z.d i) (λ i. at_k (num i) (den i)) core_weight_most far small.light
    (λ i l. moved_near (num i) (den i) (z.d i) (places.dens.above i l) (places.dens.most i l) (places.near i l) (small.wants i l)))
    (mul-le-mul_right (core_weight_most * (far * far)) small.labels)

-- ---- the measure of the outer loop

less : (a b : ℤ) (top : ℕ) → pos 0 ≤ℤ a → a <ℤ b → nat_abs b ≤ top → top - nat_abs b < top - nat_abs a
less a b top h k l = omega (arith, le_parts h, lt_parts k, parts_nat_abs a, parts_nat_abs b, no_nn h)

pub measure_falls : (z : Numbers) (F : ℕ → Bool) (num den num' den' : ℕ → ℤ) → Small z → DensIn z.n den → PlacesIn z.n num' den' → (r : Reached z F num den) → PlacedAt z r.N r.X num' den' → measure z num' den' < measure z num den
unfolding measure
measure_falls z F num den num' den' small dens places r placed =
    less (cost_k z num den) (cost_k z num' den') limit (cost_k-nonneg z num den small)
    (cost_k-grows z F num den num' den' dens places.dens r placed) (cost_k-bounded z num' den' small places)
