-- The theory of fractions: the order and the arithmetic of cross products,
-- and fractions as whole numbers over a common scale.
use mathlib.Core.Path.{◌≡◌, refl, sym, ◌∙◌, ap}
use mathlib.Core.Logic.{◌⊎◌, ◌↔◌}
use mathlib.Core.Bool.{Bool, true, false, cond}
use mathlib.Core.List.{List, [], ◌∷◌}
use Prim.Native.Nat.{ℕ, zero, suc, ◌<◌}
use native.Mathlib.Omega.{arith}
use lib.IntN.{ℤ, pos, ◌+ℤ◌, ◌-ℤ◌, ◌*ℤ◌, *ℤ_comm, zero-*ℤ}
use lib.Signed.{◌≤ℤ◌, ◌<ℤ◌}
use lib.Dec.{ltb}
use borrow.Author.Tests.{ltb-true, ltb-false}
use Rattle.exact.specs.declared.Fraction.{Fraction}
use Rattle.exact.specs.Fraction.{IsFraction, ◌≃◌, ◌≼◌, ◌≺◌, ◌⊕◌, ◌⊖◌, ◌⊛◌, whole, square}
use Rattle.algebra.specs.Sum.{sum}
use Rattle.exact.specs.Total.{total}
use Rattle.algebra.proofs.Whole.{le_trans, le_antisym, le_of_eq, le_of_lt, le_or_lt, *ℤ-assoc, *ℤ-le, *ℤ-le_cancel, *ℤ-cancel, *ℤ-above}
use Rattle.algebra.proofs.Ring.{quotes, ring, le_given, eq_given, le_goal, eq_goal}

-- ---- the order

-- At most is reflexive, transitive, antisymmetric and total, and equality is transitive:
-- so fractions compare as numbers do, which document 01 takes for granted. Not every law is cited.

-- equality, through a denominator above zero
pub ≃-trans : (q r s : Fraction) → IsFraction r → q ≃ r → r ≃ s → q ≃ s
≃-trans q r s h e f =
    let ρ : List ℤ = q.num ∷ q.den ∷ r.num ∷ r.den ∷ s.num ∷ s.den ∷ [] in
    *ℤ-cancel h
    (eq_goal ρ (search quotes depth 12) (search quotes depth 12)
    (omega
    (arith, eq_given ρ (search quotes depth 12) (search quotes depth 12) (ap (λ x. s.den *ℤ x) e), eq_given ρ (search quotes depth 12) (search quotes depth 12) (ap (λ x. q.den *ℤ x) f))))

-- reflexive
pub ≼_refl : (q : Fraction) → q ≼ q
≼_refl q = le_of_eq refl

-- transitive
pub ≼_trans : (q r s : Fraction) → IsFraction q → IsFraction r → IsFraction s → q ≼ r → r ≼ s → q ≼ s
≼_trans q r s hq hr hs e f =
    let ρ : List ℤ = q.num ∷ q.den ∷ r.num ∷ r.den ∷ s.num ∷ s.den ∷ [] in
    *ℤ-le_cancel hr
    (le_goal ρ (search quotes depth 12) (search quotes depth 12)
    (omega
    (arith, le_given ρ (search quotes depth 12) (search quotes depth 12) (*ℤ-le (le_of_lt hs) e), le_given ρ (search quotes depth 12) (search quotes depth 12) (*ℤ-le (le_of_lt hq) f))))

-- of two fractions that are at most each other
pub ≼-antisym : (q r : Fraction) → q ≼ r → r ≼ q → q ≃ r
≼-antisym q r h k = le_antisym h k

-- one of two is at most the other, or above it
pub ≼-or-≺ : (q r : Fraction) → (q ≼ r) ⊎ (r ≺ q)
≼-or-≺ q r = le_or_lt (q.num *ℤ r.den) (r.num *ℤ q.den)

-- ---- arithmetic keeps the denominator above zero

-- a sum
pub ⊕-above : (q r : Fraction) → IsFraction q → IsFraction r → IsFraction (q ⊕ r)
⊕-above q r h k = *ℤ-above h k

-- a difference
pub ⊖-above : (q r : Fraction) → IsFraction q → IsFraction r → IsFraction (q ⊖ r)
⊖-above q r h k = *ℤ-above h k

-- a square
pub square_above : (q : Fraction) → IsFraction q → IsFraction (square q)
square_above q h = *ℤ-above h h

-- a whole number
pub whole_above : (z : ℤ) → IsFraction (whole z)
whole_above z = record { lt = tt }

-- ---- a fraction at a scale

-- q is x/N
pub record AtScale (N x : ℤ) (q : Fraction) : Type 0 where
  pub cross : x *ℤ q.den ≡ q.num *ℤ N

-- a fraction over its own denominator
pub scale_self : (q : Fraction) → AtScale q.den q.num q
scale_self q = record { cross = refl }

-- an order of numbers that factors M and N above zero bring together
bring_le : {M N x y u v : ℤ} → pos 0 <ℤ M → pos 0 <ℤ N → M *ℤ x ≡ N *ℤ u → M *ℤ y ≡ N *ℤ v → (u ≤ℤ v) ↔ (x ≤ℤ y)
bring_le hM h_n e f = (
  (λ h. *ℤ-le_cancel hM (le_trans (le_of_eq e) (le_trans (*ℤ-le (le_of_lt h_n) h) (le_of_eq (sym f))))),
  λ h. *ℤ-le_cancel h_n (le_trans (le_of_eq (sym e)) (le_trans (*ℤ-le (le_of_lt hM) h) (le_of_eq f))),
)

-- a fraction's cross product at a scale
cross_scale : {N x : ℤ} {q : Fraction} (d : ℤ) → AtScale N x q → q.den *ℤ d *ℤ x ≡ N *ℤ (q.num *ℤ d)
cross_scale {N} {x} {q} d a =
    let ρ : List ℤ = N ∷ x ∷ q.num ∷ q.den ∷ d ∷ [] in
    ring ρ (search quotes depth 12) (search quotes depth 12) refl ∙ ap (λ t. d *ℤ t) a.cross ∙ ring ρ (search quotes depth 12) (search quotes depth 12) refl

-- the same, with the denominators turned
cross_scale' : {N y : ℤ} {r : Fraction} (b : ℤ) → AtScale N y r → b *ℤ r.den *ℤ y ≡ N *ℤ (r.num *ℤ b)
cross_scale' {r} b a = rw (*ℤ_comm b r.den) (cross_scale b a)

-- at a scale above zero fractions are compared by their numbers
pub ≼-scale : {N x y : ℤ} {q r : Fraction} → pos 0 <ℤ N → IsFraction q → IsFraction r → AtScale N x q → AtScale N y r → (q ≼ r) ↔ (x ≤ℤ y)
≼-scale {q} {r} h_n hq hr a b = bring_le (*ℤ-above hq hr) h_n (cross_scale r.den a) (cross_scale' q.den b)

-- and equality
pub ≃-scale : {N x y : ℤ} {q r : Fraction} → pos 0 <ℤ N → IsFraction q → IsFraction r → AtScale N x q → AtScale N y r → (q ≃ r) ↔ (x ≡ y)
≃-scale {x} {y} {q} {r} h_n hq hr a b =
    let there : (q ≼ r) ↔ (x ≤ℤ y) = ≼-scale h_n hq hr a b in
    let back : (r ≼ q) ↔ (y ≤ℤ x) = ≼-scale h_n hr hq b a in (
      (λ e. le_antisym (there.0 (le_of_eq e)) (back.0 (le_of_eq (sym e)))),
      λ e. le_antisym (there.1 (le_of_eq e)) (back.1 (le_of_eq (sym e))),
    )

-- equal fractions have the same number
pub scale_resp : {N x : ℤ} {q : Fraction} (r : Fraction) → IsFraction q → q ≃ r → AtScale N x q → AtScale N x r
scale_resp {N} {x} {q} r h e a =
    let ρ : List ℤ = N ∷ x ∷ q.num ∷ q.den ∷ r.num ∷ r.den ∷ [] in
    record {
      cross = *ℤ-cancel h
          (eq_goal ρ (search quotes depth 12) (search quotes depth 12)
          (omega
          (arith, eq_given ρ (search quotes depth 12) (search quotes depth 12) (ap (λ t. N *ℤ t) e), eq_given ρ (search quotes depth 12) (search quotes depth 12) (ap (λ t. r.den *ℤ t) a.cross))));
    }

-- the number of a sum
pub ⊕-scale : {N x y : ℤ} {q r : Fraction} → AtScale N x q → AtScale N y r → AtScale N (x +ℤ y) (q ⊕ r)
⊕-scale {N} {x} {y} {q} {r} a b =
    let ρ : List ℤ = N ∷ x ∷ y ∷ q.num ∷ q.den ∷ r.num ∷ r.den ∷ [] in
    record {
      cross = eq_goal ρ (search quotes depth 12) (search quotes depth 12)
          (omega
          (arith, eq_given ρ (search quotes depth 12) (search quotes depth 12) (ap (λ t. r.den *ℤ t) a.cross), eq_given ρ (search quotes depth 12) (search quotes depth 12) (ap (λ t. q.den *ℤ t) b.cross)));
    }

-- of a difference
pub ⊖-scale : {N x y : ℤ} {q r : Fraction} → AtScale N x q → AtScale N y r → AtScale N (x -ℤ y) (q ⊖ r)
⊖-scale {N} {x} {y} {q} {r} a b =
    let ρ : List ℤ = N ∷ x ∷ y ∷ q.num ∷ q.den ∷ r.num ∷ r.den ∷ [] in
    record {
      cross = eq_goal ρ (search quotes depth 12) (search quotes depth 12)
          (omega
          (arith, eq_given ρ (search quotes depth 12) (search quotes depth 12) (ap (λ t. r.den *ℤ t) a.cross), eq_given ρ (search quotes depth 12) (search quotes depth 12) (ap (λ t. q.den *ℤ t) b.cross)));
    }

-- of a multiple
pub ⊛-scale : {N x : ℤ} {q : Fraction} (k : ℤ) → AtScale N x q → AtScale N (k *ℤ x) (k ⊛ q)
⊛-scale {N} {x} {q} k a =
    record { cross = *ℤ-assoc k x q.den ∙ ap (λ t. k *ℤ t) a.cross ∙ sym (*ℤ-assoc k q.num N) }

-- of a whole number
pub whole_scale : (N d : ℤ) → AtScale N (N *ℤ d) (whole d)
whole_scale N d = record { cross = ring (N ∷ d ∷ []) (search quotes depth 12) (search quotes depth 12) refl }

-- of a square, at the square of the scale
pub square_scale : {N x : ℤ} {q : Fraction} → AtScale N x q → AtScale (N *ℤ N) (x *ℤ x) (square q)
square_scale {N} {x} {q} a =
    let ρ : List ℤ = N ∷ x ∷ q.num ∷ q.den ∷ [] in
    record { cross = ring ρ (search quotes depth 12) (search quotes depth 12) refl ∙ ap (λ t. t *ℤ t) a.cross ∙ ring ρ (search quotes depth 12) (search quotes depth 12) refl }

-- a multiple of the scale has the multiple of the number
pub rescale : {N x : ℤ} {q : Fraction} (k : ℤ) → AtScale N x q → AtScale (k *ℤ N) (k *ℤ x) q
rescale {N} {x} {q} k a =
    let ρ : List ℤ = k ∷ N ∷ x ∷ q.num ∷ q.den ∷ [] in
    record { cross = *ℤ-assoc k x q.den ∙ ap (λ t. k *ℤ t) a.cross ∙ ring ρ (search quotes depth 12) (search quotes depth 12) refl }

-- the same with the factor on the right
pub rescale' : {N x : ℤ} {q : Fraction} (k : ℤ) → AtScale N x q → AtScale (N *ℤ k) (k *ℤ x) q
rescale' {N} k a = rw (*ℤ_comm N k) (rescale k a)

-- a difference is at most a third fraction where the difference of their numbers is at most its number
pub ⊖-≼-scale : {N x y z : ℤ} {q r s : Fraction} → pos 0 <ℤ N → IsFraction q → IsFraction r → IsFraction s → AtScale N x q → AtScale N y r → AtScale N z s → (q ⊖ r ≼ s) ↔ ((x -ℤ y) ≤ℤ z)
⊖-≼-scale {q} {r} h_n hq hr hs a b c = ≼-scale h_n (⊖-above q r hq hr) hs (⊖-scale a b) c

-- ---- a common scale

-- one scale for the first n fractions of a family, and their numbers
pub record CommonScale (n : ℕ) (p : ℕ → Fraction) : Type 0 where
  pub N : ℤ
  pub above : pos 0 <ℤ N
  pub at : ℕ → ℤ
  pub scaled : (i : ℕ) → i < n → AtScale N (at i) (p i)

-- one more fraction
extend : {n : ℕ} {p : ℕ → Fraction} → CommonScale n p → IsFraction (p n) → CommonScale (suc n) p
extend {n} {p} c h =
    record { N = N'; above = *ℤ-above h c.above; at = λ i. cond (ltb i n) (old i) new; scaled = λ i k. go i k (ltb i n) refl }
  where
    N' : ℤ
    N' = (p n).den *ℤ c.N

    old : ℕ → ℤ
    old i = (p n).den *ℤ c.at i

    new : ℤ
    new = c.N *ℤ (p n).num

    go : (i : ℕ) → i < suc n → (t : Bool) → ltb i n ≡ t → AtScale N' (cond t (old i) new) (p i)
    go i k true e = rescale (p n).den (c.scaled i (ltb-true i n e))
    go i k false e =
        let same : i ≡ n = omega (arith, ltb-false i n e) in
        rw same (rescale' c.N (scale_self (p n)))

-- finitely many fractions have a common scale
pub common : (n : ℕ) (p : ℕ → Fraction) → ((i : ℕ) → i < n → IsFraction (p i)) → CommonScale n p
common zero p h = record { N = pos 1; above = record { lt = tt }; at = λ i. pos 0; scaled = λ i k. absurd (omega arith) }
common (suc n) p h = extend (common n p (λ i k. h i (omega arith))) (h n (omega arith))

-- one scale for two families
pub record CommonScale₂ (n m : ℕ) (p q : ℕ → Fraction) : Type 0 where
  pub N : ℤ
  pub above : pos 0 <ℤ N
  pub first : ℕ → ℤ
  pub second : ℕ → ℤ
  pub first_scaled : (i : ℕ) → i < n → AtScale N (first i) (p i)
  pub second_scaled : (i : ℕ) → i < m → AtScale N (second i) (q i)

-- two families have one
pub common₂ : (n m : ℕ) (p q : ℕ → Fraction) → ((i : ℕ) → i < n → IsFraction (p i)) → ((i : ℕ) → i < m → IsFraction (q i)) → CommonScale₂ n m p q
common₂ n m p q hp hq =
    let a : CommonScale n p = common n p hp in
    let b : CommonScale m q = common m q hq in
    record { N = a.N *ℤ b.N; above = *ℤ-above a.above b.above; first = λ i. b.N *ℤ a.at i; second = λ i. a.N *ℤ b.at i; first_scaled = λ i k. rescale' b.N (a.scaled i k); second_scaled = λ i k. rescale a.N (b.scaled i k) }

-- one scale for three families
pub record CommonScale₃ (n m l : ℕ) (p q r : ℕ → Fraction) : Type 0 where
  pub N : ℤ
  pub above : pos 0 <ℤ N
  pub first : ℕ → ℤ
  pub second : ℕ → ℤ
  pub third : ℕ → ℤ
  pub first_scaled : (i : ℕ) → i < n → AtScale N (first i) (p i)
  pub second_scaled : (i : ℕ) → i < m → AtScale N (second i) (q i)
  pub third_scaled : (i : ℕ) → i < l → AtScale N (third i) (r i)

-- three families have one
pub common₃ : (n m l : ℕ) (p q r : ℕ → Fraction) → ((i : ℕ) → i < n → IsFraction (p i)) → ((i : ℕ) → i < m → IsFraction (q i)) → ((i : ℕ) → i < l → IsFraction (r i)) → CommonScale₃ n m l p q r
common₃ n m l p q r hp hq hr =
    let a : CommonScale₂ n m p q = common₂ n m p q hp hq in
    let b : CommonScale l r = common l r hr in
    record { N = a.N *ℤ b.N; above = *ℤ-above a.above b.above; first = λ i. b.N *ℤ a.first i; second = λ i. b.N *ℤ a.second i; third = λ i. a.N *ℤ b.at i; first_scaled = λ i k. rescale' b.N (a.first_scaled i k); second_scaled = λ i k. rescale' b.N (a.second_scaled i k); third_scaled = λ i k. rescale a.N (b.scaled i k) }

-- ---- sums of fractions

-- a sum of fractions is one
pub total_above : (n : ℕ) (f : ℕ → Fraction) → ((i : ℕ) → i < n → IsFraction (f i)) → IsFraction (total n f)
unfolding total
total_above zero f h = whole_above (pos 0)
total_above (suc n) f h = ⊕-above (total n f) (f n) (total_above n f (λ i k. h i (omega arith))) (h n (omega arith))

-- its number is the sum of the numbers
pub total_scale : {N : ℤ} (n : ℕ) (f : ℕ → Fraction) (x : ℕ → ℤ) → ((i : ℕ) → i < n → AtScale N (x i) (f i)) → AtScale N (sum n x) (total n f)
unfolding total sum
total_scale {N} zero f x h = record { cross = sym (zero-*ℤ N) }
total_scale (suc n) f x h = ⊕-scale (total_scale n f x (λ i k. h i (omega arith))) (h n (omega arith))
