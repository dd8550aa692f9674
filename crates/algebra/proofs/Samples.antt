-- Samples of `ring`, of the orders and of `sums`: each is used once as a proof would use it. Nothing cites them.
use mathlib.Core.Path.{◌≡◌, refl}
use mathlib.Core.List.{List, [], ◌∷◌}
use Prim.Native.Nat.{ℕ, ◌<◌}
use native.Mathlib.Omega.{arith}
use lib.IntN.{ℤ, pos, ◌+ℤ◌, ◌-ℤ◌, ◌*ℤ◌}
use lib.Signed.{◌≤ℤ◌, ◌<ℤ◌}
use Rattle.algebra.specs.Sum.{sum}
use Rattle.algebra.proofs.Whole.{square_nonneg}
use Rattle.algebra.proofs.Ring.{ring, quotes, le_given, lt_given, eq_given, lt_goal, eq_goal, le_by}
use Rattle.algebra.proofs.Sum.{sums, sum-+, sum_cong, sum_zero, sum_le, sum_swap_cong}

-- ---- identities and orders of numbers

square_of_sum : (a b : ℤ) → (a +ℤ b) *ℤ (a +ℤ b) ≡ a *ℤ a +ℤ pos 2 *ℤ a *ℤ b +ℤ b *ℤ b
square_of_sum a b = ring (a ∷ b ∷ []) (search quotes depth 12) (search quotes depth 12) refl

degree_three : (a b c x y z : ℤ) → (a +ℤ b -ℤ c) *ℤ (x +ℤ y) *ℤ (z -ℤ a) ≡ z *ℤ (x *ℤ a +ℤ x *ℤ b -ℤ x *ℤ c +ℤ (a +ℤ b -ℤ c) *ℤ y) -ℤ a *ℤ (a +ℤ b -ℤ c) *ℤ (y +ℤ x)
degree_three a b c x y z = ring (a ∷ b ∷ c ∷ x ∷ y ∷ z ∷ []) (search quotes depth 12) (search quotes depth 12) refl

from_two_facts : (a b x y : ℤ) → a ≤ℤ b → (x *ℤ y) <ℤ b → (a +ℤ y *ℤ x) <ℤ (pos 2 *ℤ b)
from_two_facts a b x y h k =
    let ρ : List ℤ = a ∷ b ∷ x ∷ y ∷ [] in
    lt_goal ρ (search quotes depth 12) (search quotes depth 12)
    (omega (arith, le_given ρ (search quotes depth 12) (search quotes depth 12) h, lt_given ρ (search quotes depth 12) (search quotes depth 12) k))

twice_product : (a b : ℤ) → (pos 2 *ℤ a *ℤ b) ≤ℤ (a *ℤ a +ℤ b *ℤ b)
twice_product a b = le_by (square_nonneg (a -ℤ b)) (ring (a ∷ b ∷ []) (search quotes depth 12) (search quotes depth 12) refl)

-- ---- of sums

sum_lin : (n : ℕ) (a b : ℤ) (f g : ℕ → ℤ) → a *ℤ sum n f +ℤ b *ℤ sum n g -ℤ sum n f ≡ sum n (λ i. (a -ℤ pos 1) *ℤ f i) +ℤ sum n g *ℤ b
sum_lin n a b f g =
    simp sums (sum_cong n _ _ (λ i _. ring (a ∷ b ∷ f i ∷ g i ∷ []) (search quotes depth 12) (search quotes depth 12) refl))

-- with a fact of each term
sum_fact : (n : ℕ) (a : ℤ) (f g : ℕ → ℤ) → ((i : ℕ) → i < n → f i ≡ a *ℤ g i) → sum n f -ℤ a *ℤ sum n g ≡ pos 0
sum_fact n a f g e =
    simp sums
    (sum_zero n _ (λ i h. rw (e i h) (ring (a ∷ g i ∷ []) (search quotes depth 12) (search quotes depth 12) refl)))

-- an order
sum_twice_product : (n : ℕ) (f g : ℕ → ℤ) → (pos 2 *ℤ sum n (λ i. f i *ℤ g i)) ≤ℤ (sum n (λ i. f i *ℤ f i) +ℤ sum n (λ i. g i *ℤ g i))
sum_twice_product n f g =
    simp sums
    (sum_le n _ _ (λ i _. le_by (square_nonneg (f i -ℤ g i)) (ring (f i ∷ g i ∷ []) (search quotes depth 12) (search quotes depth 12) refl)))

-- sums in sums
sum_bilinear : (n m : ℕ) (x y : ℕ → ℤ) (a : ℕ → ℕ → ℤ) → sum n (λ i. x i *ℤ sum m (λ j. a i j *ℤ y j)) ≡ sum m (λ j. sum n (λ i. a i j *ℤ x i) *ℤ y j)
sum_bilinear n m x y a =
    simp sums
    (sum_swap_cong n m _ _ (λ i j _ _. ring (x i ∷ y j ∷ a i j ∷ []) (search quotes depth 12) (search quotes depth 12) refl))

-- beside a number that is no sum: split the sums, which are then atoms
sum_beside : (n : ℕ) (c : ℤ) (f g : ℕ → ℤ) → sum n f +ℤ c +ℤ sum n g ≡ c +ℤ sum n (λ i. f i +ℤ g i)
sum_beside n c f g =
    rw (sum-+ n f g) (ring (c ∷ sum n f ∷ sum n g ∷ []) (search quotes depth 12) (search quotes depth 12) refl)

-- or show the sums' own identity first, and give it to omega
sum_aside : (n : ℕ) (c a : ℤ) (f g : ℕ → ℤ) → sum n (λ i. f i *ℤ (g i +ℤ a)) +ℤ c -ℤ a *ℤ sum n f ≡ c +ℤ sum n (λ i. g i *ℤ f i)
sum_aside n c a f g =
    let s = sum n (λ i. f i *ℤ (g i +ℤ a)) in
    let t = sum n (λ i. g i *ℤ f i) in
    let e : s -ℤ a *ℤ sum n f ≡ t = simp sums (sum_cong n _ _ (λ i _. ring (a ∷ f i ∷ g i ∷ []) (search quotes depth 12) (search quotes depth 12) refl)) in
    let ρ : List ℤ = s ∷ t ∷ sum n f ∷ a ∷ c ∷ [] in
    eq_goal ρ (search quotes depth 12) (search quotes depth 12) (omega (arith, eq_given ρ (search quotes depth 12) (search quotes depth 12) e))
