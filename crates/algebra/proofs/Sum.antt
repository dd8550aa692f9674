-- Finite sums of signed whole numbers: congruence, linearity, order, exchange, and one term among the others.
-- `sums`, at the end, gathers a combination of sums over one range into one sum,
-- so that an identity of sums is one of its terms.
use mathlib.Core.Path.{◌≡◌, refl, sym, ◌∙◌, ap, ap₂}
use mathlib.Core.Logic.{◌⊎◌, inl, inr, ⊎_elim}
use mathlib.Core.List.{[], ◌∷◌}
use Prim.Native.Nat.{ℕ, zero, suc, ◌+◌, ◌*◌, ◌≤◌, ◌<◌}
use native.Mathlib.Omega.{arith}
use native.Mathlib.Numerals.{add-one}
use native.Mathlib.Nat.{add-zero, add-suc}
use native.Mathlib.Decide.{dec_lt}
use lib.IntN.{ℤ, pos, neg_ℤ, nat_abs, ◌+ℤ◌, ◌-ℤ◌, ◌*ℤ◌, +ℤ_assoc, neg_ℤ-+ℤ, +ℤ_idl, +ℤ_idr, *ℤ_comm, *ℤ-zero, zero-*ℤ}
use lib.Signed.{◌≤ℤ◌}
use lib.Dec.{eqb}
use borrow.Author.Tests.{eq-eqb, ne_eqb}
use Rattle.algebra.specs.Sum.{sum, ind}
use Rattle.algebra.proofs.Whole.{parts-+, le_parts, parts_le, le_trans, le_antisym, le_of_eq, +ℤ-le, *ℤ-+ℤ, one_*ℤ}
use Rattle.algebra.proofs.Ring.{ring, quotes}
use Rattle.algebra.proofs.Quotient.{nat_abs-+}

-- ---- the two clauses as equations

-- no term
pub sum_none : (f : ℕ → ℤ) → sum 0 f ≡ pos 0
unfolding sum
sum_none f = refl

-- the last term apart
pub sum_last : (n : ℕ) (f : ℕ → ℤ) → sum (suc n) f ≡ sum n f +ℤ f n
unfolding sum
sum_last n f = refl

-- an index of one more term is the last or one of the others
pub last_or_below : (i n : ℕ) → i < suc n → (i ≡ n) ⊎ (i < n)
last_or_below i n h = go (dec_lt i n)
  where
    go : Dec (i < n) → (i ≡ n) ⊎ (i < n)
    go (yes k) = inr k
    go (no k) = inl (omega arith)

-- ---- congruence

-- equal terms, equal sums
pub sum_cong : (n : ℕ) (f g : ℕ → ℤ) → ((i : ℕ) → i < n → f i ≡ g i) → sum n f ≡ sum n g
unfolding sum
sum_cong zero f g e = refl
sum_cong (suc n) f g e = ap₂ ◌+ℤ◌ (sum_cong n f g (λ i h. e i (omega arith))) (e n (omega arith))

-- the same of sums in sums
pub sum_cong2 : (n m : ℕ) (f g : ℕ → ℕ → ℤ) → ((i j : ℕ) → i < n → j < m → f i j ≡ g i j) → sum n (λ i. sum m (λ j. f i j)) ≡ sum n (λ i. sum m (λ j. g i j))
sum_cong2 n m f g e = sum_cong n (λ i. sum m (f i)) (λ i. sum m (g i)) (λ i h. sum_cong m (f i) (g i) (λ j k. e i j h k))

-- terms that are all zero
pub sum_zero : (n : ℕ) (f : ℕ → ℤ) → ((i : ℕ) → i < n → f i ≡ pos 0) → sum n f ≡ pos 0
unfolding sum
sum_zero zero f e = refl
sum_zero (suc n) f e = ap₂ ◌+ℤ◌ (sum_zero n f (λ i h. e i (omega arith))) (e n (omega arith))

-- ---- linearity

four-+ : (a b c d : ℤ) → a +ℤ b +ℤ (c +ℤ d) ≡ a +ℤ c +ℤ (b +ℤ d)
four-+ a b c d = ring (a ∷ b ∷ c ∷ d ∷ []) (search quotes depth 12) (search quotes depth 12) refl

-- a sum of sums
pub sum-+ : (n : ℕ) (f g : ℕ → ℤ) → sum n (λ i. f i +ℤ g i) ≡ sum n f +ℤ sum n g
unfolding sum
sum-+ zero f g = refl
sum-+ (suc n) f g = ap (λ x. x +ℤ (f n +ℤ g n)) (sum-+ n f g) ∙ four-+ (sum n f) (sum n g) (f n) (g n)

-- the terms negated
pub sum_neg : (n : ℕ) (f : ℕ → ℤ) → sum n (λ i. neg_ℤ (f i)) ≡ neg_ℤ (sum n f)
unfolding sum
sum_neg zero f = refl
sum_neg (suc n) f = ap (λ x. x +ℤ neg_ℤ (f n)) (sum_neg n f) ∙ sym (neg_ℤ-+ℤ (sum n f) (f n))

-- a difference of sums
pub sum-- : (n : ℕ) (f g : ℕ → ℤ) → sum n (λ i. f i -ℤ g i) ≡ sum n f -ℤ sum n g
sum-- n f g = sum-+ n f (λ i. neg_ℤ (g i)) ∙ ap (λ x. sum n f +ℤ x) (sum_neg n g)

-- a factor on the left
pub sum_* : (n : ℕ) (k : ℤ) (f : ℕ → ℤ) → sum n (λ i. k *ℤ f i) ≡ k *ℤ sum n f
unfolding sum
sum_* zero k f = sym (*ℤ-zero k)
sum_* (suc n) k f = ap (λ x. x +ℤ k *ℤ f n) (sum_* n k f) ∙ sym (*ℤ-+ℤ k (sum n f) (f n))

-- and on the right
pub sum_*r : (n : ℕ) (f : ℕ → ℤ) (k : ℤ) → sum n (λ i. f i *ℤ k) ≡ sum n f *ℤ k
sum_*r n f k = sum_cong n (λ i. f i *ℤ k) (λ i. k *ℤ f i) (λ i _. *ℤ_comm (f i) k) ∙ sum_* n k f ∙ *ℤ_comm k (sum n f)

step : (x c : ℤ) → x *ℤ c +ℤ c ≡ (x +ℤ pos 1) *ℤ c
step x c = ring (x ∷ c ∷ []) (search quotes depth 12) (search quotes depth 12) refl

-- terms that are all the same
pub sum_const : (n : ℕ) (c : ℤ) → sum n (λ _. c) ≡ pos n *ℤ c
unfolding sum
sum_const zero c = sym (zero-*ℤ c)
sum_const (suc n) c = ap (λ x. x +ℤ c) (sum_const n c) ∙ step (pos n) c ∙ ap (λ m. pos m *ℤ c) (add-one n)

-- ---- two sums

-- the order of two sums is exchanged
pub sum_swap : (n m : ℕ) (f : ℕ → ℕ → ℤ) → sum n (λ i. sum m (λ j. f i j)) ≡ sum m (λ j. sum n (λ i. f i j))
unfolding sum
sum_swap zero m f = sym (sum_zero m (λ _. pos 0) (λ _ _. refl))
sum_swap (suc n) m f = ap (λ x. x +ℤ sum m (f n)) (sum_swap n m f) ∙ sym (sum-+ m (λ j. sum n (λ i. f i j)) (f n))

-- and the terms brought to another form on the way
pub sum_swap_cong : (n m : ℕ) (f g : ℕ → ℕ → ℤ) → ((i j : ℕ) → i < n → j < m → f i j ≡ g j i) → sum n (λ i. sum m (λ j. f i j)) ≡ sum m (λ j. sum n (λ i. g j i))
sum_swap_cong n m f g e = sum_swap n m f ∙ sum_cong2 m n (λ j i. f i j) g (λ j i k h. e i j h k)

-- a range and the one after it
pub sum_append : (n m : ℕ) (f : ℕ → ℤ) → sum (n + m) f ≡ sum n f +ℤ sum m (λ i. f (n + i))
unfolding sum
sum_append n zero f = ap (λ x. sum x f) (add-zero n) ∙ sym (+ℤ_idr (sum n f))
sum_append n (suc m) f =
    ap (λ x. sum x f) (add-suc n m) ∙ ap (λ x. x +ℤ f (n + m)) (sum_append n m f)
    ∙ +ℤ_assoc (sum n f) (sum m (λ i. f (n + i))) (f (n + m))

-- the first term apart
pub sum_first : (n : ℕ) (f : ℕ → ℤ) → sum (suc n) f ≡ f 0 +ℤ sum n (λ i. f (suc i))
unfolding sum
sum_first zero f = +ℤ_idl (f 0) ∙ sym (+ℤ_idr (f 0))
sum_first (suc n) f = ap (λ x. x +ℤ f (suc n)) (sum_first n f) ∙ +ℤ_assoc (f 0) (sum n (λ i. f (suc i))) (f (suc n))

-- ---- order

-- larger terms, a larger sum
pub sum_le : (n : ℕ) (f g : ℕ → ℤ) → ((i : ℕ) → i < n → f i ≤ℤ g i) → sum n f ≤ℤ sum n g
unfolding sum
sum_le zero f g h = le_of_eq refl
sum_le (suc n) f g h = +ℤ-le (sum_le n f g (λ i k. h i (omega arith))) (h n (omega arith))

-- no term is below zero, nor is the sum
pub sum_nonneg : (n : ℕ) (f : ℕ → ℤ) → ((i : ℕ) → i < n → pos 0 ≤ℤ f i) → pos 0 ≤ℤ sum n f
unfolding sum
sum_nonneg zero f h = le_of_eq refl
sum_nonneg (suc n) f h = +ℤ-le (sum_nonneg n f (λ i k. h i (omega arith))) (h n (omega arith))

-- and a term is at most the sum
pub sum_term_le : (n : ℕ) (f : ℕ → ℤ) → ((i : ℕ) → i < n → pos 0 ≤ℤ f i) → (i : ℕ) → i < n → f i ≤ℤ sum n f
unfolding sum
sum_term_le zero f h i l = absurd (omega arith)
sum_term_le (suc n) f h i l =
    let below : (j : ℕ) → j < n → pos 0 ≤ℤ f j = λ j k. h j (omega arith) in
    ⊎_elim
    (λ (e : i ≡ n). rw e (parts_le (omega (arith, parts-+ (sum n f) (f n), le_parts (sum_nonneg n f below)))))
    (λ (k : i < n). parts_le (omega (arith, parts-+ (sum n f) (f n), le_parts (sum_term_le n f below i k), le_parts (h n (omega arith)))))
    (last_or_below i n l)

-- so that a sum of zero has only terms of zero
pub sum_nonneg_zero : (n : ℕ) (f : ℕ → ℤ) → ((i : ℕ) → i < n → pos 0 ≤ℤ f i) → sum n f ≤ℤ pos 0 → (i : ℕ) → i < n → f i ≡ pos 0
sum_nonneg_zero n f h z i l = le_antisym (le_trans (sum_term_le n f h i l) z) (h i l)

-- ---- one term among the others

last_changed : (s a b : ℤ) → s +ℤ b ≡ s +ℤ a +ℤ (b -ℤ a)
last_changed s a b = ring (s ∷ a ∷ b ∷ []) (search quotes depth 12) (search quotes depth 12) refl

other_changed : (s d a : ℤ) → s +ℤ d +ℤ a ≡ s +ℤ a +ℤ d
other_changed s d a = ring (s ∷ d ∷ a ∷ []) (search quotes depth 12) (search quotes depth 12) refl

-- one term changed
pub sum_change : (n : ℕ) (f g : ℕ → ℤ) (k : ℕ) → k < n → ((i : ℕ) → i < n → (i ≡ k → ⊥) → f i ≡ g i) → sum n g ≡ sum n f +ℤ (g k -ℤ f k)
unfolding sum
sum_change zero f g k l e = absurd (omega arith)
sum_change (suc n) f g k l e =
    ⊎_elim
    (λ (q : k ≡ n). rw q
    (ap (λ x. x +ℤ g n) (sum_cong n g f (λ i h. sym (e i (omega arith) (λ p. omega arith)))) ∙ last_changed (sum n f) (f n) (g n)))
    (λ (h : k < n).
    ap₂ ◌+ℤ◌ (sum_change n f g k h (λ i j. e i (omega arith))) (sym (e n (omega arith) (λ p. omega arith)))
    ∙ other_changed (sum n f) (g k -ℤ f k) (f n))
    (last_or_below k n l)

-- every term but one is zero
pub sum_one_term : (n : ℕ) (f : ℕ → ℤ) (k : ℕ) → k < n → ((i : ℕ) → i < n → (i ≡ k → ⊥) → f i ≡ pos 0) → sum n f ≡ f k
sum_one_term n f k l e =
    sum_change n (λ _. pos 0) f k l (λ i h d. sym (e i h d)) ∙ ap (λ x. x +ℤ (f k -ℤ pos 0)) (sum_zero n (λ _. pos 0) (λ _ _. refl))
    ∙ +ℤ_idl (f k -ℤ pos 0) ∙ +ℤ_idr (f k)

off : (f : ℕ → ℤ) (i k : ℕ) → (i ≡ k → ⊥) → ind (eqb i k) *ℤ f i ≡ pos 0
off f i k d = ap (λ b. ind b *ℤ f i) (ne_eqb i k d) ∙ zero-*ℤ (f i)

-- an indicator of one index picks its term
pub sum_ind : (n : ℕ) (f : ℕ → ℤ) (k : ℕ) → k < n → sum n (λ i. ind (eqb i k) *ℤ f i) ≡ f k
sum_ind n f k l =
    sum_one_term n (λ i. ind (eqb i k) *ℤ f i) k l (λ i _. off f i k) ∙ ap (λ b. ind b *ℤ f k) (eq-eqb k k refl) ∙ one_*ℤ (f k)

-- ---- magnitude

-- terms within a bound
pub sum_bound : (n : ℕ) (f : ℕ → ℤ) (B : ℕ) → ((i : ℕ) → i < n → nat_abs (f i) ≤ B) → nat_abs (sum n f) ≤ n * B
unfolding sum
sum_bound zero f B h = omega arith
sum_bound (suc n) f B h = omega (arith, nat_abs-+ (sum n f) (f n), sum_bound n f B (λ i k. h i (omega arith)), h n (omega arith))

-- ---- identities of sums

-- From a combination of sums over one range to one sum.
-- The equations run to the left: there each function stands bare, and `simp` finds it.
-- A difference needs none of its own: `a -ℤ b` computes to `a +ℤ neg_ℤ b`.
-- An identity is `simp sums (sum_cong n _ _ (λ i h. ..))`, with a `ring` for the terms.
-- With sum_zero where one side is zero, sum_le for an order, sum_cong2 or sum_swap_cong for sums in sums.
pub ruleset sums = (← sum-+, ← sum_neg, ← sum_*, ← sum_*r)
