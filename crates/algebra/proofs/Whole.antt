-- The ordered ring of signed whole numbers: the laws that lib.IntN and lib.Signed lack.
-- A number is read as the difference of two natural numbers, `pp z` less `nn z`.
-- A law of ℤ is then one of sums and products in ℕ, which omega proves;
-- no lemma after the first section goes by the signs of its arguments.
use mathlib.Core.Path.{◌≡◌, refl, sym, ◌∙◌, ap}
use mathlib.Core.Logic.{◌⊎◌, inl, inr, ⊎_elim}
use mathlib.Core.Bool.{Bool, true, false, cond}
use Prim.Native.Nat.{ℕ, zero, suc, ◌+◌, ◌*◌, ◌-◌, ◌≤◌, ◌<◌}
use native.Mathlib.Omega.{arith}
use native.Mathlib.Nat.{mul-le-mul_left, le_of_mul-le-mul_left, mul-lt-mul_of_pos_left}
use native.Mathlib.Decide.{dec_le}
use lib.IntN.{ℤ, pos, negsuc, neg_ℤ, nat_abs, ◌+ℤ◌, ◌-ℤ◌, ◌*ℤ◌, *ℤ_comm, *ℤ-zero, sub_ℕ}
use lib.Signed.{◌≤ℤ◌, ◌<ℤ◌}
use lib.Dec.{ltb, leb→le, le→leb, ltb→lt, lt→ltb}
use borrow.Author.Tests.{ltb-true, ltb-false}

-- the part of a number above zero, and the part below
abbrev pub pp : ℤ → ℕ
pp (pos n) = n
pp (negsuc n) = 0

abbrev pub nn : ℤ → ℕ
nn (pos n) = 0
nn (negsuc n) = suc n

-- ---- what the parts say

sub_parts : (a b : ℕ) → pp (sub_ℕ a b) + b ≡ a + nn (sub_ℕ a b)
sub_parts a b = go (ltb a b) refl
  where
    go : (t : Bool) → ltb a b ≡ t → pp (cond t (negsuc (b - suc a)) (pos (a - b))) + b ≡ a + nn (cond t (negsuc (b - suc a)) (pos (a - b)))
    go true e = omega (arith, ltb-true a b e)
    go false e = omega (arith, ltb-false a b e)

pub parts-+ : (a b : ℤ) → pp (a +ℤ b) + (nn a + nn b) ≡ pp a + pp b + nn (a +ℤ b)
parts-+ (pos a) (pos b) = omega arith
parts-+ (pos a) (negsuc b) = omega (arith, sub_parts a (suc b))
parts-+ (negsuc a) (pos b) = omega (arith, sub_parts b (suc a))
parts-+ (negsuc a) (negsuc b) = omega arith

pub pp_neg : (a : ℤ) → pp (neg_ℤ a) ≡ nn a
pp_neg (pos zero) = refl
pp_neg (pos (suc n)) = refl
pp_neg (negsuc n) = refl

pub nn_neg : (a : ℤ) → nn (neg_ℤ a) ≡ pp a
nn_neg (pos zero) = refl
nn_neg (pos (suc n)) = refl
nn_neg (negsuc n) = refl

pub pp_* : (a b : ℤ) → pp (a *ℤ b) ≡ pp a * pp b + nn a * nn b
pp_* (pos a) (pos b) = omega arith
pp_* (pos a) (negsuc b) = omega (arith, pp_neg (pos (a * suc b)))
pp_* (negsuc a) (pos b) = omega (arith, pp_neg (pos (suc a * b)))
pp_* (negsuc a) (negsuc b) = omega arith

pub nn_* : (a b : ℤ) → nn (a *ℤ b) ≡ pp a * nn b + nn a * pp b
nn_* (pos a) (pos b) = omega arith
nn_* (pos a) (negsuc b) = omega (arith, nn_neg (pos (a * suc b)))
nn_* (negsuc a) (pos b) = omega (arith, nn_neg (pos (suc a * b)))
nn_* (negsuc a) (negsuc b) = omega arith

-- one of the two parts is zero, and both together are the number without its sign
pub one_part : (a : ℤ) → (nn a ≡ 0) ⊎ (pp a ≡ 0)
one_part (pos n) = inl refl
one_part (negsuc n) = inr refl

pub parts_nat_abs : (a : ℤ) → nat_abs a ≡ pp a + nn a
parts_nat_abs (pos n) = omega arith
parts_nat_abs (negsuc n) = omega arith

-- a number is its parts
pub by_parts : (a b : ℤ) → pp a + nn b ≡ pp b + nn a → a ≡ b
by_parts (pos a) (pos b) e = let p : a ≡ b = omega arith in ap pos p
by_parts (pos a) (negsuc b) e = absurd (omega arith)
by_parts (negsuc a) (pos b) e = absurd (omega arith)
by_parts (negsuc a) (negsuc b) e = let p : a ≡ b = omega arith in ap negsuc p

-- and so is their order
pub le_parts : {a b : ℤ} → a ≤ℤ b → pp a + nn b ≤ pp b + nn a
le_parts {a = pos a} {b = pos b} h = omega (arith, leb→le a b h.le)
le_parts {a = pos a} {b = negsuc b} h = absurd h.le
le_parts {a = negsuc a} {b = pos b} h = omega arith
le_parts {a = negsuc a} {b = negsuc b} h = omega (arith, leb→le b a h.le)

pub parts_le : {a b : ℤ} → pp a + nn b ≤ pp b + nn a → a ≤ℤ b
parts_le {a = pos a} {b = pos b} h = record { le = le→leb a b (omega arith) }
parts_le {a = pos a} {b = negsuc b} h = absurd (omega arith)
parts_le {a = negsuc a} {b = pos b} h = record { le = tt }
parts_le {a = negsuc a} {b = negsuc b} h = record { le = le→leb b a (omega arith) }

pub lt_parts : {a b : ℤ} → a <ℤ b → pp a + nn b < pp b + nn a
lt_parts {a = pos a} {b = pos b} h = omega (arith, ltb→lt a b h.lt)
lt_parts {a = pos a} {b = negsuc b} h = absurd h.lt
lt_parts {a = negsuc a} {b = pos b} h = omega arith
lt_parts {a = negsuc a} {b = negsuc b} h = omega (arith, ltb→lt b a h.lt)

pub parts_lt : {a b : ℤ} → pp a + nn b < pp b + nn a → a <ℤ b
parts_lt {a = pos a} {b = pos b} h = record { lt = lt→ltb a b (omega arith) }
parts_lt {a = pos a} {b = negsuc b} h = absurd (omega arith)
parts_lt {a = negsuc a} {b = pos b} h = record { lt = tt }
parts_lt {a = negsuc a} {b = negsuc b} h = record { lt = lt→ltb b a (omega arith) }

-- ---- the ring

pub *ℤ-assoc : (a b c : ℤ) → (a *ℤ b) *ℤ c ≡ a *ℤ (b *ℤ c)
*ℤ-assoc a b c = by_parts _ _ (simp (pp_*, nn_*) (omega arith))

pub *ℤ-+ℤ : (a b c : ℤ) → a *ℤ (b +ℤ c) ≡ a *ℤ b +ℤ a *ℤ c
*ℤ-+ℤ a b c =
    by_parts _ _
    (simp (pp_* a, nn_* a)
    (omega
    (arith, simp (pp_* a, nn_* a) at (parts-+ (a *ℤ b) (a *ℤ c)), ap (λ x. pp a * x) (parts-+ b c), ap (λ x. nn a * x) (parts-+ b c))))

pub +ℤ-*ℤ : (a b c : ℤ) → (a +ℤ b) *ℤ c ≡ a *ℤ c +ℤ b *ℤ c
+ℤ-*ℤ a b c = *ℤ_comm (a +ℤ b) c ∙ *ℤ-+ℤ c a b ∙ rw (*ℤ_comm c a, *ℤ_comm c b) refl

pub negℤ_*ℤ : (a b : ℤ) → neg_ℤ a *ℤ b ≡ neg_ℤ (a *ℤ b)
negℤ_*ℤ a b = by_parts _ _ (simp (pp_*, nn_*, pp_neg, nn_neg) (omega arith))

pub one_*ℤ : (a : ℤ) → pos 1 *ℤ a ≡ a
one_*ℤ a = by_parts _ _ (simp (pp_*, nn_*) (omega arith))

-- ---- the order

pub le_trans : {a b c : ℤ} → a ≤ℤ b → b ≤ℤ c → a ≤ℤ c
le_trans {a} {b} {c} h k = parts_le (omega (arith, le_parts h, le_parts k))

pub le_antisym : {a b : ℤ} → a ≤ℤ b → b ≤ℤ a → a ≡ b
le_antisym {a} {b} h k = by_parts a b (omega (arith, le_parts h, le_parts k))

pub le_of_eq : {a b : ℤ} → a ≡ b → a ≤ℤ b
le_of_eq {a} {b} e = parts_le (omega (arith, ap pp e, ap nn e))

pub le_of_lt : {a b : ℤ} → a <ℤ b → a ≤ℤ b
le_of_lt h = parts_le (omega (arith, lt_parts h))

pub lt_of_le_of_lt : {a b c : ℤ} → a ≤ℤ b → b <ℤ c → a <ℤ c
lt_of_le_of_lt h k = parts_lt (omega (arith, le_parts h, lt_parts k))

pub not_le_of_lt : {a b : ℤ} → a <ℤ b → b ≤ℤ a → ⊥
not_le_of_lt h k = omega (arith, lt_parts h, le_parts k)

-- total and decidable
pub le_or_lt : (a b : ℤ) → (a ≤ℤ b) ⊎ (b <ℤ a)
le_or_lt a b = go (dec_le (pp a + nn b) (pp b + nn a))
  where
    go : Dec (pp a + nn b ≤ pp b + nn a) → (a ≤ℤ b) ⊎ (b <ℤ a)
    go (yes h) = inl (parts_le h)
    go (no h) = inr (parts_lt (omega arith))

-- with sums
pub +ℤ-le : {a b c d : ℤ} → a ≤ℤ b → c ≤ℤ d → (a +ℤ c) ≤ℤ (b +ℤ d)
+ℤ-le {a} {b} {c} {d} h k = parts_le (omega (arith, le_parts h, le_parts k, parts-+ a c, parts-+ b d))

-- with differences
pub sub_nonneg : {a b : ℤ} → a ≤ℤ b → pos 0 ≤ℤ (b -ℤ a)
sub_nonneg {a} {b} h = parts_le (omega (arith, le_parts h, parts-+ b (neg_ℤ a), pp_neg a, nn_neg a))

pub sub_above : {a b : ℤ} → a <ℤ b → pos 0 <ℤ (b -ℤ a)
sub_above {a} {b} h = parts_lt (omega (arith, lt_parts h, parts-+ b (neg_ℤ a), pp_neg a, nn_neg a))

-- with products by a number that is not below zero
pub no_nn : {c : ℤ} → pos 0 ≤ℤ c → nn c ≡ 0
no_nn {c} h = ⊎_elim (λ e. e) (λ e. omega (arith, le_parts h)) (one_part c)

pub *ℤ-le : {a b c : ℤ} → pos 0 ≤ℤ c → a ≤ℤ b → (c *ℤ a) ≤ℤ (c *ℤ b)
*ℤ-le {a} {b} {c} n h = parts_le (simp (pp_* c, nn_* c, no_nn n) (omega (arith, mul-le-mul_left (pp c) (le_parts h))))

pub *ℤ-nonneg : {a b : ℤ} → pos 0 ≤ℤ a → pos 0 ≤ℤ b → pos 0 ≤ℤ (a *ℤ b)
*ℤ-nonneg {a} {b} h k = parts_le (simp (pp_* a, nn_* a, no_nn h, no_nn k) (omega arith))

pub square_nonneg : (a : ℤ) → pos 0 ≤ℤ (a *ℤ a)
square_nonneg a =
    ⊎_elim
    (λ (e : nn a ≡ 0). parts_le (simp (pp_* a, nn_* a, e) (omega arith)))
    (λ (e : pp a ≡ 0). parts_le (simp (pp_* a, nn_* a, e) (omega arith)))
    (one_part a)

-- a factor above zero is cancelled
pub pp_above : {c : ℤ} → pos 0 <ℤ c → 0 < pp c
pp_above h = omega (arith, lt_parts h)

pub *ℤ-le_cancel : {a b c : ℤ} → pos 0 <ℤ c → (c *ℤ a) ≤ℤ (c *ℤ b) → a ≤ℤ b
*ℤ-le_cancel {a} {b} {c} n h =
    parts_le (le_of_mul-le-mul_left {k = pp c} (omega (arith, simp (pp_* c, nn_* c, no_nn (le_of_lt n)) at (le_parts h))) (pp_above n))

pub *ℤ-lt : {a b c : ℤ} → pos 0 <ℤ c → a <ℤ b → (c *ℤ a) <ℤ (c *ℤ b)
*ℤ-lt {a} {b} {c} n h = parts_lt (simp (pp_* c, nn_* c, no_nn (le_of_lt n)) (omega (arith, mul-lt-mul_of_pos_left (lt_parts h) (pp_above n))))

pub *ℤ-lt_cancel : {a b c : ℤ} → pos 0 <ℤ c → (c *ℤ a) <ℤ (c *ℤ b) → a <ℤ b
*ℤ-lt_cancel {a} {b} {c} n h = ⊎_elim (λ k. absurd (not_le_of_lt h (*ℤ-le (le_of_lt n) k))) (λ k. k) (le_or_lt b a)

pub *ℤ-cancel : {a b c : ℤ} → pos 0 <ℤ c → c *ℤ a ≡ c *ℤ b → a ≡ b
*ℤ-cancel n e = le_antisym (*ℤ-le_cancel n (le_of_eq e)) (*ℤ-le_cancel n (le_of_eq (sym e)))

pub *ℤ-above : {a b : ℤ} → pos 0 <ℤ a → pos 0 <ℤ b → pos 0 <ℤ (a *ℤ b)
*ℤ-above {a} {b} h k = rw (← *ℤ-zero a) (*ℤ-lt h k)
