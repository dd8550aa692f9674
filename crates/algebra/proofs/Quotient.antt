-- Tests and magnitudes of whole numbers, division toward zero by lib.Signed,
-- and what a machine reads back from 64 bits.
use mathlib.Core.Path.{◌≡◌, refl, sym, subst, ◌∙◌, ap}
use mathlib.Core.Logic.{◌⊎◌, inl, inr, ⊎_elim}
use mathlib.Core.Bool.{Bool, true, false}
use mathlib.Core.List.{List, [], ◌∷◌}
use Prim.Native.Nat.{ℕ, zero, suc, ◌+◌, ◌-◌, ◌*◌, ◌/◌, ◌%◌, ◌≤◌, ◌<◌, ◌^◌, ◌∣◌}
use native.Mathlib.Omega.{arith}
use native.Mathlib.Nat.{div-add-mod', mod-lt, div-le_self, mul-div_cancel'}
use lib.Dec.{T}
use borrow.Author.Tests.{ltb-true}
use lib.IntN.{ℤ, pos, negsuc, neg_ℤ, nat_abs, ◌+ℤ◌, ◌-ℤ◌, ◌*ℤ◌, +ℤ_idl, neg_ℤ-neg_ℤ, neg_ℤ-+ℤ}
use lib.Signed.{◌≤ℤ◌, ◌<ℤ◌, le_z, lt_z, non_neg, mag, mag_rem, quot_z, rem_z}
use mir.Syntax.{Width, w64}
use mir.Val.{SFits, to_z, of_z}
use mir.ValLaws.{sfits_le, to_z-of_z}
use Rattle.algebra.proofs.Whole.{pp, nn, parts-+, pp_*, nn_*, pp_neg, nn_neg, negℤ_*ℤ, parts_le, lt_parts, parts_lt, one_part, parts_nat_abs, by_parts, le_of_lt, lt_of_le_of_lt, not_le_of_lt, le_or_lt, *ℤ-le, *ℤ-lt, *ℤ-above}
use Rattle.algebra.proofs.Ring.{quotes, ring, le_given, lt_given, lt_goal}

-- ---- a test and its fact

holds : {t : Bool} → t ≡ true → T t
holds {t = true} e = tt
holds {t = false} e = let z : ◌≡◌ {A = ℕ} 0 1 = cc in absurd (omega arith)

pub lt_of_test : {a b : ℤ} → lt_z a b ≡ true → a <ℤ b
lt_of_test e = record { lt = holds e }

pub le_of_test : {a b : ℤ} → lt_z a b ≡ false → b ≤ℤ a
le_of_test {a} {b} e = ⊎_elim (λ (h : b ≤ℤ a). h) (λ (h : a <ℤ b). absurd (clash h.lt)) (le_or_lt b a)
  where
    clash : T (lt_z a b) → ⊥
    clash t = rw e at t

true_of : {t : Bool} → T t → t ≡ true
true_of {t = true} h = refl
true_of {t = false} h = absurd h

pub test_of_lt : {a b : ℤ} → a <ℤ b → lt_z a b ≡ true
test_of_lt h = true_of h.lt

pub test_of_le : {a b : ℤ} → b ≤ℤ a → lt_z a b ≡ false
test_of_le {a} {b} h = go (lt_z a b) refl
  where
    go : (t : Bool) → lt_z a b ≡ t → t ≡ false
    go false e = refl
    go true e = absurd (not_le_of_lt (lt_of_test e) h)

pub le_z-of_test : {a b : ℤ} → le_z a b ≡ true → a ≤ℤ b
le_z-of_test e = record { le = holds e }

pub test_of_le_z : {a b : ℤ} → a ≤ℤ b → le_z a b ≡ true
test_of_le_z h = true_of h.le

-- ---- magnitudes

pub nat_abs-neg : (a : ℤ) → nat_abs (neg_ℤ a) ≡ nat_abs a
nat_abs-neg (pos zero) = refl
nat_abs-neg (pos (suc n)) = refl
nat_abs-neg (negsuc n) = refl

pub nat_abs-* : (a b : ℤ) → nat_abs (a *ℤ b) ≡ nat_abs a * nat_abs b
nat_abs-* a b = simp (parts_nat_abs, pp_*, nn_*) (omega arith)

pub nat_abs-+ : (a b : ℤ) → nat_abs (a +ℤ b) ≤ nat_abs a + nat_abs b
nat_abs-+ a b =
    simp parts_nat_abs
    (⊎_elim
    (λ (e : nn (a +ℤ b) ≡ 0). omega (arith, parts-+ a b))
    (λ (e : pp (a +ℤ b) ≡ 0). omega (arith, parts-+ a b))
    (one_part (a +ℤ b)))

-- a number above zero is its magnitude
pub above_nat_abs : {d : ℤ} → pos 0 <ℤ d → (pp d ≡ nat_abs d) × (nn d ≡ 0) × (0 < nat_abs d)
above_nat_abs {d} h =
    ⊎_elim
    (λ (e : nn d ≡ 0). omega (arith, parts_nat_abs d, lt_parts h))
    (λ (e : pp d ≡ 0). absurd (omega (arith, lt_parts h)))
    (one_part d)

-- a magnitude that 63 bits hold
pub small_fits : (z : ℤ) → nat_abs z < 2 ^ 63 → SFits w64 z
small_fits (pos n) h = record { sfits = h }
small_fits (negsuc n) h = record { sfits = omega arith }

-- ---- the quotient and the remainder

pub quot_rem : (n d : ℤ) → n ≡ quot_z n d *ℤ d +ℤ rem_z n d
quot_rem (pos a) (pos d) = ap pos (sym (div-add-mod' a d))
quot_rem (pos a) (negsuc d) =
    ap pos (sym (div-add-mod' a (suc d)))
    ∙ ap (λ (v : ℤ). v +ℤ pos (a % suc d)) (sym (neg_ℤ-neg_ℤ (pos (a / suc d * suc d))) ∙ sym (negℤ_*ℤ (pos (a / suc d)) (negsuc d)))
quot_rem (negsuc a) (pos d) =
    ap (λ (v : ℕ). neg_ℤ (pos v)) (sym (div-add-mod' (suc a) d))
    ∙ neg_ℤ-+ℤ (pos (suc a / d * d)) (pos (suc a % d))
    ∙ ap (λ (v : ℤ). v +ℤ neg_ℤ (pos (suc a % d))) (sym (negℤ_*ℤ (pos (suc a / d)) (pos d)))
quot_rem (negsuc a) (negsuc d) =
    ap (λ (v : ℕ). neg_ℤ (pos v)) (sym (div-add-mod' (suc a) (suc d)))
    ∙ neg_ℤ-+ℤ (pos (suc a / suc d * suc d)) (pos (suc a % suc d))

pub nat_abs-quot : (n d : ℤ) → nat_abs (quot_z n d) ≡ nat_abs n / nat_abs d
nat_abs-quot (pos a) (pos d) = refl
nat_abs-quot (pos a) (negsuc d) = nat_abs-neg (pos (a / suc d))
nat_abs-quot (negsuc a) (pos d) = nat_abs-neg (pos (suc a / d))
nat_abs-quot (negsuc a) (negsuc d) = refl

pub nat_abs-rem : (n d : ℤ) → nat_abs (rem_z n d) ≡ nat_abs n % nat_abs d
nat_abs-rem (pos a) d = refl
nat_abs-rem (negsuc a) d = nat_abs-neg (pos (suc a % nat_abs d))

pub quot_most : (n d : ℤ) → nat_abs (quot_z n d) ≤ nat_abs n
quot_most n d = omega (arith, nat_abs-quot n d, div-le_self (nat_abs n) (nat_abs d))

-- the remainder is nearer to zero than the divisor
pub rem_most : (n : ℤ) {d : ℤ} → pos 0 <ℤ d → nat_abs (rem_z n d) < nat_abs d
rem_most n {d} h = omega (arith, nat_abs-rem n d, mod-lt (nat_abs n) {m = nat_abs d} (omega (arith, above_nat_abs h)))

pub rem_below : (n : ℤ) {d : ℤ} → pos 0 <ℤ d → rem_z n d <ℤ d
rem_below n {d} h = parts_lt (omega (arith, above_nat_abs h, rem_most n h, parts_nat_abs (rem_z n d)))

pub rem_above : (n : ℤ) {d : ℤ} → pos 0 <ℤ d → neg_ℤ d <ℤ rem_z n d
rem_above n {d} h = parts_lt (omega (arith, above_nat_abs h, rem_most n h, parts_nat_abs (rem_z n d), pp_neg d, nn_neg d))

-- and on the dividend's side of zero, so on the quotient's
neg_not_above : (m : ℕ) → pos 0 <ℤ neg_ℤ (pos m) → ⊥
neg_not_above m h = omega (arith, lt_parts h, pp_neg (pos m))

pub rem_from_zero : (n : ℤ) {d : ℤ} → pos 0 <ℤ d → pos 0 <ℤ quot_z n d → pos 0 ≤ℤ rem_z n d
rem_from_zero (pos a) h k = parts_le (omega arith)
rem_from_zero (negsuc a) {d = pos d} h k = absurd (neg_not_above (suc a / d) k)
rem_from_zero (negsuc a) {d = negsuc d} h k = absurd (omega (arith, lt_parts h))

pub rem_to_zero : (n : ℤ) {d : ℤ} → pos 0 <ℤ d → quot_z n d <ℤ pos 0 → rem_z n d ≤ℤ pos 0
rem_to_zero (pos a) {d = pos d} h k = absurd (omega (arith, lt_parts k))
rem_to_zero (pos a) {d = negsuc d} h k = absurd (omega (arith, lt_parts h))
rem_to_zero (negsuc a) {d} h k = parts_le (omega (arith, pp_neg (pos (suc a % nat_abs d))))

-- ---- products by quotients and remainders

pub next_le : {p q : ℤ} → p <ℤ q → (p +ℤ pos 1) ≤ℤ q
next_le {p} {q} h = parts_le (omega (arith, lt_parts h, parts-+ p (pos 1)))

-- whole parts p and q, and rests r and s over d and e
module _ (p q r s d e : ℤ) (above_d : pos 0 <ℤ d) (above_e : pos 0 <ℤ e) where
  rest_from_zero : p <ℤ q → r <ℤ d → pos 0 ≤ℤ s → ((p *ℤ d +ℤ r) *ℤ e) <ℤ ((q *ℤ e +ℤ s) *ℤ d)
  rest_from_zero h below from =
      let ρ : List ℤ = p ∷ q ∷ r ∷ s ∷ d ∷ e ∷ [] in
      lt_goal ρ (search quotes depth 12) (search quotes depth 12)
      (omega (
        arith,
        le_given ρ (search quotes depth 12) (search quotes depth 12) (*ℤ-le (le_of_lt (*ℤ-above above_d above_e)) (next_le h)),
        lt_given ρ (search quotes depth 12) (search quotes depth 12) (*ℤ-lt above_e below),
        le_given ρ (search quotes depth 12) (search quotes depth 12) (*ℤ-le (le_of_lt above_d) from),
      ))

  rest_to_zero : p <ℤ q → r ≤ℤ pos 0 → neg_ℤ e <ℤ s → ((p *ℤ d +ℤ r) *ℤ e) <ℤ ((q *ℤ e +ℤ s) *ℤ d)
  rest_to_zero h to above =
      let ρ : List ℤ = p ∷ q ∷ r ∷ s ∷ d ∷ e ∷ [] in
      lt_goal ρ (search quotes depth 12) (search quotes depth 12)
      (omega (
        arith,
        le_given ρ (search quotes depth 12) (search quotes depth 12) (*ℤ-le (le_of_lt (*ℤ-above above_d above_e)) (next_le h)),
        lt_given ρ (search quotes depth 12) (search quotes depth 12) (*ℤ-lt above_d above),
        le_given ρ (search quotes depth 12) (search quotes depth 12) (*ℤ-le (le_of_lt above_e) to),
      ))

  same_whole : (p *ℤ d +ℤ r) *ℤ e +ℤ s *ℤ d ≡ r *ℤ e +ℤ (p *ℤ e +ℤ s) *ℤ d
  same_whole = ring (p ∷ r ∷ s ∷ d ∷ e ∷ []) (search quotes depth 12) (search quotes depth 12) refl

-- m/d and n/e
module _ (m d n e : ℤ) (above_d : pos 0 <ℤ d) (above_e : pos 0 <ℤ e) where
  -- a lesser whole part
  pub lt_by_quot : quot_z m d <ℤ quot_z n e → (m *ℤ e) <ℤ (n *ℤ d)
  lt_by_quot h = subst (λ (x : ℤ). (x *ℤ e) <ℤ (n *ℤ d)) (sym (quot_rem m d)) (subst (λ (y : ℤ). ((quot_z m d *ℤ d +ℤ rem_z m d) *ℤ e) <ℤ (y *ℤ d)) (sym (quot_rem n e)) (go (le_or_lt (pos 0) (quot_z m d))))
    where
      go : (pos 0 ≤ℤ quot_z m d) ⊎ (quot_z m d <ℤ pos 0) → ((quot_z m d *ℤ d +ℤ rem_z m d) *ℤ e) <ℤ ((quot_z n e *ℤ e +ℤ rem_z n e) *ℤ d)
      go (inl k) = rest_from_zero (quot_z m d) (quot_z n e) (rem_z m d) (rem_z n e) d e above_d above_e h (rem_below m above_d) (rem_from_zero n above_e (lt_of_le_of_lt k h))
      go (inr k) = rest_to_zero (quot_z m d) (quot_z n e) (rem_z m d) (rem_z n e) d e above_d above_e h (rem_to_zero m above_d k) (rem_above n above_e)

  -- the same whole part: what is over it stands as the rests do
  pub gap_by_rem : quot_z m d ≡ quot_z n e → m *ℤ e +ℤ rem_z n e *ℤ d ≡ rem_z m d *ℤ e +ℤ n *ℤ d
  gap_by_rem p =
      ap (λ (x : ℤ). x *ℤ e +ℤ rem_z n e *ℤ d) (quot_rem m d)
      ∙ same_whole (quot_z m d) (quot_z n e) (rem_z m d) (rem_z n e) d e above_d above_e
      ∙ ap (λ (v : ℤ). rem_z m d *ℤ e +ℤ (v *ℤ e +ℤ rem_z n e) *ℤ d) p
      ∙ ap (λ (y : ℤ). rem_z m d *ℤ e +ℤ y *ℤ d) (sym (quot_rem n e))

-- ---- in 64 bits

-- a number as it is read back from its 64 bits
abbrev pub kept : ℤ → ℤ
kept z = to_z w64 (of_z w64 z)

-- what is equal to a number of a small magnitude fits, and is read back as that number
module _ {x y : ℤ} (e : x ≡ y) (small : nat_abs y < 2 ^ 63) where
  pub fits_as : SFits w64 x
  fits_as = subst (SFits w64) (sym e) (small_fits y small)

  pub kept_as : kept x ≡ y
  kept_as = ap kept e ∙ to_z-of_z w64 y (small_fits y small)

-- ---- signs, and quotients without a remainder

pub pos_of_above : {z : ℤ} → pos 0 <ℤ z → pos (nat_abs z) ≡ z
pos_of_above {z = pos n} h = refl
pos_of_above {z = negsuc n} h = absurd h.lt

pub nat_abs-above : {z : ℤ} → pos 0 <ℤ z → 0 < nat_abs z
nat_abs-above h = (above_nat_abs h).2

-- a quotient without remainder
pub quot_exact : (z g : ℤ) → pos 0 <ℤ g → nat_abs g ∣ nat_abs z → g *ℤ quot_z z g ≡ z
quot_exact (pos a) (pos g) h p = ap pos (mul-div_cancel' g p)
quot_exact (negsuc a) (pos g) h p = by_parts _ _ (simp (pp_* (pos g), nn_* (pos g), pp_neg, nn_neg) (omega (arith, mul-div_cancel' g p)))
quot_exact (pos a) (negsuc g) h p = absurd h.lt
quot_exact (negsuc a) (negsuc g) h p = absurd h.lt

-- a quotient is no larger than what is divided
mag_neg : (n m : ℕ) → n ≤ suc m → mag (neg_ℤ (pos n)) ≤ m
mag_neg zero m h = omega arith
mag_neg (suc n) m h = omega arith

mag_quot : (z d : ℤ) → pos 0 <ℤ d → mag (quot_z z d) ≤ mag z
mag_quot (pos a) (pos d) h = div-le_self a d
mag_quot (negsuc a) (pos d) h = mag_neg (suc a / d) a (div-le_self (suc a) d)
mag_quot (pos a) (negsuc d) h = absurd h.lt
mag_quot (negsuc a) (negsuc d) h = absurd h.lt

of_z-above : (w : Width) {d : ℤ} → pos 0 <ℤ d → 0 < of_z w d
of_z-above w {d = pos n} h = omega (arith, lt_parts h)
of_z-above w {d = negsuc n} h = absurd h.lt

-- a number taken from zero
pub nat_abs-negated : (z : ℤ) → nat_abs (pos 0 -ℤ z) ≡ nat_abs z
nat_abs-negated z = rw (+ℤ_idl (neg_ℤ z), parts_nat_abs (neg_ℤ z), pp_neg, nn_neg, parts_nat_abs z) (omega arith)

pub nonneg : (z : ℤ) → lt_z z (pos 0) ≡ false → T (non_neg z)
nonneg (pos n) e = tt
nonneg (negsuc n) e = subst T e tt

pub nat_abs-of_fits : (z : ℤ) → pos 0 <ℤ z → SFits w64 z → nat_abs z < 2 ^ 63
nat_abs-of_fits (pos n) h f = f.sfits
nat_abs-of_fits (negsuc n) h f = absurd h.lt

-- numbers of the same bits are the same
pub same_bits : {w : Width} {a b : ℤ} → SFits w a → SFits w b → of_z w a ≡ of_z w b → a ≡ b
same_bits {w} {a} {b} fa fb e = sym (to_z-of_z w a fa) ∙ ap (to_z w) e ∙ to_z-of_z w b fb

-- the machine divides what it reads back from the bits of two numbers that fit: what that asks, and what it gives
module _ {w : Width} {z d : ℤ} (fz : SFits w z) (fd : SFits w d) (h : pos 0 <ℤ d) where
  pub quot_read : quot_z (to_z w (of_z w z)) (to_z w (of_z w d)) ≡ quot_z z d
  quot_read = λ i. quot_z (to_z-of_z w z fz i) (to_z-of_z w d fd i)

  rem_read : rem_z (to_z w (of_z w z)) (to_z w (of_z w d)) ≡ rem_z z d
  rem_read = λ i. rem_z (to_z-of_z w z fz i) (to_z-of_z w d fd i)

  pub division_asks : (0 < of_z w d) × SFits w (quot_z (to_z w (of_z w z)) (to_z w (of_z w d)))
  division_asks = (of_z-above w h, subst (SFits w) (sym quot_read) (sfits_le (mag_quot z d h) fz))

  pub quot_gives : to_z w (of_z w (quot_z (to_z w (of_z w z)) (to_z w (of_z w d)))) ≡ quot_z z d
  quot_gives = to_z-of_z w _ division_asks.1 ∙ quot_read

  pub rem_gives : to_z w (of_z w (rem_z (to_z w (of_z w z)) (to_z w (of_z w d)))) ≡ rem_z z d
  rem_gives = to_z-of_z w _ (subst (SFits w) (sym rem_read) (sfits_le (mag_rem z d) fz)) ∙ rem_read

-- ---- one above a number below zero

-- the magnitude of a number of 64 bits
pub magnitude_fits : (x : ℤ) → SFits w64 x → nat_abs x ≤ 2 ^ 63
magnitude_fits (pos n) f = omega (arith, f.sfits)
magnitude_fits (negsuc n) f = omega (arith, f.sfits)

pub below_zero : (x : ℤ) → lt_z x (pos 0) ≡ true → 1 ≤ nat_abs x
below_zero (pos n) e = absurd (omega (arith, ltb-true n 0 e))
below_zero (negsuc n) e = omega arith

-- one above a number below zero, and with the sign turned
pub next_up : (x : ℤ) → lt_z x (pos 0) ≡ true → x +ℤ pos 1 ≡ neg_ℤ (pos (nat_abs x - 1))
next_up (pos n) e = absurd (omega (arith, ltb-true n 0 e))
next_up (negsuc n) e = by_parts _ _ (omega (arith, parts-+ (negsuc n) (pos 1), pp_neg (pos (nat_abs (negsuc n) - 1)), nn_neg (pos (nat_abs (negsuc n) - 1))))

pub turned : (m : ℕ) → pos 0 -ℤ neg_ℤ (pos m) ≡ pos m
turned m = by_parts _ _ (omega (arith, parts-+ (pos 0) (neg_ℤ (neg_ℤ (pos m))), pp_neg (neg_ℤ (pos m)), nn_neg (neg_ℤ (pos m)), pp_neg (pos m), nn_neg (pos m)))
