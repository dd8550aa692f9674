-- Divisors: Euclid's step, Gauss's lemma, and fractions in lowest terms, which are unique.
use mathlib.Core.Path.{◌≡◌, refl, sym, ◌∙◌, ap}
use mathlib.Core.Logic.{◌⊎◌, inl, inr}
use mathlib.Core.Bool.{Bool, true, false}
use mathlib.Core.List.{[], ◌∷◌}
use Prim.Native.Nat.{ℕ, zero, suc, ◌+◌, ◌-◌, ◌*◌, ◌/◌, ◌%◌, min, ◌≤◌, ◌<◌, ◌∣◌}
use native.Mathlib.Omega.{arith}
use native.Mathlib.Nat.{dvd_refl, dvd-zero, dvd-mul_left, dvd-mul_right, dvd_trans, dvd-mul_left_of_dvd, one-dvd, dvd-add_iff_left, dvd-add_iff_right, dvd-mod_iff, dvd_antisymm, pos_of_dvd_of_pos, le_of_dvd, mod-lt, mod-add-div', mul-dvd-mul_left, mul-dvd-mul_right, dvd_of_mul-dvd-mul_left, eq-one_of_dvd-one}
use lib.Dec.{ltb}
use borrow.Author.Tests.{ltb-true, ltb-false}
use lib.IntN.{ℤ, pos, nat_abs, ◌*ℤ◌, *ℤ_comm, *ℤ-zero}
use lib.Signed.{◌<ℤ◌, rem_z}
use Rattle.exact.specs.declared.Fraction.{Fraction}
use Rattle.exact.specs.declared.known.TheConstants.Divisor.{NONE}
use Rattle.exact.specs.Fraction.{◌≃◌, LowestTerms, Reduced}
use Rattle.exact.specs.Divide.{no_divisor, GreatestCommonDivisor, IsDivisor}
use Rattle.algebra.proofs.Whole.{parts_lt, *ℤ-cancel, *ℤ-lt_cancel}
use Rattle.algebra.proofs.Ring.{ring, quotes}
use Rattle.algebra.proofs.Quotient.{nat_abs-*, nat_abs-rem, pos_of_above, nat_abs-above}

-- ---- natural numbers

-- Euclid's step keeps the greatest common divisor, and its end shows it
pub gcd_step : {x y g : ℕ} → GreatestCommonDivisor y (x % y) g → GreatestCommonDivisor x y g
gcd_step {x} {y} {g} c =
    record {
      left = (dvd-mod_iff g c.left).0 c.right;
      right = c.left;
      greatest = λ k p q. c.greatest k q ((dvd-mod_iff k q).1 p);
    }

-- and so does the step to the nearer multiple: with their sum, two numbers have the same divisors
gcd_part : {y a b g : ℕ} → a + b ≡ y → GreatestCommonDivisor y b g → GreatestCommonDivisor y a g
gcd_part {y} {a} {b} {g} e c =
    record {
      left = c.left;
      right = (dvd-add_iff_left g c.right).1 (rw e c.left);
      greatest = λ k p q. c.greatest k p ((dvd-add_iff_right k q).1 (rw e p));
    }

pub gcd_either : {x y r g : ℕ} → x % y ≤ y → (r ≡ x % y) ⊎ (r ≡ y - x % y) → GreatestCommonDivisor y r g → GreatestCommonDivisor x y g
gcd_either h (inl e) c = gcd_step (rw e at c)
gcd_either {x} {y} h (inr e) c = gcd_step (gcd_part {b = y - x % y} (omega arith) (rw e at c))

pub gcd_nearer : {x y r g : ℕ} → x % y ≤ y → r ≡ min (x % y) (y - x % y) → GreatestCommonDivisor y r g → GreatestCommonDivisor x y g
gcd_nearer {x} {y} {r} h e = gcd_either h (go (ltb (y - x % y) (x % y)) refl)
  where
    go : (t : Bool) → ltb (y - x % y) (x % y) ≡ t → (r ≡ x % y) ⊎ (r ≡ y - x % y)
    go true k = inr (omega (arith, ltb-true (y - x % y) (x % y) k))
    go false k = inl (omega (arith, ltb-false (y - x % y) (x % y) k))

gcd_unstep : {x y g : ℕ} → GreatestCommonDivisor x y g → GreatestCommonDivisor y (x % y) g
gcd_unstep {x} {y} {g} c =
    record {
      left = c.right;
      right = (dvd-mod_iff g c.right).1 c.left;
      greatest = λ k p q. c.greatest k ((dvd-mod_iff k p).0 q) p;
    }

gcd_swap : {a b g : ℕ} → GreatestCommonDivisor a b g → GreatestCommonDivisor b a g
gcd_swap c = record { left = c.right; right = c.left; greatest = λ k p q. c.greatest k q p }

pub gcd_end : (x : ℕ) → GreatestCommonDivisor x 0 x
gcd_end x = record { left = dvd_refl x; right = dvd-zero x; greatest = λ k p q. p }

-- what divides a multiple of a and the same multiple of d divides that multiple of their greatest common divisor;
-- by Euclid's steps, fewer than f
gcd_multiple : (f a d n m g : ℕ) → d < f → GreatestCommonDivisor a d g → n ∣ a * m → n ∣ d * m → n ∣ g * m
gcd_multiple zero a d n m g h c p q = absurd (omega arith)
gcd_multiple (suc f) a zero n m g h c p q = dvd_trans n p (mul-dvd-mul_right a (c.greatest a (dvd_refl a) (dvd-zero a)) m)
gcd_multiple (suc f) a (suc d) n m g h c p q =
    gcd_multiple f (suc d) (a % suc d) n m g (omega (arith, mod-lt a {m = suc d} (omega arith))) (gcd_unstep c) q
    ((dvd-add_iff_left n (dvd-mul_left_of_dvd n q (a / suc d))).1 (rw parts at p))
  where
    parts : a * m ≡ a % suc d * m + a / suc d * (suc d * m)
    parts = omega (arith, ap (λ x. x * m) (mod-add-div' a (suc d)))

-- Gauss's lemma
pub gauss : (a d m : ℕ) → ((k : ℕ) → k ∣ a → k ∣ d → k ≡ 1) → d ∣ a * m → d ∣ m
gauss a d m h p = rw one_times at (gcd_multiple (suc d) a d d m 1 (omega arith) coprime p (dvd-mul_right d m))
  where
    one_times : 1 * m ≡ m
    one_times = omega arith

    coprime : GreatestCommonDivisor a d 1
    coprime = record { left = one-dvd a; right = one-dvd d; greatest = λ k p q. rw (h k p q) (dvd_refl 1) }

-- ---- the divisor of a fraction

-- what divides a number above zero is above zero, and no larger
pub gcd_bounds : {a b g : ℕ} → 0 < a → GreatestCommonDivisor a b g → (0 < g) × (g ≤ a)
gcd_bounds h c = (pos_of_dvd_of_pos c.left h, le_of_dvd h c.left)

-- the divisor of a denominator above zero and a remainder, from their magnitudes
pub is_divisor : {den rest : ℤ} {a b g : ℕ} → pos 0 <ℤ den → a ≡ nat_abs den → b ≡ nat_abs rest → GreatestCommonDivisor a b g → IsDivisor (record { den = den; rest = rest; common = pos g })
is_divisor {den} {rest} {a} {b} {g} h ea eb c =
    record {
      above = h;
      positive = parts_lt {a = pos 0} {b = pos g} (omega (arith, gcd_bounds (rw ea (nat_abs-above h)) c));
      divides = rw (← ea, ← eb) (gcd_swap c);
    }

-- that of 0/1, where none is known
pub none_divides : IsDivisor no_divisor
none_divides = is_divisor (record { lt = tt }) refl refl (gcd_end 1)

-- the constant is that one
pub none_is : NONE ≡ no_divisor
none_is = refl

-- it divides the numerator too
pub gcd_rem : (z d : ℤ) {g : ℕ} → GreatestCommonDivisor (nat_abs (rem_z z d)) (nat_abs d) g → GreatestCommonDivisor (nat_abs z) (nat_abs d) g
gcd_rem z d c = gcd_step (gcd_swap (rw (nat_abs-rem z d) at c))

-- ---- fractions

-- divided by the greatest common divisor, a fraction is in lowest terms
pub reduced_by : (q r : Fraction) (g : ℤ) → pos 0 <ℤ g → pos 0 <ℤ q.den → GreatestCommonDivisor (nat_abs q.num) (nat_abs q.den) (nat_abs g) → g *ℤ r.num ≡ q.num → g *ℤ r.den ≡ q.den → Reduced q r
reduced_by q r g hg hd c en ed =
    record {
      same = rw (← en, ← ed) (ring (g ∷ r.num ∷ r.den ∷ []) (search quotes depth 12) (search quotes depth 12) refl);
      lowest =
          record {
            above = *ℤ-lt_cancel hg (rw (*ℤ-zero g, ed) hd);
            reduced = λ k p s. eq-one_of_dvd-one (dvd_of_mul-dvd-mul_left k (nat_abs-above hg) (rw times_one (c.greatest (nat_abs g * k) (times k r.num q.num en p) (times k r.den q.den ed s))));
          };
    }
  where
    times_one : nat_abs g * 1 ≡ nat_abs g
    times_one = omega arith

    times : (k : ℕ) (x y : ℤ) → g *ℤ x ≡ y → k ∣ nat_abs x → nat_abs g * k ∣ nat_abs y
    times k x y e p = rw (← e, nat_abs-*) (mul-dvd-mul_left k (nat_abs g) p)

-- fractions in lowest terms are equal only where they are the same
pub lowest_unique : (p q : Fraction) → LowestTerms p → LowestTerms q → p ≃ q → p ≡ q
lowest_unique p q hp hq e = λ i. record { num = nums i; den = dens i }
  where
    magnitudes : nat_abs p.num * nat_abs q.den ≡ nat_abs q.num * nat_abs p.den
    magnitudes = rw (nat_abs-* p.num q.den, nat_abs-* q.num p.den) at (ap nat_abs e)

    dens : p.den ≡ q.den
    dens =
        sym (pos_of_above hp.above) ∙
        ap pos
        (dvd_antisymm
        (gauss (nat_abs p.num) (nat_abs p.den) (nat_abs q.den) hp.reduced (rw magnitudes (dvd-mul_left (nat_abs p.den) (nat_abs q.num))))
        (gauss (nat_abs q.num) (nat_abs q.den) (nat_abs p.den) hq.reduced (rw (← magnitudes) (dvd-mul_left (nat_abs q.den) (nat_abs p.num))))) ∙
        pos_of_above hq.above

    nums : p.num ≡ q.num
    nums = *ℤ-cancel hq.above (*ℤ_comm q.den p.num ∙ e ∙ ap (λ d. q.num *ℤ d) dens ∙ *ℤ_comm q.num q.den)
