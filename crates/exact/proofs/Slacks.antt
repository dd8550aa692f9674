-- The slack of a gap: Euclid's greatest common divisor, the fraction in lowest terms and its sign,
-- and what a slack says of its gap.
use mathlib.Core.Path.{◌≡◌, refl, sym, ◌∙◌, ap, ap₂}
use mathlib.Core.Logic.{⊎_elim}
use mathlib.Core.List.{List, [], ◌∷◌}
use Prim.Native.Nat.{ℕ, zero, suc, ◌+◌, ◌*◌, ◌%◌, ◌≤◌, ◌<◌, ◌^◌}
use native.Mathlib.Omega.{arith}
use native.Mathlib.Nat.{mul-le-mul, mod-lt, pos_of_dvd_of_pos, eq-one_of_dvd-one}
use lib.IntN.{ℤ, pos, neg_ℤ, nat_abs, ◌-ℤ◌, ◌*ℤ◌, *ℤ_comm, *ℤ-zero, zero-*ℤ}
use lib.Signed.{◌≤ℤ◌, ◌<ℤ◌}
use mir.Syntax.{w64}
use mir.Val.{SFits}
use Rattle.ground.specs.Limits.{distance_most, fraction_den_most, slack_num_most}
use Rattle.exact.specs.declared.Fraction.{Fraction}
use Rattle.exact.specs.Fraction.{IsFraction, ◌≃◌, ◌≼◌, ◌≺◌, ◌⊕◌, ◌⊖◌, whole, LowestTerms, Reduced}
use Rattle.exact.specs.Divide.{GreatestCommonDivisor}
use Rattle.exact.specs.Slack.{euclid, gcd_of, divided_by, lowest_of, difference, slack_between, Measurable}
use Rattle.algebra.proofs.Whole.{le_parts, le_of_eq, le_antisym, parts_lt, le_of_lt, le_or_lt, not_le_of_lt, *ℤ-nonneg, *ℤ-le_cancel, *ℤ-cancel}
use Rattle.algebra.proofs.Ring.{quotes, ring, le_given, lt_given, eq_given, le_goal, lt_goal, eq_goal}
use Rattle.algebra.proofs.Quotient.{nat_abs-*, nat_abs-+, nat_abs-neg, nat_abs-above, above_nat_abs, quot_exact, kept, kept_as, fits_as}
use Rattle.exact.proofs.Divisor.{gcd_step, gcd_end, reduced_by, lowest_unique}
use Rattle.exact.proofs.Fractions.{≃-trans, ⊖-above, whole_above}

-- ---- Euclid's remainders

-- every remainder is below the one before it, so that b turns suffice
pub gcd_euclid : (turns a b : ℕ) → b ≤ turns → GreatestCommonDivisor a b (euclid turns a b)
unfolding euclid
gcd_euclid zero a zero h = gcd_end a
gcd_euclid zero a (suc b) h = absurd (omega arith)
gcd_euclid (suc turns) a zero h = gcd_end a
gcd_euclid (suc turns) a (suc b) h =
    gcd_step (gcd_euclid turns (suc b) (a % suc b) (omega (arith, mod-lt a {m = suc b} (omega arith))))

-- ---- lowest terms

-- the divisor of a fraction, which is above zero
module _ (q : Fraction) (h : IsFraction q) where
  abbrev common : ℤ
  common = pos (gcd_of (nat_abs q.num) (nat_abs q.den))

  divides : GreatestCommonDivisor (nat_abs q.num) (nat_abs q.den) (gcd_of (nat_abs q.num) (nat_abs q.den))
  divides = gcd_euclid (nat_abs q.den) (nat_abs q.num) (nat_abs q.den) (omega arith)

  common_above : pos 0 <ℤ common
  common_above = parts_lt (omega (arith, pos_of_dvd_of_pos divides.right (nat_abs-above h)))

  -- divided by it the fraction is in lowest terms
  pub lowest_of_lem : Reduced q (lowest_of q)
  unfolding lowest_of
  lowest_of_lem =
      reduced_by q (divided_by common q) common common_above h divides
      (quot_exact q.num common common_above divides.left)
      (quot_exact q.den common common_above divides.right)

  lowest_above : IsFraction (lowest_of q)
  lowest_above = lowest_of_lem.lowest.above

  lowest_same : q ≃ lowest_of q
  lowest_same = sym lowest_of_lem.same

-- which no other fraction is
pub lowest_is : (q r : Fraction) → IsFraction q → Reduced q r → r ≡ lowest_of q
lowest_is q r h d =
    lowest_unique r (lowest_of q) d.lowest (lowest_of_lem q h).lowest (≃-trans r q (lowest_of q) h d.same (lowest_same q h))

-- ---- the sign of equal fractions

module _ (p q : Fraction) (hp : IsFraction p) (hq : IsFraction q) (e : p ≃ q) where
  from_zero : pos 0 ≤ℤ p.num → pos 0 ≤ℤ q.num
  from_zero h = *ℤ-le_cancel hp (rw (*ℤ-zero p.den, *ℤ_comm p.den q.num, ← e) (*ℤ-nonneg h (le_of_lt hq)))

  at_zero : p.num ≡ pos 0 → q.num ≡ pos 0
  at_zero h = *ℤ-cancel hp (*ℤ_comm p.den q.num ∙ sym e ∙ ap (λ v. v *ℤ q.den) h ∙ zero-*ℤ q.den ∙ sym (*ℤ-zero p.den))

below_zero : (p q : Fraction) → IsFraction p → IsFraction q → p ≃ q → p.num <ℤ pos 0 → q.num <ℤ pos 0
below_zero p q hp hq e h =
    ⊎_elim (λ k. absurd (not_le_of_lt h (from_zero q p hq hp (sym e) k))) (λ k. k) (le_or_lt (pos 0) q.num)

-- lowest terms keep it
module _ (q : Fraction) (h : IsFraction q) where
  pub sign_least : pos 0 ≤ℤ q.num → pos 0 ≤ℤ (lowest_of q).num
  sign_least = from_zero q (lowest_of q) h (lowest_above q h) (lowest_same q h)

  pub sign_least_back : pos 0 ≤ℤ (lowest_of q).num → pos 0 ≤ℤ q.num
  sign_least_back = from_zero (lowest_of q) q (lowest_above q h) h (lowest_of_lem q h).same

  pub sign_none : q.num ≡ pos 0 → (lowest_of q).num ≡ pos 0
  sign_none = at_zero q (lowest_of q) h (lowest_above q h) (lowest_same q h)

  pub sign_none_back : (lowest_of q).num ≡ pos 0 → q.num ≡ pos 0
  sign_none_back = at_zero (lowest_of q) q (lowest_above q h) h (lowest_of_lem q h).same

  pub sign_below : q.num <ℤ pos 0 → (lowest_of q).num <ℤ pos 0
  sign_below = below_zero q (lowest_of q) h (lowest_above q h) (lowest_same q h)

  pub sign_below_back : (lowest_of q).num <ℤ pos 0 → q.num <ℤ pos 0
  sign_below_back = below_zero (lowest_of q) q (lowest_above q h) h (lowest_of_lem q h).same

  pub sign_above : pos 0 <ℤ q.num → pos 0 <ℤ (lowest_of q).num
  sign_above k =
      ⊎_elim
      (λ low. absurd (not_le_of_lt k (le_of_eq (sign_none_back (le_antisym low (sign_least (le_of_lt k)))))))
      (λ l. l)
      (le_or_lt (lowest_of q).num (pos 0))

  pub sign_above_back : pos 0 <ℤ (lowest_of q).num → pos 0 <ℤ q.num
  sign_above_back k =
      ⊎_elim
      (λ low. absurd (not_le_of_lt k (le_of_eq (sign_none (le_antisym low (sign_least_back (le_of_lt k)))))))
      (λ l. l)
      (le_or_lt q.num (pos 0))

-- zero in lowest terms is 0/1
zero_whole : LowestTerms (whole (pos 0))
zero_whole = record { above = whole_above (pos 0); reduced = λ k p s. eq-one_of_dvd-one s }

pub zero_lowest : (q : Fraction) → IsFraction q → q.num ≡ pos 0 → lowest_of q ≡ whole (pos 0)
zero_lowest q h e = sym (lowest_is q (whole (pos 0)) h (record { same = zero-*ℤ q.den ∙ sym (ap (λ v. v *ℤ pos 1) e); lowest = zero_whole }))

-- ---- the difference, and the gap as document 01 writes it

module _ (l r : Fraction) (g : ℤ) where
  pub difference_above : IsFraction l → IsFraction r → IsFraction (difference l r g)
  difference_above hl hr = ⊖-above (r ⊖ l) (whole g) (⊖-above r l hr hl) (whole_above g)

  pub least_form : pos 0 ≤ℤ (difference l r g).num → (l ⊕ whole g) ≼ r
  least_form h =
      let ρ : List ℤ = l.num ∷ l.den ∷ r.num ∷ r.den ∷ g ∷ [] in
      le_goal ρ (search quotes depth 12) (search quotes depth 12)
      (omega (arith, le_given ρ (search quotes depth 12) (search quotes depth 12) h))

  pub least_form_back : (l ⊕ whole g) ≼ r → pos 0 ≤ℤ (difference l r g).num
  least_form_back h =
      let ρ : List ℤ = l.num ∷ l.den ∷ r.num ∷ r.den ∷ g ∷ [] in
      le_goal ρ (search quotes depth 12) (search quotes depth 12)
      (omega (arith, le_given ρ (search quotes depth 12) (search quotes depth 12) h))

  pub same_form : (difference l r g).num ≡ pos 0 → (l ⊕ whole g) ≃ r
  same_form h =
      let ρ : List ℤ = l.num ∷ l.den ∷ r.num ∷ r.den ∷ g ∷ [] in
      eq_goal ρ (search quotes depth 12) (search quotes depth 12)
      (omega (arith, eq_given ρ (search quotes depth 12) (search quotes depth 12) h))

  pub same_form_back : (l ⊕ whole g) ≃ r → (difference l r g).num ≡ pos 0
  same_form_back h =
      let ρ : List ℤ = l.num ∷ l.den ∷ r.num ∷ r.den ∷ g ∷ [] in
      eq_goal ρ (search quotes depth 12) (search quotes depth 12)
      (omega (arith, eq_given ρ (search quotes depth 12) (search quotes depth 12) h))

  below_form : (difference l r g).num <ℤ pos 0 → r ≺ (l ⊕ whole g)
  below_form h =
      let ρ : List ℤ = l.num ∷ l.den ∷ r.num ∷ r.den ∷ g ∷ [] in
      lt_goal ρ (search quotes depth 12) (search quotes depth 12)
      (omega (arith, lt_given ρ (search quotes depth 12) (search quotes depth 12) h))

  below_form_back : r ≺ (l ⊕ whole g) → (difference l r g).num <ℤ pos 0
  below_form_back h =
      let ρ : List ℤ = l.num ∷ l.den ∷ r.num ∷ r.den ∷ g ∷ [] in
      lt_goal ρ (search quotes depth 12) (search quotes depth 12)
      (omega (arith, lt_given ρ (search quotes depth 12) (search quotes depth 12) h))

-- ---- what a slack says

module _ (l r : Fraction) (g : ℤ) (hl : IsFraction l) (hr : IsFraction r) where
  apart : IsFraction (difference l r g)
  apart = difference_above l r g hl hr

  -- not below zero: the gap is at least its distance
  pub slack_asked : pos 0 ≤ℤ (slack_between l r g).num → (l ⊕ whole g) ≼ r
  slack_asked h = least_form l r g (sign_least_back (difference l r g) apart h)

  pub slack_asked_back : (l ⊕ whole g) ≼ r → pos 0 ≤ℤ (slack_between l r g).num
  slack_asked_back h = sign_least (difference l r g) apart (least_form_back l r g h)

  -- zero: it is exactly its distance
  pub slack_tight : (slack_between l r g).num ≡ pos 0 → (l ⊕ whole g) ≃ r
  slack_tight h = same_form l r g (sign_none_back (difference l r g) apart h)

  pub slack_tight_back : (l ⊕ whole g) ≃ r → (slack_between l r g).num ≡ pos 0
  slack_tight_back h = sign_none (difference l r g) apart (same_form_back l r g h)

  -- "negative where the gap is broken", and only there
  pub slack_negative : r ≺ (l ⊕ whole g) → (slack_between l r g).num <ℤ pos 0
  slack_negative h = sign_below (difference l r g) apart (below_form_back l r g h)

  pub slack_negative_back : (slack_between l r g).num <ℤ pos 0 → r ≺ (l ⊕ whole g)
  slack_negative_back h = below_form l r g (sign_below_back (difference l r g) apart h)

-- ---- in 64 bits

product_most : (x y : ℤ) {m n : ℕ} → nat_abs x ≤ m → nat_abs y ≤ n → nat_abs (x *ℤ y) ≤ m * n
product_most x y h k = rw nat_abs-* (mul-le-mul h k)

less_most : (x y : ℤ) {m n : ℕ} → nat_abs x ≤ m → nat_abs y ≤ n → nat_abs (x -ℤ y) ≤ m + n
less_most x y h k = omega (arith, nat_abs-+ x (neg_ℤ y), nat_abs-neg y)

module _ (q : Fraction) (m : Measurable q) where
  den_small : nat_abs q.den ≤ fraction_den_most
  den_small = omega (arith, above_nat_abs m.above, le_parts m.den_most)

  num_kept : kept q.num ≡ q.num
  num_kept = kept_as refl (omega (arith, m.num_most))

  den_kept : kept q.den ≡ q.den
  den_kept = kept_as refl (omega (arith, den_small))

-- a numerator times the other fraction's denominator
module _ (p q : Fraction) (mp : Measurable p) (mq : Measurable q) where
  cross_most : nat_abs (p.num *ℤ q.den) ≤ slack_num_most * fraction_den_most
  cross_most = product_most p.num q.den mp.num_most (den_small q mq)

  cross_plain : kept p.num *ℤ kept q.den ≡ p.num *ℤ q.den
  cross_plain = ap₂ ◌*ℤ◌ (num_kept p mp) (den_kept q mq)

  pub cross_asks : SFits w64 (kept p.num *ℤ kept q.den)
  cross_asks = fits_as cross_plain (omega (arith, cross_most))

  cross_kept : kept (kept p.num *ℤ kept q.den) ≡ p.num *ℤ q.den
  cross_kept = kept_as cross_plain (omega (arith, cross_most))

  both_most : nat_abs (p.den *ℤ q.den) ≤ fraction_den_most * fraction_den_most
  both_most = product_most p.den q.den (den_small p mp) (den_small q mq)

  both_plain : kept p.den *ℤ kept q.den ≡ p.den *ℤ q.den
  both_plain = ap₂ ◌*ℤ◌ (den_kept p mp) (den_kept q mq)

  pub both_asks : SFits w64 (kept p.den *ℤ kept q.den)
  both_asks = fits_as both_plain (omega (arith, both_most))

  both_kept : kept (kept p.den *ℤ kept q.den) ≡ p.den *ℤ q.den
  both_kept = kept_as both_plain (omega (arith, both_most))

-- the numbers of `between`, as they are read back
abbrev both_read : Fraction → Fraction → ℤ
both_read l r = kept (kept l.den *ℤ kept r.den)

abbrev cross_read : Fraction → Fraction → ℤ
cross_read p q = kept (kept p.num *ℤ kept q.den)

abbrev apart_read : Fraction → Fraction → ℤ
apart_read l r = kept (cross_read r l -ℤ cross_read l r)

abbrev span_read : Fraction → Fraction → ℤ → ℤ
span_read l r g = kept (kept g *ℤ both_read l r)

module _ (l r : Fraction) (g : ℤ) (ml : Measurable l) (mr : Measurable r) (mg : nat_abs g ≤ distance_most) where
  apart_most : nat_abs (r.num *ℤ l.den -ℤ l.num *ℤ r.den) ≤ slack_num_most * fraction_den_most + slack_num_most * fraction_den_most
  apart_most = less_most (r.num *ℤ l.den) (l.num *ℤ r.den) (cross_most r l mr ml) (cross_most l r ml mr)

  apart_plain : cross_read r l -ℤ cross_read l r ≡ r.num *ℤ l.den -ℤ l.num *ℤ r.den
  apart_plain = ap₂ ◌-ℤ◌ (cross_kept r l mr ml) (cross_kept l r ml mr)

  pub apart_asks : SFits w64 (cross_read r l -ℤ cross_read l r)
  apart_asks = fits_as apart_plain (omega (arith, apart_most))

  span_most : nat_abs (g *ℤ (l.den *ℤ r.den)) ≤ distance_most * (fraction_den_most * fraction_den_most)
  span_most = product_most g (l.den *ℤ r.den) mg (both_most l r ml mr)

  distance_kept : kept g ≡ g
  distance_kept = kept_as refl (omega arith)

  span_plain : kept g *ℤ both_read l r ≡ g *ℤ (l.den *ℤ r.den)
  span_plain = ap₂ ◌*ℤ◌ distance_kept (both_kept l r ml mr)

  pub span_asks : SFits w64 (kept g *ℤ both_read l r)
  span_asks = fits_as span_plain (omega (arith, span_most))

  num_most : nat_abs ((r.num *ℤ l.den -ℤ l.num *ℤ r.den) -ℤ g *ℤ (l.den *ℤ r.den)) < 2 ^ 63
  num_most = omega (arith, less_most (r.num *ℤ l.den -ℤ l.num *ℤ r.den) (g *ℤ (l.den *ℤ r.den)) apart_most span_most)

  num_plain : apart_read l r -ℤ span_read l r g ≡ (r.num *ℤ l.den -ℤ l.num *ℤ r.den) -ℤ g *ℤ (l.den *ℤ r.den)
  num_plain = ap₂ ◌-ℤ◌ (kept_as apart_plain (omega (arith, apart_most))) (kept_as span_plain (omega (arith, span_most)))

  pub num_asks : SFits w64 (apart_read l r -ℤ span_read l r g)
  num_asks = fits_as num_plain num_most

  -- together they are the difference
  pub difference_read : ◌≡◌ {A = Fraction} (record { num = kept (apart_read l r -ℤ span_read l r g); den = both_read l r }) (difference l r g)
  difference_read = λ i. record { num = nums i; den = dens i }
    where
      nums : kept (apart_read l r -ℤ span_read l r g) ≡ (difference l r g).num
      nums = kept_as num_plain num_most ∙ ring (l.num ∷ l.den ∷ r.num ∷ r.den ∷ g ∷ []) (search quotes depth 12) (search quotes depth 12) refl

      dens : both_read l r ≡ (difference l r g).den
      dens = both_kept l r ml mr ∙ ring (l.den ∷ r.den ∷ []) (search quotes depth 12) (search quotes depth 12) refl
