-- How large the numbers of a block get: its sums, the numerators of its places, and what elimination starts from.
use mathlib.Core.Path.{◌≡◌, ◌∙◌, refl, ap, ap₂}
use mathlib.Core.Logic.{⊎_elim}
use mathlib.Core.List.{List}
use Prim.Native.Nat.{ℕ, ◌+◌, ◌*◌, ◌^◌, ◌≤◌, ◌<◌}
use native.Mathlib.Omega.{arith}
use native.Mathlib.Nat.{mul-le-mul}
use lib.IntN.{ℤ, pos, negsuc, neg_ℤ, nat_abs, ◌+ℤ◌, ◌-ℤ◌, ◌*ℤ◌}
use lib.Signed.{◌≤ℤ◌}
use mir.Syntax.{w64}
use mir.Val.{SFits}
use mir.ValLaws.{to_z-of_z}
use Rattle.algebra.proofs.Whole.{parts_nat_abs, le_parts, parts_le, le_trans, no_nn}
use Rattle.algebra.proofs.Quotient.{nat_abs-neg, nat_abs-*, nat_abs-+, kept}
use Rattle.algebra.proofs.Sum.{sum_bound, sum_term_le}
use Rattle.ground.specs.Entries.{nat, int}
use Rattle.core_elimination.specs.declared.Sums.{Sums}
use Rattle.core_elimination.specs.Block.{IsSign, Listed, InRange, SumsInRange, weight_sum, wanted_sum, Given, numerator, surplus_at}
use Rattle.core_elimination.specs.Eliminate.{Small}

-- ---- magnitudes

pub plus_most : (a b : ℤ) {m n : ℕ} → nat_abs a ≤ m → nat_abs b ≤ n → nat_abs (a +ℤ b) ≤ m + n
plus_most a b h k = omega (arith, nat_abs-+ a b)

pub minus_most : (a b : ℤ) {m n : ℕ} → nat_abs a ≤ m → nat_abs b ≤ n → nat_abs (a -ℤ b) ≤ m + n
minus_most a b h k = omega (arith, nat_abs-+ a (neg_ℤ b), nat_abs-neg b)

pub times_most : (a b : ℤ) {m n : ℕ} → nat_abs a ≤ m → nat_abs b ≤ n → nat_abs (a *ℤ b) ≤ m * n
times_most a b h k = rw (nat_abs-* a b) (mul-le-mul h k)

-- a number above zero is its own magnitude
pub above_most : {z : ℤ} {n : ℕ} → pos 1 ≤ℤ z → z ≤ℤ pos n → nat_abs z ≤ n
above_most {z} h k =
    let above : pos 0 ≤ℤ z = parts_le (omega (arith, le_parts h)) in
    omega (arith, no_nn above, le_parts k, parts_nat_abs z)

-- what is small fits a machine word
pub fits_small : (z : ℤ) → nat_abs z < 2 ^ 63 → SFits w64 z
fits_small (pos n) h = record { sfits = h }
fits_small (negsuc n) h = record { sfits = omega arith }

-- so that it is read back as it was written
pub read_back : (z : ℤ) {n : ℕ} → nat_abs z ≤ n → n < 2 ^ 63 → kept z ≡ z
read_back z h l = to_z-of_z w64 z (fits_small z (omega arith))

-- what the machine reckons as a is the number b, and that is m at most
pub record Reads (a b : ℤ) (m : ℕ) : Type 0 where
  pub is : a ≡ b
  pub most : nat_abs b ≤ m

-- then it fits
pub fit : {a b : ℤ} {m : ℕ} → Reads a b m → m < 2 ^ 63 → SFits w64 a
fit {b = b} r l = rw r.is (fits_small b (omega (arith, r.most)))

-- and is the same as a machine word
pub word : {a b : ℤ} {m : ℕ} → Reads a b m → m < 2 ^ 63 → Reads (kept a) b m
word {b = b} r l = record { is = ap kept r.is ∙ read_back b r.most l; most = r.most }

pub same : (z : ℤ) {m : ℕ} → nat_abs z ≤ m → Reads z z m
same z h = record { is = refl; most = h }

module _ {a b c d : ℤ} {m n : ℕ} (r : Reads a b m) (q : Reads c d n) where
  pub plus : Reads (a +ℤ c) (b +ℤ d) (m + n)
  plus = record { is = ap₂ ◌+ℤ◌ r.is q.is; most = plus_most b d r.most q.most }

  pub minus : Reads (a -ℤ c) (b -ℤ d) (m + n)
  minus = record { is = ap₂ ◌-ℤ◌ r.is q.is; most = minus_most b d r.most q.most }

  pub times : Reads (a *ℤ c) (b *ℤ d) (m * n)
  times = record { is = ap₂ ◌*ℤ◌ r.is q.is; most = times_most b d r.most q.most }

-- ---- the sums

module _ {count : ℕ} {queue : List ℕ} {off wanted weight : List ℤ} (r : InRange count queue off wanted weight) where
  pub weight_small : (k : ℕ) → k < count → nat_abs (int weight (nat queue k)) ≤ 3600
  weight_small k h = above_most (r.weight_low k h) (r.weight_high k h)

  -- the machine's words for a label's numbers, and for its part of P
  pub weight_word : (k : ℕ) → k < count → Reads (kept (int weight (nat queue k))) (int weight (nat queue k)) 3600
  weight_word k h = word (same _ (weight_small k h)) (omega arith)

  pub wanted_word : (k : ℕ) → k < count → Reads (kept (int wanted (nat queue k))) (int wanted (nat queue k)) 600000
  wanted_word k h = word (same _ (r.wanted_bound k h)) (omega arith)

  pub off_word : (k : ℕ) → k < count → Reads (kept (int off (nat queue k))) (int off (nat queue k)) 940000
  off_word k h = word (same _ (r.off_most k h)) (omega arith)

  pub gap_small : (k : ℕ) → k < count → nat_abs (int wanted (nat queue k) -ℤ int off (nat queue k)) ≤ 1540000
  gap_small k h = minus_most (int wanted (nat queue k)) (int off (nat queue k)) (r.wanted_bound k h) (r.off_most k h)

  pub moment_word : (k : ℕ) → k < count
      → Reads (kept (int weight (nat queue k)) *ℤ kept (kept (int wanted (nat queue k)) -ℤ kept (int off (nat queue k))))
      (int weight (nat queue k) *ℤ (int wanted (nat queue k) -ℤ int off (nat queue k))) 5544000000
  moment_word k h = times (weight_word k h) (word (minus (wanted_word k h) (off_word k h)) (omega arith))

  -- of the first n labels
  pub weight_sum-small : (n : ℕ) → n ≤ count → nat_abs (weight_sum n queue weight) ≤ n * 3600
  weight_sum-small n l = sum_bound n (λ k. int weight (nat queue k)) 3600 (λ k h. weight_small k (omega arith))

  pub wanted_sum-small : (n : ℕ) → n ≤ count → nat_abs (wanted_sum n queue off wanted weight) ≤ n * 5544000000
  wanted_sum-small n l = sum_bound n (λ k. int weight (nat queue k) *ℤ (int wanted (nat queue k) -ℤ int off (nat queue k))) 5544000000 (λ k h. (moment_word k (omega arith)).most)

  -- the sums, and with the next label
  pub weight_more : (k : ℕ) → k < count → count ≤ 48 → (t : ℤ) → t ≡ weight_sum k queue weight
      → Reads (t +ℤ kept (int weight (nat queue k))) (weight_sum k queue weight +ℤ int weight (nat queue k)) 176400
  weight_more k h l t e =
      plus {m = 172800} (record { is = e; most = omega (arith, weight_sum-small k (omega arith)) }) (weight_word k h)

  pub wanted_more : (k : ℕ) → k < count → count ≤ 48 → (t : ℤ) → t ≡ wanted_sum k queue off wanted weight
      → Reads (t +ℤ kept (kept (int weight (nat queue k)) *ℤ kept (kept (int wanted (nat queue k)) -ℤ kept (int off (nat queue k)))))
      (wanted_sum k queue off wanted weight +ℤ int weight (nat queue k) *ℤ (int wanted (nat queue k) -ℤ int off (nat queue k))) 271656000000
  wanted_more k h l t e =
      plus {m = 266112000000} (record { is = e; most = omega (arith, wanted_sum-small k (omega arith)) }) (word (moment_word k h) (omega arith))

  -- which fit
  pub weight_sum-fits : (k : ℕ) → k < count → count ≤ 48 → SFits w64 (weight_sum k queue weight +ℤ int weight (nat queue k))
  weight_sum-fits k h l = fits_small _ (omega (arith, (weight_more k h l _ refl).most))

  pub wanted_sum-fits : (k : ℕ) → k < count → count ≤ 48
      → SFits w64 (wanted_sum k queue off wanted weight +ℤ int weight (nat queue k) *ℤ (int wanted (nat queue k) -ℤ int off (nat queue k)))
  wanted_sum-fits k h l = fits_small _ (omega (arith, (wanted_more k h l _ refl).most))

  above_zero : (k : ℕ) → k < count → pos 0 ≤ℤ int weight (nat queue k)
  above_zero k h = parts_le (omega (arith, le_parts (r.weight_low k h)))

  weight_sum-above : 0 < count → pos 1 ≤ℤ weight_sum count queue weight
  weight_sum-above h = le_trans (r.weight_low 0 h) (sum_term_le count (λ k. int weight (nat queue k)) above_zero 0 h)

  -- so the sums that the code gives are in range, of a block that has a label
  pub sums_in_range : (s : Sums) → Listed count queue → 0 < count → s.weight ≡ weight_sum count queue weight → s.wanted ≡ wanted_sum count queue off wanted weight → SumsInRange s
  sums_in_range s l h p q = record {
    weight_low = rw p (weight_sum-above h);
    weight_high = rw p (parts_le (omega (arith, weight_sum-small count (omega arith), parts_nat_abs (weight_sum count queue weight), l.count_most)));
    wanted_bound = rw q (omega (arith, wanted_sum-small count (omega arith), l.count_most));
  }

-- ---- what the sums give

-- a numerator and how far that is from the wanted place, as the machine reckons them
abbrev numerator_in : Sums → ℤ → ℤ
numerator_in s o = kept s.wanted +ℤ kept (kept o *ℤ kept s.weight)

abbrev lack_in : Sums → ℤ → ℤ → ℤ
lack_in s o d = kept (numerator_in s o) -ℤ kept (kept d *ℤ kept s.weight)

module _ {s : Sums} (i : SumsInRange s) where
  pub total_small : nat_abs s.weight ≤ 172800
  total_small = above_most i.weight_low i.weight_high

  pub total_word : Reads (kept s.weight) s.weight 172800
  total_word = word (same _ total_small) (omega arith)

  pub wanted_total : Reads (kept s.wanted) s.wanted 266112000000
  wanted_total = word (same _ i.wanted_bound) (omega arith)

  pub sums_read : (kept s.weight ≡ s.weight) × (kept s.wanted ≡ s.wanted)
  sums_read = (total_word.is, wanted_total.is)

  pub numerator_word : (o : ℤ) → nat_abs o ≤ 940000
      → Reads (numerator_in s o) (s.wanted +ℤ o *ℤ s.weight) 428544000000
  numerator_word o h =
      plus wanted_total (word (times (word (same o h) (omega arith)) total_word) (omega arith))

pub sign_word : {sign : ℤ} → IsSign sign → Reads (kept sign) sign 1
sign_word {sign} e =
    ⊎_elim
    (λ (p : sign ≡ pos 1). rw p (word (same (pos 1) (omega arith)) (omega arith)))
    (λ (p : sign ≡ negsuc 0). rw p (word (same (negsuc 0) (omega arith)) (omega arith)))
    e

-- a sign changes no magnitude
pub signed_small : (sign a : ℤ) {n : ℕ} → IsSign sign → nat_abs a ≤ n → nat_abs (sign *ℤ a) ≤ n
signed_small sign a {n} e h = omega (arith, times_most sign a (sign_word e).most h)

-- and what elimination starts from

module _ {count : ℕ} {queue : List ℕ} {off wanted weight : List ℤ} {s : Sums} (r : InRange count queue off wanted weight) (i : SumsInRange s) (k : ℕ) (h : k < count) where
  pub wanted_times : Reads (kept (int wanted (nat queue k)) *ℤ kept s.weight) (int wanted (nat queue k) *ℤ s.weight) 103680000000
  wanted_times = times (wanted_word r k h) (total_word i)

  pub lack_word : Reads (lack_in s (int off (nat queue k)) (int wanted (nat queue k))) (numerator s off (nat queue k) -ℤ int wanted (nat queue k) *ℤ s.weight) 532224000000
  lack_word =
      minus (word (numerator_word i (int off (nat queue k)) (r.off_most k h)) (omega arith)) (word wanted_times (omega arith))

  pub weighed_word :
      Reads (kept (int weight (nat queue k)) *ℤ kept (lack_in s (int off (nat queue k)) (int wanted (nat queue k))))
      (int weight (nat queue k) *ℤ (numerator s off (nat queue k) -ℤ int wanted (nat queue k) *ℤ s.weight)) 1916006400000000
  weighed_word = times (weight_word r k h) (word lack_word (omega arith))

  pub surplus_word :
      Reads (pos 2 *ℤ kept (kept (int weight (nat queue k)) *ℤ kept (lack_in s (int off (nat queue k)) (int wanted (nat queue k)))))
      (surplus_at s off wanted weight (nat queue k)) 3832012800000000
  surplus_word = times {m = 2} (same (pos 2) (omega arith)) (word weighed_word (omega arith))

  pub signed_word : {sign : ℤ} → IsSign sign
      → Reads (kept sign *ℤ kept (pos 2 *ℤ kept (kept (int weight (nat queue k)) *ℤ kept (lack_in s (int off (nat queue k)) (int wanted (nat queue k))))))
      (sign *ℤ surplus_at s off wanted weight (nat queue k)) 3832012800000000
  signed_word e = times (sign_word e) (word surplus_word (omega arith))

-- a work array of small entries is one that elimination takes
pub given_small : {count : ℕ} {queue : List ℕ} {f : ℕ → ℤ} {before after : List ℤ} → Given count queue f before after
    → ((k : ℕ) → k < count → nat_abs (f (nat queue k)) ≤ 4000000000000000) → Small count queue after
given_small g h = λ k l. rw (g.inside k l) (h k l)
