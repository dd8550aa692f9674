-- The limits of a place and of a distance: what passes them and what does not, as the code tests it.
use mathlib.Core.Path.{◌≡◌, refl, sym}
use mathlib.Core.Logic.{◌⊎◌, inl, inr}
use mathlib.Core.Bool.{Bool, true, false, ◌&&◌, cond}
use Prim.Native.Nat.{ℕ, ◌≤◌}
use native.Mathlib.Omega.{arith}
use lib.Dec.{leb}
use borrow.Author.Tests.{leb-true, le-leb, lt-leb}
use lib.IntN.{ℤ, pos, negsuc, neg_ℤ, nat_abs}
use lib.Signed.{◌≤ℤ◌, ◌<ℤ◌, le_z, lt_z}
use Rattle.std.specs.Ordering.{int_cmp, is_le}
use Rattle.std.specs.declared.cmp.Ordering.TheVariants.{Less, Equal, Greater}
use Rattle.ground.specs.Limits.{place_den_most, place_num_most}
use Rattle.single_fractions.specs.Places.{within_places}
use Rattle.algebra.proofs.Whole.{le_parts, lt_parts, parts_nat_abs, pp_neg, nn_neg, le_or_lt, le_of_lt, not_le_of_lt}
use Rattle.algebra.proofs.Quotient.{le_z-of_test, test_of_le_z, lt_of_test, test_of_lt, test_of_le}

-- ---- a magnitude within a limit

-- from the limit below zero on, only the limit above zero is left to test
pub magnitude_test : (z : ℤ) (most : ℕ) → neg_ℤ (pos most) ≤ℤ z → le_z z (pos most) ≡ leb (nat_abs z) most
magnitude_test (pos n) most h = refl
magnitude_test (negsuc n) most h = sym (le-leb (nat_abs (negsuc n)) most (omega (arith, le_parts h, pp_neg (pos most), nn_neg (pos most))))

pub magnitude_low : (z : ℤ) (most : ℕ) → z <ℤ neg_ℤ (pos most) → leb (nat_abs z) most ≡ false
magnitude_low z most h = lt-leb (nat_abs z) most (omega (arith, lt_parts h, parts_nat_abs z, pp_neg (pos most), nn_neg (pos most)))

-- ---- three tests

and_three : (t u v : Bool) → (t && u && v) ≡ true → (t ≡ true) × ((u ≡ true) × (v ≡ true))
and_three true true true e = (refl, (refl, refl))
and_three true true false e = let z : ◌≡◌ {A = ℕ} 0 1 = cc in absurd (omega arith)
and_three true false v e = let z : ◌≡◌ {A = ℕ} 0 1 = cc in absurd (omega arith)
and_three false u v e = let z : ◌≡◌ {A = ℕ} 0 1 = cc in absurd (omega arith)

second_false : (t v : Bool) → (t && false && v) ≡ false
second_false true v = refl
second_false false v = refl

third_false : (t u : Bool) → (t && u && false) ≡ false
third_false true true = refl
third_false true false = refl
third_false false u = refl

-- ---- what std's comparison says of two numbers

above_fails : {a b : ℤ} → b <ℤ a → le_z a b ≡ false
above_fails {a} {b} h = go (le_z a b) refl
  where
    go : (t : Bool) → le_z a b ≡ t → t ≡ false
    go false e = refl
    go true e = absurd (not_le_of_lt h (le_z-of_test e))

pub at_most : (a b : ℤ) → is_le (int_cmp a b) ≡ le_z a b
at_most a b = go (le_or_lt a b) (lt_z a b) refl
  where
    go : (a ≤ℤ b) ⊎ (b <ℤ a) → (t : Bool) → lt_z a b ≡ t → is_le (cond t Less (cond (lt_z b a) Greater Equal)) ≡ le_z a b
    go (inl h) true e = sym (test_of_le_z h)
    go (inl h) false e = rw (test_of_le h, test_of_le_z h) refl
    go (inr h) true e = absurd (not_le_of_lt h (le_of_lt (lt_of_test e)))
    go (inr h) false e = rw (test_of_lt h, above_fails h) refl

-- ---- a fraction within the limits of a place

module _ (num den : ℤ) where
  pub places_are : within_places num den ≡ (le_z (pos 1) den && le_z den (pos place_den_most) && leb (nat_abs num) place_num_most)
  unfolding within_places
  places_are = refl

  -- from the first three tests on, only the last is left
  pub places_test : pos 1 ≤ℤ den → den ≤ℤ pos place_den_most → neg_ℤ (pos place_num_most) ≤ℤ num → le_z num (pos place_num_most) ≡ within_places num den
  unfolding within_places
  places_test h k l = rw (test_of_le_z h, test_of_le_z k) (magnitude_test num place_num_most l)

  pub places_pass : pos 1 ≤ℤ den → den ≤ℤ pos place_den_most → nat_abs num ≤ place_num_most → within_places num den ≡ true
  unfolding within_places
  places_pass h k m = rw (test_of_le_z h, test_of_le_z k) (le-leb (nat_abs num) place_num_most m)

  -- what passes
  pub places_passed : within_places num den ≡ true → (pos 1 ≤ℤ den) × ((den ≤ℤ pos place_den_most) × (nat_abs num ≤ place_num_most))
  unfolding within_places
  places_passed e =
      let parts = and_three (le_z (pos 1) den) (le_z den (pos place_den_most)) (leb (nat_abs num) place_num_most) e in
      (le_z-of_test parts.0, (le_z-of_test parts.1.0, leb-true (nat_abs num) place_num_most parts.1.1))

  -- what does not
  pub den_low : den <ℤ pos 1 → within_places num den ≡ false
  unfolding within_places
  den_low h = rw (above_fails h) refl

  pub den_high : pos place_den_most <ℤ den → within_places num den ≡ false
  unfolding within_places
  den_high h = rw (above_fails h) (second_false (le_z (pos 1) den) (leb (nat_abs num) place_num_most))

  pub num_low : num <ℤ neg_ℤ (pos place_num_most) → within_places num den ≡ false
  unfolding within_places
  num_low h = rw (magnitude_low num place_num_most h) (third_false (le_z (pos 1) den) (le_z den (pos place_den_most)))
