-- When refusal 12 is met, the sign test, and the whole part and the remainder of a magnitude.
use mathlib.Core.Path.{◌≡◌, refl, sym, ◌∙◌, ap}
use mathlib.Core.Logic.{◌⊎◌, inl, inr}
use mathlib.Core.Bool.{Bool, true, false, cond, true≢false}
use Prim.Native.Nat.{◌*◌, ◌/◌, ◌%◌, ◌<◌, ◌^◌}
use native.Mathlib.Omega.{arith}
use lib.IntN.{ℤ, pos, negsuc, nat_abs, ◌*ℤ◌}
use lib.Signed.{◌≤ℤ◌, ◌<ℤ◌, le_z, quot_z, rem_z}
use mir.Syntax.{w64}
use mir.Val.{SFits}
use Rattle.exact.specs.declared.Fraction.{Fraction}
use Rattle.single_fractions.specs.declared.Ties.{Ties}
use Rattle.std.specs.Prelude.{Ok}
use Rattle.exact.specs.Divide.{InRange}
use Rattle.single_fractions.specs.Places.{within_places}
use Rattle.ground.specs.Answers.{number_of}
use Rattle.single_fractions.specs.Round.{refusal12, rounded, whole_by}
use Rattle.algebra.proofs.Whole.{le_parts, parts_le, lt_parts, parts_lt, le_or_lt}
use Rattle.algebra.proofs.Quotient.{nat_abs-*, test_of_le_z, kept, fits_as, kept_as}
use Rattle.exact.proofs.Ordering.{rem_small, rem_kept}
use Rattle.single_fractions.proofs.PlaceLimits.{places_passed}

-- the sign test
pub not_from_zero : {num : ℤ} → le_z (pos 0) num ≡ false → num <ℤ pos 0
not_from_zero {num} e = go (le_or_lt (pos 0) num)
  where
    go : (pos 0 ≤ℤ num) ⊎ (num <ℤ pos 0) → num <ℤ pos 0
    go (inl h) = absurd (true≢false (sym (test_of_le_z h) ∙ e))
    go (inr h) = h

-- the whole part and the remainder of a magnitude
pub quot_magnitude : (num den : ℤ) → pos 0 ≤ℤ num → pos 0 <ℤ den → quot_z num den ≡ pos (nat_abs num / nat_abs den)
quot_magnitude (pos a) (pos d) from above = refl
quot_magnitude (negsuc a) den from above = absurd (omega (arith, le_parts from))
quot_magnitude (pos a) (negsuc d) from above = absurd (omega (arith, lt_parts above))

rem_magnitude : (num den : ℤ) → pos 0 ≤ℤ num → pos 0 <ℤ den → rem_z num den ≡ pos (nat_abs num % nat_abs den)
rem_magnitude (pos a) (pos d) from above = refl
rem_magnitude (negsuc a) den from above = absurd (omega (arith, le_parts from))
rem_magnitude (pos a) (negsuc d) from above = absurd (omega (arith, lt_parts above))

-- twice the remainder, which the code compares, in 64 bits
module _ (q : Fraction) (ok : InRange q) where
  twice_small : nat_abs (pos 2 *ℤ rem_z q.num q.den) < 2 ^ 63
  twice_small = omega (arith, rem_small q ok, nat_abs-* (pos 2) (rem_z q.num q.den))

  pub twice_asks : SFits w64 (pos 2 *ℤ kept (rem_z (kept q.num) (kept q.den)))
  twice_asks = fits_as (ap (λ (v : ℤ). pos 2 *ℤ v) (rem_kept q ok)) twice_small

  pub twice_read : pos 0 ≤ℤ q.num → kept (pos 2 *ℤ kept (rem_z (kept q.num) (kept q.den))) ≡ pos (2 * (nat_abs q.num % nat_abs q.den))
  twice_read from =
      kept_as (ap (λ (v : ℤ). pos 2 *ℤ v) (rem_kept q ok)) twice_small
      ∙ ap (λ (v : ℤ). pos 2 *ℤ v) (rem_magnitude q.num q.den from ok.above)

-- ---- refusal 12

module _ (ties : Ties) (num den : ℤ) where
  pub answers : within_places num den ≡ true → Ok (whole_by ties num den) ≡ rounded ties num den
  unfolding rounded
  answers e = rw e refl

  pub refuses : within_places num den ≡ false → refusal12 ≡ rounded ties num den
  unfolding rounded
  refuses e = rw e refl

  -- an answer whose number is 0 is no refusal
  not_refused : number_of (rounded ties num den) ≡ 0 → within_places num den ≡ true
  unfolding rounded
  not_refused = go (within_places num den)
    where
      go : (t : Bool) → number_of (cond t (Ok (whole_by ties num den)) refusal12) ≡ 0 → t ≡ true
      go true e = refl
      go false e = absurd (omega arith)

pub in_range : (num den : ℤ) → within_places num den ≡ true → InRange (record { num = num; den = den })
in_range num den e =
    let passed = places_passed num den e in
    record {
      above = parts_lt (omega (arith, le_parts passed.0));
      den_most = parts_le (omega (arith, le_parts passed.1.0));
      num_most = omega (arith, passed.1.1);
    }

-- an answer whose number is 0: its denominator is above zero, and it is the rule's whole number
module _ (ties : Ties) (num den : ℤ) (not : number_of (rounded ties num den) ≡ 0) where
  pub given_above : pos 0 <ℤ den
  given_above = (in_range num den (not_refused ties num den not)).above

  pub whole_given : rounded ties num den ≡ Ok (whole_by ties num den)
  whole_given = sym (answers ties num den (not_refused ties num den not))
