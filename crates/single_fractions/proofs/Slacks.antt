-- The answer of the slack's entry: places and a distance within their limits have a slack, others are refused.
use mathlib.Core.Path.{◌≡◌, refl}
use mathlib.Core.Bool.{true, false}
use native.Mathlib.Omega.{arith}
use lib.IntN.{ℤ}
use Rattle.algebra.proofs.Whole.{le_parts, parts_le, parts_lt}
use Rattle.exact.specs.declared.Fraction.{Fraction}
use Rattle.exact.specs.Slack.{slack_between, Measurable}
use Rattle.std.specs.Prelude.{Ok}
use Rattle.single_fractions.specs.Places.{within_places}
use Rattle.single_fractions.specs.Slack.{within_distance, refusal, slack_answer}
use Rattle.single_fractions.proofs.PlaceLimits.{places_passed}

module _ (l r : Fraction) (g : ℤ) where
  -- places and a distance within their limits are not refused
  pub slack_of_places : within_places l.num l.den ≡ true → within_places r.num r.den ≡ true → within_distance g ≡ true → slack_answer l r g ≡ Ok (slack_between l r g)
  unfolding slack_answer
  slack_of_places h k m = rw (h, k, m) refl

  -- others are
  pub left_refused : within_places l.num l.den ≡ false → refusal 12 ≡ slack_answer l r g
  unfolding slack_answer
  left_refused h = rw h refl

  pub right_refused : within_places l.num l.den ≡ true → within_places r.num r.den ≡ false → refusal 12 ≡ slack_answer l r g
  unfolding slack_answer
  right_refused h k = rw (h, k) refl

  pub distance_refused : within_places l.num l.den ≡ true → within_places r.num r.den ≡ true → within_distance g ≡ false → refusal 8 ≡ slack_answer l r g
  unfolding slack_answer
  distance_refused h k m = rw (h, k, m) refl

-- a place within its limits is within what `between` takes
pub place_measurable : (q : Fraction) → within_places q.num q.den ≡ true → Measurable q
place_measurable q e =
    let passed = places_passed q.num q.den e in
    record {
      above = parts_lt (omega (arith, le_parts passed.0));
      den_most = parts_le (omega (arith, le_parts passed.1.0));
      num_most = omega (arith, passed.1.1);
    }
