-- What a wrong rounding would say is ruled out: other rules than the six cases, or than halves to the larger number; and one
-- past each limit is refused with 12. Nothing cites them.
use mathlib.Core.Path.{◌≡◌, refl, ap}
use mathlib.Core.Bool.{Bool, true, false, true≢false}
use Prim.Native.Nat.{◌+◌}
use native.Mathlib.Omega.{arith}
use lib.IntN.{ℤ, pos, neg_ℤ, nat_abs}
use lib.Signed.{◌<ℤ◌}
use Rattle.ground.specs.Limits.{place_den_most, place_num_most}
use Rattle.algebra.proofs.Whole.{pp, parts_lt}
use Rattle.ground.specs.declared.Refusal.{Refusal}
use Rattle.single_fractions.specs.declared.Ties.{Ties}
use Rattle.single_fractions.specs.declared.Ties.TheVariants.{AwayFromZero, Up}
use Rattle.std.specs.Prelude.{Ok, Err}
use Rattle.exact.proofs.Nearest.{rounded_ties_to_away, ties_to_away_one, round_half_up_lem, half_up_nearest, half_up_one, ties_up_one}
use Rattle.single_fractions.proofs.RoundingCases.{decided}
use Rattle.single_fractions.specs.Places.{within_places}
use Rattle.exact.specs.Nearest.{round_ties_to_away, TiesToAway, round_half_up, TiesUp, HalfUp}
use Rattle.ground.specs.Answers.{number_of}
use Rattle.single_fractions.specs.Round.{GoesUp, whole_of, refusal12, rounded, Rounded}
use Rattle.single_fractions.specs.RoundingCases.{ByCases}

-- ---- 12 guards both roundings

module _ (ties : Ties) where
  -- a denominator of 0 is no denominator
  denominator_low : rounded ties (pos 1) (pos 0) ≡ refusal12
  unfolding rounded within_places
  denominator_low = refl

  denominator_high : rounded ties (pos 1) (pos (place_den_most + 1)) ≡ refusal12
  unfolding rounded within_places
  denominator_high = refl

  numerator_high : rounded ties (pos (place_num_most + 1)) (pos 1) ≡ refusal12
  unfolding rounded within_places
  numerator_high = refl

  numerator_low : rounded ties (neg_ℤ (pos (place_num_most + 1))) (pos 1) ≡ refusal12
  unfolding rounded within_places
  numerator_low = refl

  -- a part that refuses everything
  refuses_all : rounded ties (pos 1) (pos 2) ≡ refusal12 → ⊥
  unfolding rounded within_places
  refuses_all e = omega (arith, ap number_of e)

-- one that answers as it did before
answers_as_before : rounded AwayFromZero (pos 1) (pos 2) ≡ rounded AwayFromZero (pos 3) (pos 2) → ⊥
unfolding rounded within_places round_ties_to_away
answers_as_before e = omega (arith, ap nat_abs (ap whole_of e))

up_as_before : rounded Up (pos 1) (pos 2) ≡ rounded Up (pos 3) (pos 2) → ⊥
unfolding rounded within_places round_half_up
up_as_before e = omega (arith, ap nat_abs (ap whole_of e))

-- one rule for the other
one_for_the_other : rounded AwayFromZero (neg_ℤ (pos 3)) (pos 2) ≡ rounded Up (neg_ℤ (pos 3)) (pos 2) → ⊥
unfolding rounded within_places round_ties_to_away round_half_up
one_for_the_other e = omega (arith, ap nat_abs (ap whole_of e))

-- ---- other rules than the six cases and IEEE 754's: a wrong whole number goes by neither

-- z is neither what the cases give nor what IEEE 754's rule gives
abbrev NotGiven : ℤ → ℤ → ℤ → Type 0
NotGiven num den z = (ByCases num den (Ok z) → ⊥) × (TiesToAway num den z → ⊥)

not_given : (num den z : ℤ) → pos 0 <ℤ den → (z ≡ round_ties_to_away num den → ⊥) → NotGiven num den z
not_given num den z above differs =
    ((λ by. differs (ap whole_of (decided num den by))), (λ ties. differs (ties_to_away_one num den z (round_ties_to_away num den) ties (rounded_ties_to_away num den above))))

-- a half goes toward zero
half_toward_zero : NotGiven (pos 1) (pos 2) (pos 0)
unfolding round_ties_to_away
half_toward_zero = not_given _ _ _ (parts_lt (omega arith)) (λ e. omega (arith, ap nat_abs e))

-- a half goes to the larger number
half_up : NotGiven (neg_ℤ (pos 3)) (pos 2) (neg_ℤ (pos 1))
unfolding round_ties_to_away
half_up = not_given _ _ _ (parts_lt (omega arith)) (λ e. omega (arith, ap nat_abs e))

-- a half goes to the even number
half_to_even : NotGiven (pos 5) (pos 2) (pos 2)
unfolding round_ties_to_away
half_to_even = not_given _ _ _ (parts_lt (omega arith)) (λ e. omega (arith, ap nat_abs e))

-- under half goes to the next whole number, on either side; and so does a whole number
next_under_half : NotGiven (pos 7) (pos 3) (pos 3)
unfolding round_ties_to_away
next_under_half = not_given _ _ _ (parts_lt (omega arith)) (λ e. omega (arith, ap nat_abs e))

next_under_half_below : NotGiven (neg_ℤ (pos 7)) (pos 3) (neg_ℤ (pos 3))
unfolding round_ties_to_away
next_under_half_below = not_given _ _ _ (parts_lt (omega arith)) (λ e. omega (arith, ap nat_abs e))

whole_moved : NotGiven (neg_ℤ (pos 4)) (pos 2) (neg_ℤ (pos 3))
unfolding round_ties_to_away
whole_moved = not_given _ _ _ (parts_lt (omega arith)) (λ e. omega (arith, ap nat_abs e))

-- over half gives the whole part, on either side
part_over_half : NotGiven (pos 8) (pos 3) (pos 2)
unfolding round_ties_to_away
part_over_half = not_given _ _ _ (parts_lt (omega arith)) (λ e. omega (arith, ap nat_abs e))

part_over_half_below : NotGiven (neg_ℤ (pos 8)) (pos 3) (neg_ℤ (pos 2))
unfolding round_ties_to_away
part_over_half_below = not_given _ _ _ (parts_lt (omega arith)) (λ e. omega (arith, ap nat_abs e))

-- the sign is lost
sign_lost : NotGiven (neg_ℤ (pos 3)) (pos 2) (pos 2)
unfolding round_ties_to_away
sign_lost = not_given _ _ _ (parts_lt (omega arith)) (λ e. omega (arith, ap pp e))

abbrev is_refused : Rounded → Bool
is_refused (Ok z) = false
is_refused (Err r) = true

-- a refusal goes by no case
refused_instead : (num den : ℤ) (r : Refusal) → ByCases num den (Err r) → ⊥
refused_instead num den r by = true≢false (ap is_refused (decided num den by))

-- ---- other rules than halves to the larger number: a wrong whole number goes by neither of its laws

-- z is neither the nearest, of two as near the larger, nor within a half as the law has it
abbrev NotUp : ℤ → ℤ → ℤ → Type 0
NotUp num den z = (TiesUp num den z → ⊥) × (HalfUp num den z → ⊥)

not_up : (num den z : ℤ) → pos 0 <ℤ den → (z ≡ round_half_up num den → ⊥) → NotUp num den z
not_up num den z above differs =
    let law = round_half_up_lem num den above in (
      (λ ties. differs (ties_up_one num den z (round_half_up num den) ties (half_up_nearest num den (round_half_up num den) above law))),
      (λ half. differs (half_up_one num den z (round_half_up num den) above half law)),
    )

-- a refusal goes by neither
up_refused_instead : (num den : ℤ) (r : Refusal) → GoesUp num den (Err r) → ⊥
up_refused_instead num den r up = true≢false (ap is_refused up.gives)

-- a half goes away from zero
up_away : NotUp (neg_ℤ (pos 3)) (pos 2) (neg_ℤ (pos 2))
unfolding round_half_up
up_away = not_up _ _ _ (parts_lt (omega arith)) (λ e. omega (arith, ap nat_abs e))

-- a half goes to the smaller number
up_down : NotUp (pos 1) (pos 2) (pos 0)
unfolding round_half_up
up_down = not_up _ _ _ (parts_lt (omega arith)) (λ e. omega (arith, ap nat_abs e))

-- a half goes to the even number
up_even : NotUp (pos 5) (pos 2) (pos 2)
unfolding round_half_up
up_even = not_up _ _ _ (parts_lt (omega arith)) (λ e. omega (arith, ap nat_abs e))

-- two thirds go toward zero, below zero and above; and a whole number is moved up
up_truncated : NotUp (neg_ℤ (pos 2)) (pos 3) (pos 0)
unfolding round_half_up
up_truncated = not_up _ _ _ (parts_lt (omega arith)) (λ e. omega (arith, ap nat_abs e))

up_floored : NotUp (pos 2) (pos 3) (pos 0)
unfolding round_half_up
up_floored = not_up _ _ _ (parts_lt (omega arith)) (λ e. omega (arith, ap nat_abs e))

up_moved : NotUp (neg_ℤ (pos 4)) (pos 2) (neg_ℤ (pos 1))
unfolding round_half_up
up_moved = not_up _ _ _ (parts_lt (omega arith)) (λ e. omega (arith, ap nat_abs e))
