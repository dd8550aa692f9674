-- Samples of the rounding, of its cases and of the slack. Nothing cites them.
use mathlib.Core.Path.{◌≡◌, refl}
use native.Mathlib.Omega.{arith}
use lib.IntN.{ℤ, pos, negsuc, neg_ℤ}
use Rattle.algebra.proofs.Whole.{parts_le, parts_lt}
use Rattle.exact.specs.declared.Fraction.{Fraction}
use Rattle.std.specs.Prelude.{Ok}
use Rattle.single_fractions.specs.Places.{within_places}
use Rattle.exact.specs.Nearest.{round_ties_to_away, round_half_up}
use Rattle.ground.specs.Answers.{number_of}
use Rattle.single_fractions.specs.Round.{rounded}
use Rattle.single_fractions.specs.declared.Ties.TheVariants.{AwayFromZero}
use Rattle.std.specs.declared.cmp.Ordering.TheVariants.{Less, Equal}
use Rattle.single_fractions.specs.RoundingCases.{zero_or_above, below_zero, InCase, next_away}
use Rattle.exact.specs.Slack.{euclid, lowest_of}
use Rattle.single_fractions.specs.Slack.{refusal, slack_answer}

-- ---- rounding: a half goes away from zero on either side

minus_three_halves : round_ties_to_away (negsuc 2) (pos 2) ≡ negsuc 1
unfolding round_ties_to_away
minus_three_halves = refl

nine_halves : round_ties_to_away (pos 9) (pos 2) ≡ pos 5
unfolding round_ties_to_away
nine_halves = refl

-- ---- and to the larger number, with no -0 (document 02, Item 4)

up_minus_five_halves : round_half_up (negsuc 4) (pos 2) ≡ negsuc 1
unfolding round_half_up
up_minus_five_halves = refl

up_minus_three_halves : round_half_up (negsuc 2) (pos 2) ≡ negsuc 0
unfolding round_half_up
up_minus_three_halves = refl

up_minus_two_thirds : round_half_up (negsuc 1) (pos 3) ≡ negsuc 0
unfolding round_half_up
up_minus_two_thirds = refl

up_minus_half : round_half_up (negsuc 0) (pos 2) ≡ pos 0
unfolding round_half_up
up_minus_half = refl

up_half : round_half_up (pos 1) (pos 2) ≡ pos 1
unfolding round_half_up
up_half = refl

-- ---- the six cases: a fraction that is not refused, and where a reader may doubt in which case one falls

not_refused : number_of (rounded AwayFromZero (neg_ℤ (pos 3)) (pos 2)) ≡ 0
unfolding rounded within_places
not_refused = refl

-- 0/1 is zero or above, under half
zero : InCase (record { side = zero_or_above; half = Less }) (pos 0) (pos 1)
zero = (parts_le (omega arith), omega arith)

-- -4/2 is below zero, under half, and so is -1/3, which gives 0
minus_two : InCase (record { side = below_zero; half = Less }) (neg_ℤ (pos 4)) (pos 2)
minus_two = (parts_lt (omega arith), omega arith)

minus_third : InCase (record { side = below_zero; half = Less }) (neg_ℤ (pos 1)) (pos 3)
minus_third = (parts_lt (omega arith), omega arith)

-- -1/2 is below zero, at half, whose next whole number away from zero is -1
minus_half : InCase (record { side = below_zero; half = Equal }) (neg_ℤ (pos 1)) (pos 2)
minus_half = (parts_lt (omega arith), refl)

minus_half_next : next_away below_zero (neg_ℤ (pos 1)) (pos 2) ≡ neg_ℤ (pos 1)
minus_half_next = refl

-- ---- the slack: the samples of document 02, Item 1

abbrev over : ℤ → ℤ → Fraction
over num den = record { num = num; den = den }

-- -3/2 and 9/2 are 6 apart
tight : slack_answer (over (neg_ℤ (pos 3)) (pos 2)) (over (pos 9) (pos 2)) (pos 6) ≡ Ok (over (pos 0) (pos 1))
unfolding slack_answer within_places lowest_of euclid
tight = refl

-- the places need not be in lowest terms, and the slack is
not_lowest : slack_answer (over (pos 6) (pos 4)) (over (pos 10) (pos 4)) (pos 1) ≡ Ok (over (pos 0) (pos 1))
unfolding slack_answer within_places lowest_of euclid
not_lowest = refl

-- a gap that is broken
broken : slack_answer (over (pos 1) (pos 2)) (over (pos 1) (pos 3)) (pos 0) ≡ Ok (over (neg_ℤ (pos 1)) (pos 6))
unfolding slack_answer within_places lowest_of euclid
broken = refl

-- a distance below zero
distance_below_zero : slack_answer (over (pos 2) (pos 4)) (over (pos 2) (pos 4)) (neg_ℤ (pos 1)) ≡ Ok (over (pos 1) (pos 1))
unfolding slack_answer within_places lowest_of euclid
distance_below_zero = refl

-- 12 comes before 8
place_and_distance : slack_answer (over (pos 1) (pos 0)) (over (pos 1) (pos 1)) (pos 30000) ≡ refusal 12
unfolding slack_answer within_places
place_and_distance = refl

distance_past : slack_answer (over (pos 0) (pos 1)) (over (pos 0) (pos 1)) (pos 20001) ≡ refusal 8
unfolding slack_answer within_places
distance_past = refl

numerator_past : slack_answer (over (pos 5472000001) (pos 1)) (over (pos 0) (pos 1)) (pos 0) ≡ refusal 12
unfolding slack_answer within_places
numerator_past = refl

denominator_past : slack_answer (over (pos 0) (pos 4801)) (over (pos 0) (pos 1)) (pos 0) ≡ refusal 12
unfolding slack_answer within_places
denominator_past = refl

-- every number at a limit
at_limits : slack_answer (over (neg_ℤ (pos 5472000000)) (pos 4799)) (over (pos 5472000000) (pos 4800)) (neg_ℤ (pos 20000)) ≡ Ok (over (pos 11038840000) (pos 4799))
unfolding slack_answer within_places lowest_of euclid
at_limits = refl
