-- The entry that rounds a single fraction to whole units, halves away from zero (document 01: "roundTiesToAway of IEEE 754")
-- or to the larger number, as the listing does (document 02, Item 4); and refusal 12.
use Rattle.std.specs.Prelude.{◌≡◌, cond, ℤ, pos, Result, Ok, Err}
use Rattle.ground.specs.declared.Refusal.{Refusal}
use Rattle.ground.specs.Answers.{number_of, refused_at}
use Rattle.exact.specs.Nearest.{round_ties_to_away, round_half_up, TiesUp, HalfUp}
use Rattle.single_fractions.specs.declared.Ties.{Ties}
use Rattle.single_fractions.specs.declared.Ties.TheVariants.{AwayFromZero, Up}
use Rattle.single_fractions.specs.Places.{within_places}

-- the answer: the whole unit, or a refusal
abbrev pub Rounded : Type 0
Rounded = Result ℤ Refusal

-- the whole number given: with 12 "the whole number given is 0"
abbrev pub whole_of : Rounded → ℤ
whole_of (Ok z) = z
whole_of (Err r) = pos 0

-- refusal 12, whose place is 0
abbrev pub refusal12 : Rounded
refusal12 = Err (refused_at 12 0)

-- the whole number by each rule for halves
abbrev pub whole_by : Ties → ℤ → ℤ → ℤ
whole_by AwayFromZero = round_ties_to_away
whole_by Up = round_half_up

-- the answer, the whole number or refusal 12: "12 guards both roundings"
unfoldable pub rounded : Ties → ℤ → ℤ → Rounded
rounded ties num den = cond (within_places num den) (Ok (whole_by ties num den)) refusal12

-- ---- the law of halves to the larger number, of every fraction not refused (`halves_up` in proofs/HalvesUp); that of halves
-- away from zero is `SixCases` in RoundingCases

pub record GoesUp (num den : ℤ) (answer : Rounded) : Type 0 where
  pub unit : ℤ
  pub gives : answer ≡ Ok unit
  -- no whole number is nearer than the one given, and another that is as near is smaller
  pub ties_up : TiesUp num den unit
  -- it is above num/den - 1/2, and at most num/den + 1/2
  pub half_up : HalfUp num den unit

abbrev pub HalvesUp : Type 0
HalvesUp = (num den : ℤ) → number_of (rounded Up num den) ≡ 0 → GoesUp num den (rounded Up num den)
