-- Rounding by six cases (document 02, Item 2), to be read beside IEEE 754's roundTiesToAway with the whole numbers as the
-- representable ones. All of it is meant for a denominator above zero, which every fraction not refused has. There is no
-- -0: -1/3 gives 0.
use Rattle.std.specs.Prelude.{◌≡◌, ℕ, ◌+◌, ◌*◌, ◌/◌, ◌%◌, ◌≤◌, ◌<◌, ℤ, pos, neg_ℤ, nat_abs, ◌≤ℤ◌, ◌<ℤ◌, Ok}
use Rattle.std.specs.declared.cmp.Ordering.{Ordering}
use Rattle.std.specs.declared.cmp.Ordering.TheVariants.{Less, Equal, Greater}
use Rattle.ground.specs.Answers.{number_of}
use Rattle.exact.specs.Nearest.{off, TiesToAway}
use Rattle.single_fractions.specs.declared.Ties.TheVariants.{AwayFromZero}
use Rattle.single_fractions.specs.Round.{Rounded, rounded, whole_of}

-- ---- the cases

-- "zero or above and below zero"
pub data Side : Type 0 where
  zero_or_above : Side
  below_zero : Side

-- the side of num/den is that of num
abbrev pub HasSide : Side → ℤ → Type 0
HasSide zero_or_above num = pos 0 ≤ℤ num
HasSide below_zero num = num <ℤ pos 0

-- x is under, at or over y: Less, Equal or Greater
abbrev pub Stands : Ordering → ℕ → ℕ → Type 0
Stands Less x y = x < y
Stands Equal x y = x ≡ y
Stands Greater x y = y < x

-- "the remainder of the magnitude under, at or over half": twice the remainder against the denominator
abbrev pub AgainstHalf : Ordering → ℤ → ℤ → Type 0
AgainstHalf half num den = Stands half (2 * (nat_abs num % nat_abs den)) (nat_abs den)

-- "the six": a side of zero, "and for each" one of the three
pub record Case : Type 0 where
  pub side : Side
  pub half : Ordering

-- num/den falls in a case
abbrev pub InCase : Case → ℤ → ℤ → Type 0
InCase c num den = HasSide c.side num × AgainstHalf c.half num den

-- ---- what each gives

-- magnitude m with the sign of a side; 0 on either
abbrev pub signed : Side → ℕ → ℤ
signed zero_or_above m = pos m
signed below_zero m = neg_ℤ (pos m)

-- "the whole part", toward zero: that of -7/3 is -2
abbrev pub whole_part : Side → ℤ → ℤ → ℤ
whole_part side num den = signed side (nat_abs num / nat_abs den)

-- "the next whole number away from zero"
abbrev pub next_away : Side → ℤ → ℤ → ℤ
next_away side num den = signed side (nat_abs num / nat_abs den + 1)

-- "under half gives the whole part, the others the next whole number away from zero"
abbrev pub given : Side → Ordering → ℤ → ℤ → ℤ
given side Less = whole_part side
given side Equal = next_away side
given side Greater = next_away side

-- ---- beside IEEE 754's text

-- the whole part and the next whole number bracket the magnitude; a whole number is its own whole part, and so under half
abbrev pub Bracketed : ℤ → ℤ → Type 0
Bracketed num den = (nat_abs num / nat_abs den * nat_abs den ≤ nat_abs num) × (nat_abs num < (nat_abs num / nat_abs den + 1) * nat_abs den)

-- ---- the law of an answer that is no refusal

pub record ByCases (num den : ℤ) (answer : Rounded) : Type 0 where
  -- "falls in exactly one of the six"
  pub one_case : (c : Case) × InCase c num den × ((d : Case) → InCase d num den → d ≡ c)
  -- "under half gives the whole part, the others the next whole number away from zero"
  pub gives : (c : Case) → InCase c num den → answer ≡ Ok (given c.side c.half num den)
  -- between which two it lies; the whole part is the nearer under half, as near as the next at half, and further off over
  pub bracketed : Bracketed num den
  pub nearer : (c : Case) → InCase c num den → Stands c.half (off num den (whole_part c.side num den)) (off num den (next_away c.side num den))
  -- and the whole number given is IEEE 754's
  pub ties_to_away : TiesToAway num den (whole_of answer)

-- "every fraction not refused": of `rounded AwayFromZero num den`, which is what `round` promises to answer there, where its
-- number is 0. Shown by `six_cases` in proofs/RoundingCases
abbrev pub SixCases : Type 0
SixCases = (num den : ℤ) → number_of (rounded AwayFromZero num den) ≡ 0 → ByCases num den (rounded AwayFromZero num den)
