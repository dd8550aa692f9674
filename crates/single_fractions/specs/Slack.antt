-- The entry that gives the slack of a gap between two single fractions (document 02, Item 1), with refusals 12 and 8.
use Rattle.std.specs.Prelude.{ℕ, Bool, cond, ◌&&◌, leb, ℤ, pos, nat_abs, Result, Ok, Err}
use Rattle.ground.specs.declared.Refusal.{Refusal}
use Rattle.ground.specs.Answers.{refused_at}
use Rattle.ground.specs.Limits.{distance_most}
use Rattle.exact.specs.declared.Fraction.{Fraction}
use Rattle.exact.specs.Fraction.{whole}
use Rattle.exact.specs.Slack.{slack_between}
use Rattle.single_fractions.specs.Places.{within_places}

-- what refusal 8 is not met by: a distance within 20,000 either way
abbrev pub within_distance : ℤ → Bool
within_distance distance = leb (nat_abs distance) distance_most

-- the answer: the slack, or a refusal
abbrev pub SlackAnswer : Type 0
SlackAnswer = Result Fraction Refusal

-- the slack given: of a refusal "with place 0 and slack 0/1"
abbrev pub slack_given : SlackAnswer → Fraction
slack_given (Ok q) = q
slack_given (Err r) = whole (pos 0)

-- a refusal, whose place is 0
abbrev pub refusal : ℕ → SlackAnswer
refusal number = Err (refused_at number 0)

-- "an entry over single fractions gives 12 for either place, then 8 for the distance"
unfoldable pub slack_answer : (left right : Fraction) (distance : ℤ) → SlackAnswer
slack_answer left right distance =
    cond (within_places left.num left.den && within_places right.num right.den)
    (cond (within_distance distance) (Ok (slack_between left right distance)) (refusal 8))
    (refusal 12)
