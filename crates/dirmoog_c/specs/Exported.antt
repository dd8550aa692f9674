-- What the exported calls owe: the promises of the entries under them, with the answer told in numbers.
use Rattle.std.specs.Prelude.{ℕ, ◌≡◌, List, set, ℤ}
use Rattle.single_fractions.specs.Round.{Rounded, whole_of}
use Rattle.single_fractions.specs.Slack.{SlackAnswer, slack_given}
use Rattle.ground.specs.Views.{Param}
use Rattle.sheet_checks.specs.Lent.{Read, Written, sheet_now}
use Rattle.layout.specs.Promise.{Promise}
use Rattle.ground.specs.Answers.{Answer, number_of, refused_place, ring_length_of}

-- the sheet that is lent list by list
abbrev pub sheet_of_lists : (wanted weight : Param ℤ) (left right : Param ℕ) (distance : Param ℤ) (kind : Param ℕ) → Read
sheet_of_lists wanted weight left right distance kind =
    sheet_now (record {
      wanted = wanted.entry;
      weight = weight.entry;
      left = left.entry;
      right = right.entry;
      distance = distance.entry;
      kind = kind.entry;
    })

-- two numbers told at the front of a lent list;
-- setting an entry that the list has not leaves it as it is, so what fits is told
abbrev pub told : {A : Type 0} → A → A → List A → List A
told first second out = set (set out 0 first) 1 second

-- a layout call keeps its promise with an answer whose number it returns, and whose place and ring length it tells
pub record Laid (r : Read) (w : Written) (out : List ℕ) (number : ℕ) (after : Written) (out_after : List ℕ) : Type 0 where
  pub answer : Answer
  pub kept : Promise r w answer after
  pub returned : number ≡ number_of answer
  pub out_told : out_after ≡ told (refused_place answer) (ring_length_of answer) out

-- the number of a rounding's answer returned, its whole number told; its place is 0 and is not told
pub record RoundTold (answer : Rounded) (out : List ℤ) (number : ℕ) (out_after : List ℤ) : Type 0 where
  pub returned : number ≡ number_of answer
  pub out_told : out_after ≡ set out 0 (whole_of answer)
  pub no_place : refused_place answer ≡ 0

-- the number of a slack's answer returned, its slack told as numerator and denominator; its place is 0 and is not told
pub record SlackTold (answer : SlackAnswer) (out : List ℤ) (number : ℕ) (out_after : List ℤ) : Type 0 where
  pub returned : number ≡ number_of answer
  pub out_told : out_after ≡ told (slack_given answer).num (slack_given answer).den out
  pub no_place : refused_place answer ≡ 0
