-- What a wrong slack would say, and that it is not the definition's: a sign turned, lowest terms not taken,
-- and the distance refused before a place. Nothing cites them.
use mathlib.Core.Path.{ap}
use mathlib.Core.Logic.{◌≢◌}
use native.Mathlib.Omega.{arith}
use lib.IntN.{pos, nat_abs}
use Rattle.std.specs.Prelude.{Ok}
use Rattle.single_fractions.specs.Places.{within_places}
use Rattle.exact.specs.Slack.{euclid, lowest_of}
use Rattle.ground.specs.Answers.{number_of}
use Rattle.single_fractions.specs.Slack.{refusal, slack_answer, slack_given, SlackAnswer}
use Rattle.algebra.proofs.Whole.{pp}

-- 1/2 is right of 1/3: the gap is broken by 1/6, and is not held by it
turned_sign : slack_answer (record { num = pos 1; den = pos 2 }) (record { num = pos 1; den = pos 3 }) (pos 0) ≢ Ok (record { num = pos 1; den = pos 6 })
unfolding slack_answer within_places lowest_of euclid
turned_sign e = omega (arith, ap (λ (a : SlackAnswer). pp (slack_given a).num) e)

-- 6/4 and 10/4 are 1 apart: that is 0/1, and not 0/16
not_reduced : slack_answer (record { num = pos 6; den = pos 4 }) (record { num = pos 10; den = pos 4 }) (pos 1) ≢ Ok (record { num = pos 0; den = pos 16 })
unfolding slack_answer within_places lowest_of euclid
not_reduced e = omega (arith, ap (λ (a : SlackAnswer). nat_abs (slack_given a).den) e)

-- a place and the distance are both past their limits: the place is refused
distance_first : slack_answer (record { num = pos 1; den = pos 0 }) (record { num = pos 1; den = pos 1 }) (pos 30000) ≢ refusal 8
unfolding slack_answer within_places
distance_first e = omega (arith, ap number_of e)
