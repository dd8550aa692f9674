-- The number and the two numbers told are those of the slack's answer.
use Rattle.std.proofs.Common.{◌≡◌, ◌∙◌, ap, rules, w64, FitsSigned, to_z-of_z}
use Rattle.ground.specs.Answers.{number_of}
use Rattle.exact.specs.declared.Fraction.{Fraction}
use Rattle.single_fractions.specs.Slack.{SlackAnswer, slack_answer, slack_given}
use Rattle.dirmoog_c.proofs.Telling.{told_both, slack_place}
use Rattle.dirmoog_c.proofs.dirmoog_slack.Goals as goal

pub returns : goal.returns
returns c =
    let a = c.args in
    -- the answer that is asked for
    let asked : SlackAnswer =
    slack_answer (record { num = a.left_num; den = a.left_den }) (record { num = a.right_num; den = a.right_den }) a.distance in
    -- no number changes on the way to it
    let answered : c.slack-answer.result ≡ asked =
    rw (
      to_z-of_z c.ranges.left_num,
      to_z-of_z c.ranges.left_den,
      to_z-of_z c.ranges.right_num,
      to_z-of_z c.ranges.right_den,
      to_z-of_z c.ranges.distance,
    ) at c.slack-answer.ensures in
    let told = c.slack_given-given.result in
    let given : told ≡ slack_given asked =
    c.slack_given-given.ensures ∙ ap slack_given answered in
    -- the numbers told, as they are read back
    let num_fits : FitsSigned w64 told.num = search rules in
    let den_fits : FitsSigned w64 told.den = search rules in
    record {
      returned = c.number_of.ensures ∙ ap (λ (r : SlackAnswer). number_of r) answered;
      out_told = told_both a.out.now c.put.new.out c.put.ensures
          (to_z-of_z num_fits ∙ ap (λ (q : Fraction). q.num) given) c.put-2.ensures
          (to_z-of_z den_fits ∙ ap (λ (q : Fraction). q.den) given);
      no_place = slack_place _ _ _;
    }
