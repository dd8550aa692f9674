-- `text_listing::slacks::printed_slack` meets its contract: 0/1 where an end is no label, else what the entry over single
-- fractions gives for the two places.
use Rattle.std.proofs.Common.{◌∙◌, ap, FitsSigned, w64, rules}
use mir.ValLaws.{to_z-of_z}
use Rattle.ground.specs.Entries.{nat, int}
use Rattle.single_fractions.specs.Slack.{slack_answer, slack_given}
use Rattle.text_listing.specs.Listing.{listable_of}
use Rattle.text_listing.proofs.PrintedSlack.{left_missing, right_missing, slack_given_lem}
use Rattle.text_listing.proofs.slacks.printed_slack.Goals.{then-lent-u-via-then-lent-u, then-lent-u-via-else-lent-u+then-lent-v}
use Rattle.text_listing.proofs.slacks.printed_slack.Goals as goal

pub returns-then-lent-u : goal.returns-then-lent-u
returns-then-lent-u c =
    let a = c.args in
    let l = listable_of a.lent in
    elim c.then-lent-u.branch [
      | then-lent-u-via-then-lent-u w ↦ left_missing l a.e.0 w.if-lent-u.true
      | then-lent-u-via-else-lent-u+then-lent-v w ↦ right_missing l a.e.0 w.if-lent-u.false w.if-lent-v.true
    ]

pub returns : goal.returns
returns c =
    let a = c.args in
    let l = listable_of a.lent in
    let e = a.e.0 in
    let u = nat l.left e in
    let v = nat l.right e in
    let ln : FitsSigned w64 (int l.place_num u) = search rules in
    let ld : FitsSigned w64 (int l.place_den u) = search rules in
    let rn : FitsSigned w64 (int l.place_num v) = search rules in
    let rd : FitsSigned w64 (int l.place_den v) = search rules in
    let d : FitsSigned w64 (int l.distance e) = search rules in
    c.slack_given.ensures
    ∙ ap slack_given (c.slack.ensures ∙ (λ i. slack_answer
    (record { num = to_z-of_z w64 (int l.place_num u) ln i; den = to_z-of_z w64 (int l.place_den u) ld i })
    (record { num = to_z-of_z w64 (int l.place_num v) rn i; den = to_z-of_z w64 (int l.place_den v) rd i })
    (to_z-of_z w64 (int l.distance e) d i)))
    ∙ slack_given_lem l e c.if-lent-u.false c.if-lent-v.false
