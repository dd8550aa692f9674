use Rattle.std.proofs.Common.{ℕ, sym, ap, add-one, arith}
use Rattle.text_listing.specs.Listing.{listable_of, slack_record, slack_records, printed_slack}
use Rattle.text_listing.proofs.Appending.{nothing, longer, then, told}
use Rattle.text_listing.proofs.Size.{length_slack_record}
use Rattle.text_listing.proofs.SlackSize.{printed_fits}
use Rattle.text_listing.proofs.slacks.put_slacks.Goals as goal

pub loop-e-init : goal.loop-e-init
unfolding slack_records
loop-e-init c = (nothing _, omega arith)

pub loop-e-preserved : goal.loop-e-preserved
unfolding slack_records
loop-e-preserved c =
    let l = listable_of c.args.lent in
    let e = c.loop-e.e in
    let i = c.loop-e.invariant in
    let p = told (ap (slack_record e) c.printed_slack.ensures) c.put_slack.ensures in (
      told (ap (λ (n : ℕ). slack_records n l) (sym (add-one e))) (then i.0 p),
      omega (
        arith,
        i.1,
        longer p,
        length_slack_record e (printed_slack l e) (omega (arith, c.requires.0.gaps)) (printed_fits l e),
      ),
    )
