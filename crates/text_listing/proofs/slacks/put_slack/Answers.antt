-- `text_listing::slacks::put_slack` meets its contract: the word, three fields and the end behind each other; no
-- field is longer than its share of the room.
use Rattle.std.proofs.Common.{◌≤◌, ◌+◌, ◌++◌, length, take, w64, arith, rules}
use mir.ValLaws.{to_z-of_z}
use Rattle.algebra.proofs.Quotient.{kept}
use Rattle.text_rows.specs.Numeral.{decimal, signed_decimal}
use Rattle.text_rows.specs.Lines.{next, record_end}
use Rattle.text_rows.proofs.Decimal.{length_signed_kept}
use Rattle.text_listing.specs.Listing.{listing_room, slack_word, slack_record}
use Rattle.text_listing.proofs.Appending.{longer, then, told}
use Rattle.text_listing.proofs.Size.{length_gap}
use Rattle.text_listing.proofs.SlackSize.{FractionFits}
use Rattle.text_listing.proofs.slacks.put_slack.Goals as goal

pub put_number-requires : goal.put_number-requires
put_number-requires c =
    let h : length (take c.put.new.self.end c.put.new.self.bytes) + length (next (decimal c.args.e.0)) ≤ listing_room =
    omega (arith, longer c.put.ensures, length_gap c.args.e.0 c.requires.0) in
    (omega arith, h)

pub put_signed-requires : goal.put_signed-requires
put_signed-requires c =
    let fits : FractionFits c.args.slack = search rules in
    let h : length (take c.put_number.new.self.end c.put_number.new.self.bytes) + length (next (signed_decimal (kept c.args.slack.num))) ≤ listing_room =
    omega (
      arith,
      longer c.put.ensures,
      longer c.put_number.ensures,
      length_gap c.args.e.0 c.requires.0,
      length_signed_kept c.args.slack.num fits.0,
    ) in
    (omega arith, h)

pub put_signed-requires-2 : goal.put_signed-requires-2
put_signed-requires-2 c =
    let fits : FractionFits c.args.slack = search rules in
    let h : length (take c.put_signed.new.self.end c.put_signed.new.self.bytes) + length (next (signed_decimal (kept c.args.slack.den))) ≤ listing_room =
    omega (
      arith,
      longer c.put.ensures,
      longer c.put_number.ensures,
      longer c.put_signed.ensures,
      length_gap c.args.e.0 c.requires.0,
      length_signed_kept c.args.slack.num fits.0,
      length_signed_kept c.args.slack.den fits.1,
    ) in
    (omega arith, h)

pub put-requires-2 : goal.put-requires-2
put-requires-2 c =
    let fits : FractionFits c.args.slack = search rules in
    let h : length (take c.put_signed-2.new.self.end c.put_signed-2.new.self.bytes) + length (record_end) ≤ listing_room =
    omega (
      arith,
      longer c.put.ensures,
      longer c.put_number.ensures,
      longer c.put_signed.ensures,
      longer c.put_signed-2.ensures,
      length_gap c.args.e.0 c.requires.0,
      length_signed_kept c.args.slack.num fits.0,
      length_signed_kept c.args.slack.den fits.1,
    ) in
    (omega arith, h)

pub returns : goal.returns
unfolding slack_record
returns c =
    let a = c.args in
    let fits : FractionFits a.slack = search rules in
    told
    (λ i. slack_word ++ (next (decimal a.e.0) ++ (next (signed_decimal (to_z-of_z w64 a.slack.num fits.0 i))
    ++ (next (signed_decimal (to_z-of_z w64 a.slack.den fits.1 i)) ++ record_end))))
    (then c.put.ensures (then c.put_number.ensures (then c.put_signed.ensures (then c.put_signed-2.ensures c.put-2.ensures))))
