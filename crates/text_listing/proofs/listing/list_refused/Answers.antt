-- `text_listing::listing::list_refused` meets its contract: the word, three fields and the end behind each other.
use Rattle.std.proofs.Common.{◌≤◌, ◌+◌, ◌++◌, ◌∙◌, List, ℕ, length, take, ap, rules, arith, Fits, w64}
use Rattle.text_rows.specs.Lines.{next, record_end}
use Rattle.text_rows.specs.Numeral.{decimal}
use Rattle.text_listing.specs.Listing.{laid, refused_record, refused_room}
use Rattle.text_listing.proofs.Appending.{longer, then}
use Rattle.text_listing.proofs.Size.{length_decimal_64}
use Rattle.text_listing.proofs.listing.list_refused.Goals as goal

pub put_number-requires : goal.put_number-requires
put_number-requires c =
    let number : Fits w64 c.args.refusal.number = search rules in
    let h : length (take c.put.new.self.end c.put.new.self.bytes) + length (next (decimal c.args.refusal.number)) ≤ refused_room =
    omega (arith, ap length c.new-text.ensures, longer c.put.ensures, length_decimal_64 c.args.refusal.number number) in
    (omega arith, h)

pub put_number-requires-2 : goal.put_number-requires-2
put_number-requires-2 c =
    let number : Fits w64 c.args.refusal.number = search rules in
    let place : Fits w64 c.args.refusal.place = search rules in
    let h : length (take c.put_number.new.self.end c.put_number.new.self.bytes) + length (next (decimal c.args.refusal.place)) ≤ refused_room =
    omega (
      arith,
      ap length c.new-text.ensures,
      longer c.put.ensures,
      longer c.put_number.ensures,
      length_decimal_64 c.args.refusal.number number,
      length_decimal_64 c.args.refusal.place place,
    ) in
    (omega arith, h)

pub put_number-requires-3 : goal.put_number-requires-3
put_number-requires-3 c =
    let number : Fits w64 c.args.refusal.number = search rules in
    let place : Fits w64 c.args.refusal.place = search rules in
    let h : length (take c.put_number-2.new.self.end c.put_number-2.new.self.bytes) + length (next (decimal c.args.field)) ≤ refused_room =
    omega (
      arith,
      ap length c.new-text.ensures,
      longer c.put.ensures,
      longer c.put_number.ensures,
      longer c.put_number-2.ensures,
      length_decimal_64 c.args.refusal.number number,
      length_decimal_64 c.args.refusal.place place,
      length_decimal_64 c.args.field c.ranges.field,
    ) in
    (omega arith, h)

pub put-requires-2 : goal.put-requires-2
put-requires-2 c =
    let number : Fits w64 c.args.refusal.number = search rules in
    let place : Fits w64 c.args.refusal.place = search rules in
    let h : length (take c.put_number-3.new.self.end c.put_number-3.new.self.bytes) + length (record_end) ≤ refused_room =
    omega (
      arith,
      ap length c.new-text.ensures,
      longer c.put.ensures,
      longer c.put_number.ensures,
      longer c.put_number-2.ensures,
      longer c.put_number-3.ensures,
      length_decimal_64 c.args.refusal.number number,
      length_decimal_64 c.args.refusal.place place,
      length_decimal_64 c.args.field c.ranges.field,
    ) in
    (omega arith, h)

pub returns : goal.returns
unfolding refused_record
returns c =
    let r = refused_record c.args.refusal c.args.field in
    let put = then c.put.ensures (then c.put_number.ensures (then c.put_number-2.ensures (then c.put_number-3.ensures c.put-2.ensures))) in
    c.lay.ensures
    ∙ ap (λ (text : List ℕ). laid text c.args.out.now) (c.as_bytes.ensures ∙ put.joined ∙ ap (λ (t : List ℕ). t ++ r) c.new-text.ensures)
