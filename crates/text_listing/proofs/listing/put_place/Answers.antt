-- `text_listing::listing::put_place` meets its contract: the word, four fields and the end behind each other; no
-- field is longer than its share of the room.
use Rattle.std.proofs.Common.{◌≡◌, ◌≤◌, ◌+◌, ◌++◌, length, take, subst, sym, ◌∙◌, ℤ, FitsSigned, to_z, of_z, w64, arith}
use mir.ValLaws.{to_z-of_z}
use Rattle.algebra.proofs.Quotient.{kept}
use Rattle.text_rows.specs.Numeral.{decimal, signed_decimal}
use Rattle.text_listing.specs.Listing.{listing_room, place_word, place_record, unit_of}
use Rattle.text_rows.specs.Lines.{next, record_end}
use Rattle.text_listing.proofs.Appending.{longer, then, told}
use Rattle.text_rows.proofs.Decimal.{length_signed_kept}
use Rattle.text_listing.proofs.Size.{length_label, length_whole}
use Rattle.text_listing.proofs.listing.put_place.Goals as goal

-- the whole unit, as it is read back
unit :
    {num den r : ℤ} → FitsSigned w64 num → FitsSigned w64 den → FitsSigned w64 r
    → r ≡ unit_of (to_z w64 (of_z w64 num)) (to_z w64 (of_z w64 den)) → kept r ≡ unit_of num den
unit {num} {den} {r} fn fd fr e =
    to_z-of_z w64 r fr ∙ e ∙ (λ i. unit_of (to_z-of_z w64 num fn i) (to_z-of_z w64 den fd i))

unit_length :
    {num den r : ℤ} → FitsSigned w64 num → FitsSigned w64 den → FitsSigned w64 r
    → r ≡ unit_of (to_z w64 (of_z w64 num)) (to_z w64 (of_z w64 den)) → length (signed_decimal (kept r)) ≤ 11
unit_length {num} {den} fn fd fr e =
    subst (λ (v : ℤ). length (signed_decimal v) ≤ 11) (sym (unit fn fd fr e)) (length_whole num den)

pub put_number-requires : goal.put_number-requires
put_number-requires c =
    let h : length (take c.put.new.self.end c.put.new.self.bytes) + length (next (decimal c.args.label.0)) ≤ listing_room =
    omega (arith, longer c.put.ensures, length_label c.args.label.0 c.requires.0) in
    (omega arith, h)

pub put_signed-requires : goal.put_signed-requires
put_signed-requires c =
    let h : length (take c.put_number.new.self.end c.put_number.new.self.bytes) + length (next (signed_decimal (kept c.args.num))) ≤ listing_room =
    omega (
      arith,
      longer c.put.ensures,
      longer c.put_number.ensures,
      length_label c.args.label.0 c.requires.0,
      length_signed_kept c.args.num c.ranges.num,
    ) in
    (omega arith, h)

pub put_signed-requires-2 : goal.put_signed-requires-2
put_signed-requires-2 c =
    let h : length (take c.put_signed.new.self.end c.put_signed.new.self.bytes) + length (next (signed_decimal (kept c.args.den))) ≤ listing_room =
    omega (
      arith,
      longer c.put.ensures,
      longer c.put_number.ensures,
      longer c.put_signed.ensures,
      length_label c.args.label.0 c.requires.0,
      length_signed_kept c.args.num c.ranges.num,
      length_signed_kept c.args.den c.ranges.den,
    ) in
    (omega arith, h)

pub put_signed-requires-3 : goal.put_signed-requires-3
put_signed-requires-3 c =
    let h : length (take c.put_signed-2.new.self.end c.put_signed-2.new.self.bytes) + length (next (signed_decimal (kept c.whole_unit.result))) ≤ listing_room =
    omega (
      arith,
      longer c.put.ensures,
      longer c.put_number.ensures,
      longer c.put_signed.ensures,
      longer c.put_signed-2.ensures,
      length_label c.args.label.0 c.requires.0,
      length_signed_kept c.args.num c.ranges.num,
      length_signed_kept c.args.den c.ranges.den,
      unit_length c.ranges.num c.ranges.den (record { sfits = c.whole_unit.type_inv }) c.whole_unit.ensures,
    ) in
    (omega arith, h)

pub put-requires-2 : goal.put-requires-2
put-requires-2 c =
    let h : length (take c.put_signed-3.new.self.end c.put_signed-3.new.self.bytes) + length (record_end) ≤ listing_room =
    omega (
      arith,
      longer c.put.ensures,
      longer c.put_number.ensures,
      longer c.put_signed.ensures,
      longer c.put_signed-2.ensures,
      longer c.put_signed-3.ensures,
      length_label c.args.label.0 c.requires.0,
      length_signed_kept c.args.num c.ranges.num,
      length_signed_kept c.args.den c.ranges.den,
      unit_length c.ranges.num c.ranges.den (record { sfits = c.whole_unit.type_inv }) c.whole_unit.ensures,
    ) in
    (omega arith, h)

pub returns : goal.returns
unfolding place_record
returns c =
    let a = c.args in
    let whole : kept c.whole_unit.result ≡ unit_of a.num a.den =
    unit c.ranges.num c.ranges.den (record { sfits = c.whole_unit.type_inv }) c.whole_unit.ensures in
    told
    (λ i. place_word ++ (next (decimal a.label.0) ++ (next (signed_decimal (to_z-of_z w64 a.num c.ranges.num i))
    ++ (next (signed_decimal (to_z-of_z w64 a.den c.ranges.den i)) ++ (next (signed_decimal (whole i)) ++ record_end)))))
    (then c.put.ensures (then c.put_number.ensures (then c.put_signed.ensures (then c.put_signed-2.ensures (then c.put_signed-3.ensures c.put-2.ensures)))))
