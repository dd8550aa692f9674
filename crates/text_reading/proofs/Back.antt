-- Reading back: the text written for a sheet within the limits, with gaps of both kinds, is read as that sheet.
use Prim.Native.Nat.{ℕ, suc, ◌+◌, ◌*◌, ◌≤◌, ◌<◌, ◌^◌}
use mathlib.Core.Path.{◌≡◌, ◌∙◌}
use mathlib.Core.Bool.{true}
use mathlib.Core.List.{List, [], ◌∷◌, ◌++◌, append_assoc, append-nil}
use native.Mathlib.Omega.{arith}
use native.Mathlib.Nat.{add-suc, suc-add, add-zero}
use lib.Dec.{leb→le, le→leb}
use lib.ListN.{length, get_or, length-append}
use lib.Seq.{append_snoc}
use lib.IntN.{ℤ, pos, negsuc, nat_abs}
use lib.Signed.{◌≤ℤ◌}
use borrow.Author.Tests.{le-ltb}
use Rattle.ground.specs.declared.GapRecord.{GapRecord}
use Rattle.ground.specs.Entries.{no_record, Each}
use Rattle.ground.specs.Limits.{gaps_most, labels_most, weight_least, weight_most}
use Rattle.text_rows.specs.declared.LabelRow.{LabelRow}
use Rattle.std.specs.Prelude.{Ok}
use Rattle.text_rows.specs.Lines.{lines}
use Rattle.text_rows.specs.Numeral.{digits_most}
use Rattle.text_reading.specs.Texts.{text_most, Typed, nothing_typed, earlier_of, sheet, read_from, outcome, Lists, filled, room_for, counts_of, reading}
use Rattle.text_reading.specs.Printed.{label_record, gap_record, label_records, gap_records, printed, no_label, InLimits}
use Rattle.text_reading.proofs.Numerals.{each_at}
use Rattle.text_reading.proofs.Records.{LabelFits, GapFits, lines_label, lines_gap, taken_label, taken_gap, label_most, gap_most}

-- ---- rows read from their records

-- labels in turn from the count of those before
pub read_labels :
    (rs : List LabelRow) → Each LabelFits rs → (n : ℕ) (t : Typed) → length t.labels + length rs ≤ 10 ^ digits_most
    → (rest : List ℕ)
    → read_from (lines (label_records (length t.labels) rs ++ rest)) n t ≡ read_from (lines rest) (n + length rs) (record {
      labels =
          t.labels ++ rs;
      gaps = t.gaps;
    })
unfolding label_records read_from
read_labels [] fits n t h rest = rw (append-nil t.labels, add-zero n)
read_labels (r ∷ rs) fits n t h rest =
    let i = length t.labels in
    let longer : Typed = record { labels = t.labels ++ (r ∷ []); gaps = t.gaps } in
    let one_more : length longer.labels ≡ suc i = length-append t.labels (r ∷ []) ∙ omega arith in
    let small : i < 10 ^ digits_most = omega arith in
    rw (
      append_assoc (label_record i r) (label_records (suc i) rs) rest,
      lines_label i r (label_records (suc i) rs
          ++ rest),
      taken_label i r small fits.0,
      ← one_more,
    )
    (read_labels rs fits.1 (suc n) longer (omega arith) rest ∙ rw (append_snoc, suc-add, add-suc))

pub read_gaps :
    (gs : List GapRecord) → Each GapFits gs → (n : ℕ) (t : Typed) → read_from (lines (gap_records gs)) n t ≡ sheet
    (record { labels = t.labels; gaps = t.gaps ++ gs })
unfolding gap_records read_from lines
read_gaps [] fits n t = rw (append-nil t.gaps)
read_gaps (g ∷ gs) fits n t =
    rw (lines_gap g (gap_records gs), taken_gap (earlier_of t) g fits.0)
    (read_gaps gs fits.1 (suc n) (record { labels = t.labels; gaps = t.gaps ++ (g ∷ []) }) ∙ rw append_snoc)

-- ---- the length of the text

labels_bound :
    (rs : List LabelRow) → Each LabelFits rs → (i : ℕ) → i + length rs ≤ 10 ^ digits_most → length
    (label_records i rs) ≤ 40 * length rs
unfolding label_records
labels_bound [] fits i h = omega arith
labels_bound (r ∷ rs) fits i h =
    rw (length-append (label_record i r))
    (omega (arith, label_most i r (omega arith) fits.0, labels_bound rs fits.1 (suc i) (omega arith)))

gaps_bound : (gs : List GapRecord) → Each GapFits gs → length (gap_records gs) ≤ 40 * length gs
unfolding gap_records
gaps_bound [] fits = omega arith
gaps_bound (g ∷ gs) fits =
    rw (length-append (gap_record g)) (omega (arith, gap_most g fits.0, gaps_bound gs fits.1))

-- ---- sheets within the limits

weight_fits : (z : ℤ) → pos weight_least ≤ℤ z → z ≤ℤ pos weight_most → (pos 0 ≤ℤ z) × (nat_abs z < 10 ^ digits_most)
weight_fits (pos n) l m = (record { le = le→leb 0 n (omega arith) }, omega (arith, leb→le n weight_most m.le))
weight_fits (negsuc n) l m = absurd l.le

module _ (t : Typed) (lim : InLimits t) where
  labels_fit : Each LabelFits t.labels
  labels_fit = each_at LabelFits no_label t.labels at
    where
      at : (k : ℕ) → k < length t.labels → LabelFits (get_or t.labels k no_label)
      at k h =
          let w = weight_fits (get_or t.labels k no_label).weight (lim.weight_low k h) (lim.weight_high k h) in
          record { wanted = omega (arith, lim.wanted k h); weight = w.1; unsigned = w.0 }

  gaps_fit : Each GapFits t.gaps
  gaps_fit = each_at GapFits no_record t.gaps at
    where
      at : (k : ℕ) → k < length t.gaps → GapFits (get_or t.gaps k no_record)
      at k h = record {
        left = omega (arith, lim.left k h, lim.labels);
        right = omega (arith, lim.right k h, lim.labels);
        distance = omega (arith, lim.distance k h);
        kind = lim.kind k h;
      }

  -- 240 records at most
  pub printed_most : length (printed t) ≤ 9600
  printed_most =
      rw (length-append (label_records 0 t.labels))
      (omega (
        arith,
        lim.labels,
        lim.gaps,
        labels_bound t.labels labels_fit 0 (omega
            (arith, lim.labels)),
        gaps_bound t.gaps gaps_fit,
      ))

  pub outcome_back : outcome (printed t) ≡ sheet t
  outcome_back =
      read_labels t.labels labels_fit 1 nothing_typed (omega (arith, lim.labels)) (gap_records t.gaps)
      ∙ read_gaps t.gaps gaps_fit (1 + length t.labels) (record { labels = t.labels; gaps = [] })

-- the text of a sheet within the limits is read back, wherever the lists have room
pub read_back :
    (t : Typed) → InLimits t → (b : Lists) → room_for t b ≡ true → reading (printed t) b ≡ record {
      answer = Ok (counts_of t);
      lists = filled t b;
    }
unfolding reading
read_back t lim b room =
    rw (
      le-ltb text_most (length (printed t)) (omega
          (arith, printed_most t lim)),
      outcome_back t lim,
      le-ltb labels_most (length t.labels) lim.labels,
      le-ltb
          gaps_most (length t.gaps) lim.gaps,
      room,
    )
