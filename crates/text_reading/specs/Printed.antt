-- The text that a person would write for a sheet: its labels in order, then its gaps, every record ended by CRLF. It is read
-- back to the sheet (`read_back` in proofs/Back).
use Rattle.std.specs.Prelude.{ℕ, suc, ◌≤◌, ◌<◌, List, [], ◌∷◌, ◌++◌, length, get_or, pos, nat_abs, ◌≤ℤ◌}
use Rattle.ground.specs.declared.GapRecord.{GapRecord}
use Rattle.ground.specs.Entries.{no_record}
use Rattle.ground.specs.Kinds.{exactly_byte}
use Rattle.text_rows.specs.declared.LabelRow.{LabelRow}
use Rattle.text_rows.specs.Numeral.{decimal, signed_decimal}
use Rattle.text_rows.specs.Taking.{label_word, kind_word}
use Rattle.text_rows.specs.Lines.{record_of}
use Rattle.text_reading.specs.Texts.{Typed}
use Rattle.ground.specs.Limits.{distance_most, gaps_most, labels_most, wanted_most, weight_least, weight_most}

-- the record of a label with its number, and of a gap by the word of its kind
unfoldable pub label_record : ℕ → LabelRow → List ℕ
label_record i r = record_of label_word (decimal i) (signed_decimal r.wanted) (signed_decimal r.weight)

unfoldable pub gap_record : GapRecord → List ℕ
gap_record g = record_of (kind_word g.kind) (decimal g.left) (decimal g.right) (signed_decimal g.distance)

-- the records of labels from a number on, and of gaps
unfoldable pub label_records : ℕ → List LabelRow → List ℕ
label_records i [] = []
label_records i (r ∷ rs) = label_record i r ++ label_records (suc i) rs

unfoldable pub gap_records : List GapRecord → List ℕ
gap_records [] = []
gap_records (g ∷ gs) = gap_record g ++ gap_records gs

-- the whole text
abbrev pub printed : Typed → List ℕ
printed t = label_records 0 t.labels ++ gap_records t.gaps

-- no label: what stands past the end of a list of labels
abbrev pub no_label : LabelRow
no_label = record { wanted = pos 0; weight = pos 0 }

-- a sheet within the limits of document 01's table, its kinds document 02's
pub record InLimits (t : Typed) : Type 0 where
  pub labels : length t.labels ≤ labels_most
  pub gaps : length t.gaps ≤ gaps_most
  pub wanted : (k : ℕ) → k < length t.labels → nat_abs (get_or t.labels k no_label).wanted ≤ wanted_most
  pub weight_low : (k : ℕ) → k < length t.labels → pos weight_least ≤ℤ (get_or t.labels k no_label).weight
  pub weight_high : (k : ℕ) → k < length t.labels → (get_or t.labels k no_label).weight ≤ℤ pos weight_most
  pub left : (k : ℕ) → k < length t.gaps → (get_or t.gaps k no_record).left < length t.labels
  pub right : (k : ℕ) → k < length t.gaps → (get_or t.gaps k no_record).right < length t.labels
  pub distance : (k : ℕ) → k < length t.gaps → nat_abs (get_or t.gaps k no_record).distance ≤ distance_most
  pub kind : (k : ℕ) → k < length t.gaps → (get_or t.gaps k no_record).kind ≤ exactly_byte
