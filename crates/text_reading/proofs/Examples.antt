-- The texts of document 01's own run, of document 02's mixed sheet (Item 3), of its labels that cross (Item 4) and of labels
-- joined rigidly (Item 6), read by computation.
use Prim.Native.Nat.{ℕ}
use mathlib.Core.Path.{◌≡◌, refl}
use mathlib.Core.List.{List, [], ◌∷◌}
use lib.IntN.{pos, negsuc}
use Rattle.ground.specs.Kinds.{at_least_byte, exactly_byte}
use Rattle.text_rows.specs.Bytes.{bytes}
use Rattle.text_rows.specs.Lines.{lines, fields}
use Rattle.text_rows.specs.Numeral.{all_digits, value_of, number, signed, weight_of, digits_of}
use Rattle.text_rows.specs.Taking.{same_bytes, row_of}
use Rattle.text_reading.specs.Texts.{Typed, sheet, read_from, outcome}
use Rattle.text_reading.specs.Printed.{label_record, gap_record, label_records, gap_records, printed}

abbrev pub document_text : List ℕ
document_text = bytes "label,0,0,1\r\nlabel,1,3,1\r\ngap,0,1,6\r\n"

abbrev pub document_sheet : Typed
document_sheet = record {
  labels = record { wanted = pos 0; weight = pos 1 } ∷ record { wanted = pos 3; weight = pos 1 } ∷ [];
  gaps = record { left = 0; right = 1; distance = pos 6; kind = at_least_byte } ∷ [];
}

-- document 02, Item 3: "wants 0 and 11, first weight blank, second 1, gap 22"
abbrev pub mixed_text : List ℕ
mixed_text = bytes "label,0,0,\r\nlabel,1,11,1\r\ngap,0,1,22\r\n"

-- its blank weight counts ten
abbrev pub mixed_sheet : Typed
mixed_sheet = record {
  labels = record { wanted = pos 0; weight = pos 10 } ∷ record { wanted = pos 11; weight = pos 1 } ∷ [];
  gaps = record { left = 0; right = 1; distance = pos 22; kind = at_least_byte } ∷ [];
}

-- document 02, Item 4: "wants 2 and -2, weights 1, gap 0 to 1 of -1"
abbrev pub crossing_text : List ℕ
crossing_text = bytes "label,0,2,1\r\nlabel,1,-2,1\r\ngap,0,1,-1\r\n"

abbrev pub crossing_sheet : Typed
crossing_sheet = record {
  labels = record { wanted = pos 2; weight = pos 1 } ∷ record { wanted = negsuc 1; weight = pos 1 } ∷ [];
  gaps = record { left = 0; right = 1; distance = negsuc 0; kind = at_least_byte } ∷ [];
}

-- document 02, Item 6: two labels joined rigidly, nearer to each other than they are wanted
abbrev pub pair_text : List ℕ
pair_text = bytes "label,0,0,1\r\nlabel,1,10,1\r\nsame,0,1,6\r\n"

abbrev pub pair_sheet : Typed
pair_sheet = record {
  labels = record { wanted = pos 0; weight = pos 1 } ∷ record { wanted = pos 10; weight = pos 1 } ∷ [];
  gaps = record { left = 0; right = 1; distance = pos 6; kind = exactly_byte } ∷ [];
}

-- three labels, the first two joined rigidly, the others a gap apart
abbrev pub joined_text : List ℕ
joined_text = bytes "label,0,0,1\r\nlabel,1,0,2\r\nlabel,2,9,1\r\nsame,0,1,4\r\ngap,1,2,3\r\n"

-- gaps of both kinds are numbered together, in the order of their records
abbrev pub joined_sheet : Typed
joined_sheet = record {
  labels =
      record { wanted = pos 0; weight = pos 1 } ∷ record { wanted = pos 0; weight = pos 2 }
      ∷ record { wanted = pos 9; weight = pos 1 } ∷ [];
  gaps =
      record { left = 0; right = 1; distance = pos 4; kind = exactly_byte }
      ∷ record { left = 1; right = 2; distance = pos 3; kind = at_least_byte } ∷ [];
}

-- the texts are read as their sheets
pub document_run : outcome document_text ≡ sheet document_sheet
unfolding lines fields all_digits value_of number signed weight_of same_bytes row_of read_from
document_run = refl

pub mixed_read : outcome mixed_text ≡ sheet mixed_sheet
unfolding lines fields all_digits value_of number signed weight_of same_bytes row_of read_from
mixed_read = refl

pub crossing_read : outcome crossing_text ≡ sheet crossing_sheet
unfolding lines fields all_digits value_of number signed weight_of same_bytes row_of read_from
crossing_read = refl

pub pair_read : outcome pair_text ≡ sheet pair_sheet
unfolding lines fields all_digits value_of number signed weight_of same_bytes row_of read_from
pair_read = refl

pub joined_read : outcome joined_text ≡ sheet joined_sheet
unfolding lines fields all_digits value_of number signed weight_of same_bytes row_of read_from
joined_read = refl

-- document 01's is the text that is written for its sheet, and so is that of joined labels
pub document_printed : printed document_sheet ≡ document_text
unfolding label_records gap_records label_record gap_record digits_of
document_printed = refl

pub joined_printed : printed joined_sheet ≡ joined_text
unfolding label_records gap_records label_record gap_record digits_of
joined_printed = refl
