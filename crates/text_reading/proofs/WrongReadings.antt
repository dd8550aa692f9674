-- Texts that a wrong reader would answer otherwise (document 01, "Sheet text" and "Refusal table"; document 02,
-- Items 3, 5 and 6).
use Prim.Native.Nat.{ℕ, suc, ◌≤◌}
use mathlib.Core.Path.{◌≡◌, refl, sym, ap, ◌∙◌}
use mathlib.Core.List.{List, [], ◌∷◌}
use native.Mathlib.Omega.{arith}
use lib.ListN.{length, replicate}
use lib.IntN.{pos}
use Rattle.ground.specs.Kinds.{at_least_byte, exactly_byte}
use Rattle.ground.specs.Limits.{gaps_most}
use Rattle.text_rows.specs.Bytes.{bytes}
use Rattle.text_rows.specs.Lines.{lines, fields}
use Rattle.text_rows.specs.Numeral.{all_digits, value_of, number, signed, weight_of}
use Rattle.text_rows.specs.Taking.{no_field, same_bytes, row_of}
use Rattle.std.specs.Prelude.{Ok}
use Rattle.text_reading.specs.Texts.{text_most, Typed, Outcome, bad_line, sheet, read_from, outcome, Lists, filled, room_for, refused_with, judged, reading}
use Rattle.text_reading.specs.Readings.{unread}
use Rattle.text_reading.proofs.Examples.{document_text, joined_text}
use Rattle.text_reading.proofs.ReadLaws.{long_text, short_text}

-- the line told is the first bad one, not the next, though 10 comes before 15 within a line
pub bad_line_told : outcome (bytes "label,0,0,1\r\nlabel,5,0,1\r\nx\r\n") ≡ bad_line 2 15 2
unfolding lines fields all_digits value_of number signed weight_of same_bytes row_of read_from
bad_line_told = refl

-- a line with an unknown word after 49 labels is 13 at its line; that 1 does not come before it is `line_first`
abbrev labels_49 : Typed
labels_49 = record { labels = replicate 49 (record { wanted = pos 0; weight = pos 1 }); gaps = [] }

pub crowded_later : read_from (bytes "x,0,0,1" ∷ []) 50 labels_49 ≡ bad_line 50 13 1
unfolding fields same_bytes row_of read_from
crowded_later = refl

-- a bad line is refused with its own number, line and field, whatever else is wrong: neither 1, 2 nor 4 comes before it, and
-- a short text has no 11
pub line_first :
    (text : List ℕ) (b : Lists) (n number field : ℕ) → length text ≤ text_most → outcome text ≡ bad_line n number field
    → reading text b ≡ refused_with number n field b
line_first text b n number field short bad = short_text text b short ∙ ap (λ (o : Outcome). judged o b) bad

-- a CR at the end of the input belongs to its field, the fourth
pub lone_return : outcome (bytes "label,0,0,1\r\nlabel,1,3,1\r") ≡ bad_line 2 14 4
unfolding lines fields all_digits value_of number signed weight_of same_bytes row_of read_from
lone_return = refl

-- a CR before a LF ends the line, so the weight before it is blank, and counts ten: not one, not zero
pub blank_before_crlf : outcome (bytes "label,0,0,\r\n") ≡ sheet (record { labels = record { wanted = pos 0; weight = pos 10 } ∷ []; gaps = [] })
unfolding lines fields all_digits value_of number signed weight_of same_bytes row_of read_from
blank_before_crlf = refl

-- a CR alone at the end of the input is no blank weight
pub return_for_weight : outcome (bytes "label,0,0,\r") ≡ bad_line 1 14 4
unfolding lines fields all_digits value_of number signed weight_of same_bytes row_of read_from
return_for_weight = refl

-- a weight of zero that is typed is no blank one: it is read as zero
abbrev pub zero_text : List ℕ
zero_text = bytes "label,0,0,0\r\n"

abbrev pub zero_sheet : Typed
zero_sheet = record { labels = record { wanted = pos 0; weight = pos 0 } ∷ []; gaps = [] }

pub zero_typed : outcome zero_text ≡ sheet zero_sheet
unfolding lines fields all_digits value_of number signed weight_of same_bytes row_of read_from
zero_typed = refl

-- 16,385 bytes are refused with 11, whatever they are
pub one_byte_more : (text : List ℕ) (b : Lists) → length text ≡ suc text_most → reading text b ≡ refused_with 11 0 no_field b
one_byte_more text b e = sym (long_text text b (unread 11 0 no_field) (omega arith) refl)

-- 16,384 bytes are read
pub no_byte_more : (text : List ℕ) (b : Lists) → length text ≡ text_most → reading text b ≡ judged (outcome text) b
no_byte_more text b e = short_text text b (omega arith)

-- lists with room for two labels, for a gap each, and for so many right labels and kinds
abbrev lists : (rights kinds : ℕ) → Lists
lists rights kinds = record {
  wanted = replicate 2 (pos 0);
  weight = replicate 2 (pos 0);
  left = replicate 1 0;
  right = replicate rights 0;
  distance = replicate 1 (pos 0);
  kind = replicate kinds 0;
}

-- a list of right labels that is too short for the gaps is refused with 4
pub short_right : reading document_text (lists 0 1) ≡ refused_with 4 0 no_field (lists 0 1)
unfolding lines fields all_digits value_of number signed weight_of same_bytes row_of read_from room_for reading
short_right = refl

-- and so is one of kinds: "3 and 4 cover the new list"
pub short_kind : reading document_text (lists 1 0) ≡ refused_with 4 0 no_field (lists 1 0)
unfolding lines fields all_digits value_of number signed weight_of same_bytes row_of read_from room_for reading
short_kind = refl

-- ---- document 02, Item 6: gaps of both kinds

-- they have one numbering, in the order of their records: the second is the exact one, and neither kind stands before the other
abbrev between : Typed
between = record {
  labels = [];
  gaps =
      record { left = 0; right = 1; distance = pos 1; kind = at_least_byte }
      ∷ record { left = 0; right = 1; distance = pos 2; kind = exactly_byte }
      ∷ record { left = 0; right = 1; distance = pos 3; kind = at_least_byte } ∷ [];
}

pub numbered_together : outcome (bytes "gap,0,1,1\r\nsame,0,1,2\r\ngap,0,1,3\r\n") ≡ sheet between
unfolding lines fields all_digits value_of number signed weight_of same_bytes row_of read_from
numbered_together = refl

-- the list of kinds is written, whatever it held: one entry per gap, and the rest stays
abbrev sevens : Lists
sevens = record {
  wanted = replicate 3 (pos 7);
  weight = replicate 3 (pos 7);
  left = replicate 3 7;
  right = replicate 3 7;
  distance = replicate 3 (pos 7);
  kind = replicate 3 7;
}

pub kinds_written : (reading joined_text sevens).lists.kind ≡ exactly_byte ∷ at_least_byte ∷ 7 ∷ []
unfolding lines fields all_digits value_of number signed weight_of same_bytes row_of read_from room_for filled reading
kinds_written = refl

-- a text that is refused leaves it: here 14, at the third field of an exact gap
pub kinds_left : reading (bytes "same,0,1,6\r\nsame,0,x,6\r\n") sevens ≡ refused_with 14 2 3 sevens
unfolding lines fields all_digits value_of number signed weight_of same_bytes row_of read_from reading
kinds_left = refl

-- an exact gap "counts once towards 192", and not as the two opposite gaps that it replaces
abbrev exacts : ℕ → Typed
exacts n = record { labels = []; gaps = replicate n (record { left = 0; right = 1; distance = pos 6; kind = exactly_byte }) }

abbrev room : Lists
room = record {
  wanted = [];
  weight = [];
  left = replicate gaps_most 0;
  right = replicate gaps_most 0;
  distance = replicate gaps_most (pos 0);
  kind = replicate gaps_most 0;
}

pub exact_once : (judged (sheet (exacts gaps_most)) room).answer ≡ Ok (record { labels = 0; gaps = gaps_most })
unfolding room_for
exact_once = refl

pub one_exact_more : (b : Lists) → judged (sheet (exacts (suc gaps_most))) b ≡ refused_with 2 0 no_field b
one_exact_more b = refl
