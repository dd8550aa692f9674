-- Document 02, Item 5, of every text and any lists: which field is told beside a refusal's number.
use Prim.Native.Nat.{ℕ, suc}
use mathlib.Core.Path.{subst}
use mathlib.Core.List.{List, [], ◌∷◌}
use native.Mathlib.Omega.{arith}
use Rattle.text_rows.specs.declared.Row.{Row}
use Rattle.std.specs.Prelude.{Ok, Err}
use Rattle.text_rows.specs.Lines.{lines}
use Rattle.text_rows.specs.Taking.{FieldTold, refusal_field, refusal_number, Taken, taken}
use Rattle.text_rows.proofs.BadLines.{no_field_lem, taken_told}
use Rattle.text_reading.specs.Readings.{field_of, number_of}
use Rattle.text_reading.specs.Texts.{Done, Lists, Outcome, Typed, add, bad_line, earlier_of, follow, nothing_typed, read_from, reading, sheet}
use Rattle.text_reading.proofs.ReadingCases.{reading_cases}

-- of the first bad line
abbrev LineTold : Outcome → Type 0
LineTold (bad_line n number field) = FieldTold number field
LineTold (sheet t) = Unit {0}

line_told : (ls : List (List ℕ)) (n : ℕ) (t : Typed) → LineTold (read_from ls n t)
unfolding read_from
line_told [] n t = tt
line_told (l ∷ ls) n t = go (taken (earlier_of t) l) (taken_told (earlier_of t) l) (λ row. line_told ls (suc n) (add t row))
  where
    go :
        (k : Taken) → FieldTold (refusal_number k) (refusal_field k) → ((row : Row) → LineTold (read_from ls (suc n) (add t row)))
        → LineTold (follow k n t (read_from ls (suc n)))
    go (Err b) told later = told
    go (Ok row) told later = later row

abbrev DoneTold : Done → Type 0
DoneTold d = FieldTold (number_of d.answer) (field_of d.answer)

pub field_told : (text : List ℕ) (b : Lists) → FieldTold (number_of (reading text b).answer) (field_of (reading text b).answer)
field_told text b =
    reading_cases DoneTold b
    (record {
      long = no_field_lem 11 (omega arith) (omega arith);
      crowded = no_field_lem 1 (omega arith) (omega arith);
      over_gapped = no_field_lem 2 (omega arith) (omega arith);
      short_room = no_field_lem 4 (omega arith) (omega arith);
    })
    text
    (λ short n number field e. subst LineTold e (line_told (lines text) 1 nothing_typed))
    (λ t read few gaps. no_field_lem 0 (omega arith) (omega arith))
