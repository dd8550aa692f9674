-- The answer of the reader: document 01's number and values for each of its cases, and document 02's field (Item 5).
use Rattle.std.specs.Prelude.{ℕ, Result, Ok, Err}
use Rattle.text_reading.specs.declared.Counts.{Counts}
use Rattle.text_reading.specs.declared.Unread.{Unread}
use Rattle.text_rows.specs.Taking.{no_field}
use Rattle.ground.specs.Answers.{refused_at}

-- a sheet of so many labels and gaps, or a refusal and, beside it, the bad field of its line
abbrev pub Reading : Type 0
Reading = Result Counts Unread

-- its number and its place: each 0 for a sheet
abbrev pub number_of : Reading → ℕ
number_of (Ok counts) = 0
number_of (Err u) = u.refusal.number

abbrev pub refused_place : Reading → ℕ
refused_place (Ok counts) = 0
refused_place (Err u) = u.refusal.place

-- how many labels and gaps it read: none where it is refused
abbrev pub labels_of : Reading → ℕ
labels_of (Ok counts) = counts.labels
labels_of (Err u) = 0

abbrev pub gaps_of : Reading → ℕ
gaps_of (Ok counts) = counts.gaps
gaps_of (Err u) = 0

-- its field, which stands beside the refusal's number and place: "for 13 to 15 the bad field counted from 1, else 0". Which
-- field can go with which number is `FieldTold` (of every text: `field_told` in proofs/FieldsTold).
abbrev pub field_of : Reading → ℕ
field_of (Ok counts) = no_field
field_of (Err u) = u.field

-- the refusal of a number at a place, with its field; with a text there is no ring
abbrev pub unread : (number place field : ℕ) → Unread
unread number place field = record { refusal = refused_at number place; field = field }

abbrev pub refusal : (number place field : ℕ) → Reading
refusal number place field = Err (unread number place field)
