-- A line taken apart as a label or a gap of either kind (document 01, "Sheet text"; document 02, Items 5 and 6).
use Rattle.std.specs.Prelude.{ℕ, zero, suc, ◌≤◌, ◌≡◌, ◌≢◌, Bool, true, false, cond, ◌&&◌, List, [], ◌∷◌, eqb, length, get_or, Option, Some, None, Result, Ok, Err}
use Rattle.ground.specs.Kinds.{at_least_byte, exactly_byte}
use Rattle.text_rows.specs.declared.Earlier.{Earlier}
use Rattle.text_rows.specs.declared.BadLine.{BadLine}
use Rattle.text_rows.specs.declared.Row.{Row}
use Rattle.text_rows.specs.declared.Row.TheVariants.{Label, Gap}
use Rattle.text_rows.specs.Bytes.{bytes}
use Rattle.text_rows.specs.Lines.{fields}
use Rattle.text_rows.specs.Numeral.{number, signed, weight_of}

-- "The first field is compared byte for byte"
unfoldable pub same_bytes : List ℕ → List ℕ → Bool
same_bytes [] [] = true
same_bytes [] (b ∷ bs) = false
same_bytes (a ∷ xs) [] = false
same_bytes (a ∷ xs) (b ∷ bs) = eqb a b && same_bytes xs bs

-- the words label, gap and same: of an exact gap, "In the text the first field is the word same" (document 02, Item 6)
abbrev pub label_word : List ℕ
label_word = bytes "label"

abbrev pub gap_word : List ℕ
gap_word = bytes "gap"

abbrev pub same_word : List ℕ
same_word = bytes "same"

-- the word in front of a gap, by its kind: of an exact one "the word same"
abbrev pub kind_word : ℕ → List ℕ
kind_word kind = cond (eqb kind exactly_byte) same_word gap_word

-- "the bad field counted from 1, else 0"
abbrev pub no_field : ℕ
no_field = 0

-- what is told of a line: its record, or that it is bad, by the number of its refusal and its bad field
abbrev pub Taken : Type 0
Taken = Result Row BadLine

abbrev pub bad : (number field : ℕ) → Taken
bad number field = Err (record { number = number; field = field })

-- the number of a line's refusal, and its bad field: 0 for a line that is taken
abbrev pub refusal_number : Taken → ℕ
refusal_number (Ok row) = 0
refusal_number (Err b) = b.number

abbrev pub refusal_field : Taken → ℕ
refusal_field (Ok row) = no_field
refusal_field (Err b) = b.field

-- "a number that breaks its rule is 14": what a field tells, or the line is refused at this field
abbrev pub given : {A : Type 0} → (field : ℕ) → Option A → (A → Taken) → Taken
given field None next = bad 14 field
given field (Some a) next = next a

-- "label, its number, wanted place, weight": "14 at its first bad field, then 15". "Label numbers run 0, 1, 2 in the order
-- of their records", so the number is the count of labels before; "a label number out of turn is 15"
abbrev pub label_row : Earlier → (number' wanted weight : List ℕ) → Taken
label_row earlier k d w =
    given 2 (number k) (λ n. given 3 (signed d) (λ z. given 4 (weight_of w) (λ m.
    cond (eqb n earlier.labels) (Ok (Label (record { wanted = z; weight = m }))) (bad 15 2))))

-- "gap, left, right, distance", and so after the word same; "The gap record shall carry its kind"
abbrev pub gap_row : (kind : ℕ) → (left right distance : List ℕ) → Taken
gap_row kind u v g =
    given 2 (number u) (λ l. given 3 (number v) (λ r. given 4 (signed g) (λ z.
    Ok (Gap (record { left = l; right = r; distance = z; kind = kind })))))

-- a field of a line, counted from 1
abbrev pub field_at : List (List ℕ) → ℕ → List ℕ
field_at fs zero = []
field_at fs (suc k) = get_or fs k []

-- "10 is left for a line without four fields. A first field that is neither kind is 13", which with Item 6 is none of three
-- words: 10, then 13, then the rest. "Blank lines are bad lines": a blank one has one field
unfoldable pub row_of : Earlier → List (List ℕ) → Taken
row_of earlier fs =
    cond (eqb (length fs) 4)
    (cond (same_bytes (field_at fs 1) label_word) (label_row earlier (field_at fs 2) (field_at fs 3) (field_at fs 4))
    (cond (same_bytes (field_at fs 1) gap_word) (gap_row at_least_byte (field_at fs 2) (field_at fs 3) (field_at fs 4))
    (cond (same_bytes (field_at fs 1) same_word) (gap_row exactly_byte (field_at fs 2) (field_at fs 3) (field_at fs 4)) (bad 13 1))))
    (bad 10 no_field)

-- a line after those before it
abbrev pub taken : Earlier → List ℕ → Taken
taken earlier line = row_of earlier (fields line)

-- the largest number of a refusal, "23 for a kind that is neither", which no text gives
abbrev pub number_most : ℕ
number_most = 23

-- a number that is none of 13 to 15
abbrev pub NamesNone : ℕ → Type 0
NamesNone number = (number ≢ 13) × (number ≢ 14) × (number ≢ 15)

-- "for 13 to 15 the bad field counted from 1, else 0": which field may stand beside a number that is told for a text or a
-- sheet. 13 names the first field, 15 the second, and no number but these and 14 names one; 14 names the second to the
-- fourth, and which of them it is, `taken` says
pub record FieldTold (number field : ℕ) : Type 0 where
  pub none : NamesNone number → field ≡ no_field
  pub word : number ≡ 13 → field ≡ 1
  pub least : number ≡ 14 → 2 ≤ field
  pub turn : number ≡ 15 → field ≡ 2
  pub number_bound : number ≤ number_most
  pub field_most : field ≤ 4
