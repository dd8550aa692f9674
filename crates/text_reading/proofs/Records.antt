-- A record as it is written is one line, and its fields are those that were joined.
use Prim.Native.Nat.{ℕ, zero, suc, ◌≤◌, ◌<◌, ◌^◌}
use mathlib.Core.Path.{◌≡◌, refl, ◌∙◌}
use mathlib.Core.Logic.{◌≢◌}
use mathlib.Core.List.{List, [], ◌∷◌, ◌++◌, append_assoc}
use native.Mathlib.Omega.{arith}
use lib.ListN.{length, length-append}
use lib.IntN.{ℤ, pos, nat_abs}
use lib.Signed.{◌≤ℤ◌}
use borrow.Author.Tests.{eq-eqb, ne_eqb}
use Rattle.ground.specs.declared.GapRecord.{GapRecord}
use Rattle.text_rows.specs.declared.Earlier.{Earlier}
use Rattle.text_rows.specs.declared.LabelRow.{LabelRow}
use Rattle.text_rows.specs.declared.Row.TheVariants.{Label, Gap}
use Rattle.std.specs.Prelude.{Ok}
use Rattle.text_rows.specs.Lines.{line_feed, carriage_return, comma, lines, fields, next, line_of, record_of}
use Rattle.text_rows.specs.Numeral.{digits_most, decimal, signed_decimal}
use Rattle.text_rows.specs.Taking.{same_bytes, label_word, kind_word, gap_row, row_of, taken}
use Rattle.text_reading.specs.Printed.{label_record, gap_record}
use Rattle.text_rows.proofs.Decimal.{length_signed}
use Rattle.text_rows.proofs.LineCases.{by_kind}
use Rattle.text_reading.proofs.Numerals.{each_append, Digit, digits_only, NumeralByte, signed_bytes, number_back, signed_back, weight_back}
use Rattle.ground.proofs.Each.{each_map}
use Rattle.ground.specs.Entries.{Each}
use Rattle.ground.specs.Kinds.{exactly_byte}

-- ---- bytes that end neither a field nor a line

abbrev pub NoComma : ℕ → Type 0
NoComma b = b ≢ comma

abbrev pub NoEnd : ℕ → Type 0
NoEnd b = (b ≢ carriage_return) × (b ≢ line_feed)

abbrev pub Plain : ℕ → Type 0
Plain b = NoComma b × NoEnd b

no_comma : (f : List ℕ) → Each Plain f → Each NoComma f
no_comma f h = each_map {P = Plain} {Q = NoComma} (λ b p. p.0) f h

no_end : (f : List ℕ) → Each Plain f → Each NoEnd f
no_end f h = each_map {P = Plain} {Q = NoEnd} (λ b p. p.1) f h

-- digits and minus signs are such bytes
pub decimal_plain : (n : ℕ) → Each Plain (decimal n)
decimal_plain n = each_map {P = Digit} {Q = Plain} (λ b h. omega arith) (decimal n) (digits_only 20 n)

pub signed_plain : (z : ℤ) → Each Plain (signed_decimal z)
signed_plain z = each_map {P = NumeralByte} {Q = Plain} (λ b h. omega arith) (signed_decimal z) (signed_bytes z)

-- ---- fields and lines

pub fields_last : (f : List ℕ) → Each NoComma f → fields f ≡ f ∷ []
unfolding fields
fields_last [] h = refl
fields_last (b ∷ bs) h = rw (ne_eqb b comma h.0, fields_last bs h.1)

pub fields_next : (f rest : List ℕ) → Each NoComma f → fields (f ++ (comma ∷ rest)) ≡ f ∷ fields rest
unfolding fields
fields_next [] rest h = refl
fields_next (b ∷ bs) rest h = rw (ne_eqb b comma h.0, fields_next bs rest h.1)

pub lines_next : (l rest : List ℕ) → Each NoEnd l → lines (l ++ (carriage_return ∷ line_feed ∷ rest)) ≡ l ∷ lines rest
unfolding lines
lines_next [] rest h = refl
lines_next (b ∷ bs) rest h =
    rw (ne_eqb b line_feed h.0.1, ne_eqb b carriage_return h.0.0, lines_next bs rest h.1)

-- ---- four fields joined

pub record PlainFields (w a b c : List ℕ) : Type 0 where
  pub word : Each Plain w
  pub second : Each Plain a
  pub third : Each Plain b
  pub fourth : Each Plain c

module _ {w a b c : List ℕ} (p : PlainFields w a b c) where
  pub line_fields : fields (line_of w a b c) ≡ w ∷ a ∷ b ∷ c ∷ []
  line_fields =
      rw (
        fields_next w _ (no_comma w p.word),
        fields_next a _ (no_comma a p.second),
        fields_next b _ (no_comma b
            p.third),
        fields_last c (no_comma c p.fourth),
      )

  line_no_end : Each NoEnd (line_of w a b c)
  line_no_end =
      each_append NoEnd w (next a ++ (next b ++ next c)) (no_end w p.word) (
        omega arith,
        each_append NoEnd a (next b ++ next c) (no_end a p.second) (
          omega arith,
          each_append NoEnd b (next c) (no_end b p.third)
              (omega arith, no_end c p.fourth),
        ),
      )

  pub lines_record : (rest : List ℕ) → lines (record_of w a b c ++ rest) ≡ line_of w a b c ∷ lines rest
  lines_record rest = (simp append_assoc) ∙ lines_next (line_of w a b c) rest line_no_end

-- ---- the records of labels and gaps

-- numbers of at most nine digits, the weight without a sign; a kind that has its own word
pub record LabelFits (r : LabelRow) : Type 0 where
  pub wanted : nat_abs r.wanted < 10 ^ digits_most
  pub weight : nat_abs r.weight < 10 ^ digits_most
  pub unsigned : pos 0 ≤ℤ r.weight

pub record GapFits (g : GapRecord) : Type 0 where
  pub left : g.left < 10 ^ digits_most
  pub right : g.right < 10 ^ digits_most
  pub distance : nat_abs g.distance < 10 ^ digits_most
  pub kind : g.kind ≤ exactly_byte

label_fields :
    (i : ℕ) (r : LabelRow) → PlainFields label_word (decimal i) (signed_decimal r.wanted) (signed_decimal r.weight)
label_fields i r = record {
  word = omega arith;
  second = decimal_plain i;
  third = signed_plain r.wanted;
  fourth = signed_plain r.weight;
}

gap_fields :
    (g : GapRecord) → PlainFields (kind_word g.kind) (decimal g.left) (decimal g.right) (signed_decimal g.distance)
gap_fields g = record {
  word = by_kind (Each Plain) (omega arith) (omega arith) g.kind;
  second = decimal_plain g.left;
  third = decimal_plain g.right;
  fourth = signed_plain g.distance;
}

abbrev pub label_line : ℕ → LabelRow → List ℕ
label_line i r = line_of label_word (decimal i) (signed_decimal r.wanted) (signed_decimal r.weight)

abbrev pub gap_line : GapRecord → List ℕ
gap_line g = line_of (kind_word g.kind) (decimal g.left) (decimal g.right) (signed_decimal g.distance)

pub lines_label :
    (i : ℕ) (r : LabelRow) (rest : List ℕ) → lines (label_record i r ++ rest) ≡ label_line i r ∷ lines rest
unfolding label_record
lines_label i r rest = lines_record (label_fields i r) rest

pub lines_gap : (g : GapRecord) (rest : List ℕ) → lines (gap_record g ++ rest) ≡ gap_line g ∷ lines rest
unfolding gap_record
lines_gap g rest = lines_record (gap_fields g) rest

-- the record of the next label is taken as that label
pub taken_label :
    (i : ℕ) (r : LabelRow) → i < 10 ^ digits_most → LabelFits r → taken (record { labels = i }) (label_line i r) ≡ Ok (Label r)
unfolding row_of same_bytes
taken_label i r h f =
    rw (
      line_fields (label_fields i r),
      number_back i h,
      signed_back r.wanted f.wanted,
      weight_back r.weight f.unsigned f.weight,
      eq-eqb i i refl,
    )

-- four fields after the word of a kind are a gap of that kind
row_kind :
    (earlier : Earlier) (kind : ℕ) → kind ≤ exactly_byte → (a b c : List ℕ) → row_of earlier (kind_word kind ∷ a ∷ b ∷ c ∷ []) ≡ gap_row kind a b c
unfolding row_of same_bytes
row_kind earlier zero h a b c = refl
row_kind earlier (suc zero) h a b c = refl
row_kind earlier (suc (suc k)) h a b c = absurd (omega arith)

-- a gap's record is taken as that gap, whatever came before
pub taken_gap : (earlier : Earlier) (g : GapRecord) → GapFits g → taken earlier (gap_line g) ≡ Ok (Gap g)
taken_gap earlier g f =
    rw (
      line_fields (gap_fields g),
      row_kind earlier g.kind f.kind,
      number_back g.left f.left,
      number_back g.right f.right,
      signed_back g.distance f.distance,
    )

-- ---- at most 40 bytes

record_most :
    (w a b c : List ℕ) → length w ≤ 5 → length a ≤ 10 → length b ≤ 10 → length c ≤ 10 → length (record_of w a b c) ≤ 40
record_most w a b c hw ha hb hc = simp length-append (omega arith)

pub label_most : (i : ℕ) (r : LabelRow) → i < 10 ^ digits_most → LabelFits r → length (label_record i r) ≤ 40
unfolding label_record
label_most i r h f =
    record_most label_word (decimal i) (signed_decimal r.wanted) (signed_decimal r.weight) (omega arith)
    (length_signed 8 (pos i) h) (length_signed 8 r.wanted f.wanted) (length_signed 8 r.weight f.weight)

pub gap_most : (g : GapRecord) → GapFits g → length (gap_record g) ≤ 40
unfolding gap_record
gap_most g f =
    record_most (kind_word g.kind) (decimal g.left) (decimal g.right) (signed_decimal g.distance)
    (by_kind (λ w. length w ≤ 5) (omega arith) (omega arith) g.kind)
    (length_signed 8 (pos g.left) f.left) (length_signed 8 (pos g.right) f.right)
    (length_signed 8 g.distance f.distance)
