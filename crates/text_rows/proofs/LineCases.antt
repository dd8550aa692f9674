-- What holds of every line, by its cases: 10, 13, 14 at one of three fields, 15, a label, a gap of either kind.
use Prim.Native.Nat.{ℕ, ◌≤◌}
use mathlib.Core.Path.{◌≡◌, refl}
use mathlib.Core.Bool.{Bool, true, false, cond}
use mathlib.Core.List.{List}
use Rattle.std.specs.Prelude.{Option, None, Some, Ok}
use native.Mathlib.Omega.{arith}
use borrow.Author.Tests.{eqb-true}
use lib.Dec.{eqb}
use lib.ListN.{length}
use lib.IntN.{ℤ}
use Rattle.ground.specs.Kinds.{at_least_byte, exactly_byte}
use Rattle.text_rows.specs.declared.Earlier.{Earlier}
use Rattle.text_rows.specs.declared.Row.TheVariants.{Label, Gap}
use Rattle.text_rows.specs.Lines.{fields}
use Rattle.text_rows.specs.Numeral.{number, signed, weight_of}
use Rattle.text_rows.specs.Taking.{Taken, bad, field_at, gap_row, gap_word, given, kind_word, label_row, label_word, no_field, row_of, same_bytes, same_word, taken}

-- the refusals of a line
pub record OfBadLines (P : Taken → Type 0) : Type 0 where
  pub count : P (bad 10 no_field)
  pub word : P (bad 13 1)
  pub number : (field : ℕ) → 2 ≤ field → field ≤ 4 → P (bad 14 field)
  pub turn : P (bad 15 2)

-- the fields of a label's record that is taken, and of a gap's
pub record LabelFields (fs : List (List ℕ)) (n : ℕ) (wanted weight : ℤ) : Type 0 where
  pub four : length fs ≡ 4
  pub word : same_bytes (field_at fs 1) label_word ≡ true
  pub second : number (field_at fs 2) ≡ Some n
  pub third : signed (field_at fs 3) ≡ Some wanted
  pub fourth : weight_of (field_at fs 4) ≡ Some weight

pub record GapFields (fs : List (List ℕ)) (kind left right : ℕ) (distance : ℤ) : Type 0 where
  pub known : kind ≤ exactly_byte
  pub four : length fs ≡ 4
  pub word : same_bytes (field_at fs 1) (kind_word kind) ≡ true
  pub second : number (field_at fs 2) ≡ Some left
  pub third : number (field_at fs 3) ≡ Some right
  pub fourth : signed (field_at fs 4) ≡ Some distance

-- what holds of both words of gaps holds of the word of a kind
pub by_kind : (Q : List ℕ → Type 0) → Q gap_word → Q same_word → (kind : ℕ) → Q (kind_word kind)
by_kind Q gap same kind = go (eqb kind exactly_byte)
  where
    go : (t : Bool) → Q (cond t same_word gap_word)
    go true = same
    go false = gap

module _ (P : Taken → Type 0) (of_bad : OfBadLines P) where
  by_number :
      {A : Type 0} (field : ℕ) → 2 ≤ field → field ≤ 4 → (o : Option A) (next : A → Taken)
      → ((a : A) → o ≡ Some a → P (next a)) → P (given field o next)
  by_number field l m None next h = of_bad.number field l m
  by_number field l m (Some a) next h = h a refl

  by_test : (t : Bool) (a b : Taken) → (t ≡ true → P a) → (t ≡ false → P b) → P (cond t a b)
  by_test true a b h k = h refl
  by_test false a b h k = k refl

  module _ (earlier : Earlier) (line : List ℕ) where
    abbrev fs : List (List ℕ)
    fs = fields line

    label_cases :
        length fs ≡ 4 → same_bytes (field_at fs 1) label_word ≡ true
        → ((n : ℕ) (z m : ℤ) → LabelFields fs n z m → P (Ok (Label (record { wanted = z; weight = m }))))
        → P (label_row earlier (field_at fs 2) (field_at fs 3) (field_at fs 4))
    label_cases four word h =
        by_number 2 (omega arith) (omega arith) (number (field_at fs 2)) _ (λ n p.
        by_number 3 (omega arith) (omega arith) (signed (field_at fs 3)) _ (λ z q.
        by_number 4 (omega arith) (omega arith) (weight_of (field_at fs 4)) _ (λ m r.
        by_test (eqb n earlier.labels) _ _
        (λ e. h n z m (record { four = four; word = word; second = p; third = q; fourth = r }))
        (λ e. of_bad.turn))))

    gap_cases :
        (kind : ℕ) → kind ≤ exactly_byte → length fs ≡ 4 → same_bytes (field_at fs 1) (kind_word kind) ≡ true
        → ((u v : ℕ) (z : ℤ) → GapFields fs kind u v z → P (Ok (Gap (record { left = u; right = v; distance = z; kind = kind }))))
        → P (gap_row kind (field_at fs 2) (field_at fs 3) (field_at fs 4))
    gap_cases kind known four word h =
        by_number 2 (omega arith) (omega arith) (number (field_at fs 2)) _ (λ u p.
        by_number 3 (omega arith) (omega arith) (number (field_at fs 3)) _ (λ v q.
        by_number 4 (omega arith) (omega arith) (signed (field_at fs 4)) _ (λ z r.
        h u v z (record { known = known; four = four; word = word; second = p; third = q; fourth = r }))))

    pub taken_cases :
        ((n : ℕ) (z m : ℤ) → LabelFields fs n z m → P (Ok (Label (record { wanted = z; weight = m }))))
        → ((kind u v : ℕ) (z : ℤ) → GapFields fs kind u v z → P (Ok (Gap (record { left = u; right = v; distance = z; kind = kind }))))
        → P (taken earlier line)
    unfolding row_of
    taken_cases label gap =
        by_test (eqb (length fs) 4) _ _
        (λ four. by_test (same_bytes (field_at fs 1) label_word) _ _
        (λ word. label_cases (eqb-true (length fs) 4 four) word label)
        (λ other. by_test (same_bytes (field_at fs 1) gap_word) _ _
        (λ word. gap_cases at_least_byte (omega arith) (eqb-true (length fs) 4 four) word (gap at_least_byte))
        (λ neither. by_test (same_bytes (field_at fs 1) same_word) _ _
        (λ word. gap_cases exactly_byte (omega arith) (eqb-true (length fs) 4 four) word (gap exactly_byte))
        (λ e. of_bad.word))))
        (λ e. of_bad.count)
