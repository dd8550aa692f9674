-- How large the number and the place of a refusal can be, of a text and of a sheet.
use Prim.Native.Nat.{ℕ, suc, ◌+◌, ◌≤◌, ◌<◌}
use mathlib.Core.Path.{sym, subst}
use mathlib.Core.Logic.{⊎_elim}
use mathlib.Core.Bool.{Bool, true, false, cond, ◌&&◌}
use mathlib.Core.List.{List, [], ◌∷◌}
use native.Mathlib.Omega.{arith}
use lib.Dec.{eqb}
use lib.ListN.{length, length-append, length-map}
use Rattle.ground.specs.declared.Refusal.{Refusal}
use Rattle.std.specs.Prelude.{Ok, Err}
use Rattle.ground.specs.Answers.{Answer}
use Rattle.ground.specs.Limits.{gaps_most, labels_most}
use Rattle.sheet_checks.specs.Lent.{Read, Written, label_count, gap_count, sheet_of}
use Rattle.sheet_checks.specs.Refusals.{room_of, ragged, short, rows, table}
use Rattle.sheet_checks.proofs.Told.{Told, table_told}
use Rattle.layout.specs.Promise.{Promise, ByTable}
use Rattle.text_rows.specs.declared.Row.{Row}
use Rattle.text_reading.specs.Readings.{Reading}
use Rattle.text_rows.specs.Lines.{lines, push, starts_with, line_feed, carriage_return}
use Rattle.text_rows.specs.Taking.{NamesNone, Taken, number_most, taken}
use Rattle.text_reading.specs.Texts.{Typed, nothing_typed, add, earlier_of, Outcome, bad_line, sheet, follow, read_from}
use Rattle.text_reading.specs.Texts.{Lists, Done, filled, reading, text_most}
use Rattle.text_reading.proofs.ReadingCases.{reading_cases}

-- a refusal of the layout's, whose number names no field, and whose number and place are small
abbrev pub Small : Refusal → Type 0
Small r = NamesNone r.number × (r.number ≤ number_most) × (r.place ≤ text_most)

-- ---- a text

push_most : (b : ℕ) (ss : List (List ℕ)) → length (push b ss) ≤ suc (length ss)
push_most b [] = omega arith
push_most b (s ∷ ss) = omega arith

-- a text has no more lines than bytes
lines_most : (text : List ℕ) → length (lines text) ≤ length text
unfolding lines
lines_most [] = omega arith
lines_most (b ∷ bs) = go (lines_most bs) (eqb b line_feed) (eqb b carriage_return && starts_with line_feed bs)
  where
    go : length (lines bs) ≤ length bs → (feed ended : Bool) → length (cond feed ([] ∷ lines bs) (cond ended (lines bs) (push b (lines bs)))) ≤ suc (length bs)
    go h true ended = omega arith
    go h false true = omega arith
    go h false false = omega (arith, push_most b (lines bs))

-- a bad line is one below this
abbrev LineBelow : ℕ → Outcome → Type 0
LineBelow most (bad_line n number field) = n < most
LineBelow most (sheet t) = Unit {0}

line_below : (ls : List (List ℕ)) (n : ℕ) (t : Typed) (most : ℕ) → n + length ls ≤ most → LineBelow most (read_from ls n t)
unfolding read_from
line_below [] n t most h = tt
line_below (l ∷ ls) n t most h = go (taken (earlier_of t) l) (λ row. line_below ls (suc n) (add t row) most (omega arith))
  where
    go : (k : Taken) → ((row : Row) → LineBelow most (read_from ls (suc n) (add t row))) → LineBelow most (follow k n t (read_from ls (suc n)))
    go (Err b) later = omega arith
    go (Ok row) later = later row

-- a reading is a refusal at a small place, or a sheet within the limits of document 01 whose labels stand in the list
abbrev pub SmallReading : Reading → Lists → Type 0
SmallReading (Err u) l = u.refusal.place ≤ text_most
SmallReading (Ok c) l = (c.labels ≤ labels_most) × (c.gaps ≤ gaps_most) × (c.labels ≤ length l.wanted)

abbrev SmallDone : Done → Type 0
SmallDone d = SmallReading d.answer d.lists

labels_filled : (t : Typed) (b : Lists) → length t.labels ≤ length (filled t b).wanted
unfolding filled
labels_filled t b = simp (length-append, length-map) (omega arith)

pub small_reading : (text : List ℕ) (b : Lists) → SmallReading (reading text b).answer (reading text b).lists
small_reading text b =
    reading_cases SmallDone b (record { long = omega arith; crowded = omega arith; over_gapped = omega arith; short_room = omega arith }) text
    (λ short n number field e.
    let below : n < suc text_most = subst (LineBelow (suc text_most)) e (line_below (lines text) 1 nothing_typed (suc text_most) (omega (arith, lines_most text))) in
    omega arith)
    (λ t read few gaps. (few, gaps, labels_filled t b))

-- ---- a sheet

small_table : (r : Read) (w : Written) → label_count r ≤ text_most → gap_count r ≤ text_most → Told Small (table r w)
small_table r w l g =
    table_told Small (label_count r) (gap_count r) (ragged r (length w.carried)) (short (label_count r) (gap_count r) (room_of w)) (rows r)
    ((omega arith, omega arith, omega arith), (omega arith, omega arith, omega arith), (omega arith, omega arith, omega arith), (omega arith, omega arith, omega arith)) (
      (λ k h. (omega arith, omega arith, omega arith)),
      (
        (λ k h. (omega arith, omega arith, omega arith)),
        (
          (λ k h. (omega arith, omega arith, omega arith)),
          ((λ k h. (omega arith, omega arith, omega arith)), ((λ k h. (omega arith, omega arith, omega arith)), tt)),
        ),
      ),
    )

-- a layout call that keeps its promise refuses with a small number and place
pub small_answer : (r : Read) (w : Written) (a : Answer) (after : Written) → label_count r ≤ text_most → gap_count r ≤ text_most → Promise r w a after → Told Small a
small_answer r w a after l g p = go (table r w) (small_table r w l g) p.kept
  where
    go : (v : Answer) → Told Small v → ByTable v (sheet_of r) w a after → Told Small a
    go (Err q) s k = subst (Told Small) (sym k.0) s
    go (Ok _) s k =
        ⊎_elim
        (λ placed. subst (Told Small) (sym placed.0) tt)
        (λ ring. subst (Told Small) (sym ring.0) (omega arith, omega arith, omega arith))
        k
