-- Document 02, Item 6, of every text and any lists: a gap that is read is of kind at least or exactly, so that no text gives 23.
use Prim.Native.Nat.{ℕ, suc, ◌≤◌, ◌<◌}
use mathlib.Core.Path.{subst}
use mathlib.Core.List.{List, [], ◌∷◌, map}
use native.Mathlib.Omega.{arith}
use lib.ListN.{length, drop, length-map, get_or-append, get_or-map}
use Rattle.ground.specs.declared.GapRecord.{GapRecord}
use Rattle.ground.specs.Entries.{Each, nat, no_record}
use Rattle.ground.specs.Kinds.{exactly_byte}
use Rattle.text_rows.specs.declared.Earlier.{Earlier}
use Rattle.text_rows.specs.declared.Row.{Row}
use Rattle.text_rows.specs.declared.Row.TheVariants.{Label, Gap}
use Rattle.std.specs.Prelude.{Ok, Err}
use Rattle.text_rows.specs.Lines.{lines}
use Rattle.text_rows.specs.Taking.{Taken, taken}
use Rattle.text_rows.proofs.LineCases.{taken_cases}
use Rattle.text_reading.specs.Readings.{gaps_of}
use Rattle.text_reading.specs.Texts.{Done, Lists, Outcome, Typed, add, bad_line, earlier_of, filled, follow, nothing_typed, read_from, reading, sheet}
use Rattle.text_reading.proofs.Numerals.{each_append, each_entry}
use Rattle.text_reading.proofs.ReadingCases.{reading_cases}

-- the kind is known: of a gap, and of a record that is one
abbrev Known : GapRecord → Type 0
Known g = g.kind ≤ exactly_byte

abbrev KnownRow : Row → Type 0
KnownRow (Label r) = Unit {0}
KnownRow (Gap g) = Known g

-- of every line that is taken
abbrev KnownTaken : Taken → Type 0
KnownTaken (Ok row) = KnownRow row
KnownTaken (Err b) = Unit {0}

taken_known : (earlier : Earlier) (line : List ℕ) → KnownTaken (taken earlier line)
taken_known earlier line =
    taken_cases KnownTaken (record { count = tt; word = tt; number = λ field l m. tt; turn = tt }) earlier line
    (λ n z m k. tt)
    (λ kind u v z k. k.known)

-- of every gap of a text
abbrev KnownOutcome : Outcome → Type 0
KnownOutcome (bad_line n number field) = Unit {0}
KnownOutcome (sheet t) = Each Known t.gaps

add_known : (t : Typed) (row : Row) → Each Known t.gaps → KnownRow row → Each Known (add t row).gaps
add_known t (Label r) h k = h
add_known t (Gap g) h k = each_append Known t.gaps (g ∷ []) h (k, tt)

outcome_known : (ls : List (List ℕ)) (n : ℕ) (t : Typed) → Each Known t.gaps → KnownOutcome (read_from ls n t)
unfolding read_from
outcome_known [] n t h = h
outcome_known (l ∷ ls) n t h =
    go (taken (earlier_of t) l) (taken_known (earlier_of t) l) (λ row k. outcome_known ls (suc n) (add t row) (add_known t row h k))
  where
    go :
        (k : Taken) → KnownTaken k → ((row : Row) → KnownRow row → KnownOutcome (read_from ls (suc n) (add t row)))
        → KnownOutcome (follow k n t (read_from ls (suc n)))
    go (Err b) known later = tt
    go (Ok row) known later = later row known

-- of every entry that a reading writes
abbrev KindsKnown : Done → Type 0
KindsKnown d = (k : ℕ) → k < gaps_of d.answer → nat d.lists.kind k ≤ exactly_byte

filled_known : (t : Typed) (b : Lists) → Each Known t.gaps → (k : ℕ) → k < length t.gaps → nat (filled t b).kind k ≤ exactly_byte
unfolding filled
filled_known t b known k h =
    let kinds = map (λ g. g.kind) t.gaps in
    rw (
      get_or-append kinds (drop (length kinds) b.kind) 0 k (omega (arith, length-map t.gaps (λ g. g.kind))),
      get_or-map (λ g. g.kind) t.gaps k no_record,
    )
    (each_entry Known no_record t.gaps known (omega arith) k)

pub kinds_known : (text : List ℕ) (b : Lists) → KindsKnown (reading text b)
kinds_known text b =
    reading_cases KindsKnown b (record { long = none; crowded = none; over_gapped = none; short_room = none }) text
    (λ short n number field e. none)
    (λ t read few gaps. filled_known t b (subst KnownOutcome read (outcome_known (lines text) 1 nothing_typed tt)))
  where
    none : (k : ℕ) → k < 0 → nat b.kind k ≤ exactly_byte
    none k h = absurd (omega arith)
