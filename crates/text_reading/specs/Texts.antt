-- A text read into lent lists (document 01, "Sheet text" and "Refusal table"; document 02, Items 5 and 6).
use Rattle.std.specs.Prelude.{ℕ, suc, Bool, cond, ◌&&◌, List, [], ◌∷◌, ◌++◌, map, ltb, leb, length, drop, ℤ, Ok, Err}
use Rattle.ground.specs.declared.GapRecord.{GapRecord}
use Rattle.text_rows.specs.declared.LabelRow.{LabelRow}
use Rattle.text_rows.specs.declared.Row.{Row}
use Rattle.text_rows.specs.declared.Row.TheVariants.{Label, Gap}
use Rattle.text_rows.specs.declared.Earlier.{Earlier}
use Rattle.text_reading.specs.declared.Counts.{Counts}
use Rattle.text_reading.specs.Readings.{Reading, refusal}
use Rattle.text_rows.specs.Lines.{lines}
use Rattle.text_rows.specs.Taking.{Taken, no_field, taken}
use Rattle.ground.specs.Limits.{gaps_most, labels_most}
use denote.Triple.Both.{Both}
use Rattle.ground.specs.Views.{Param, MutParam}
use Rattle.std.specs.Borrow.{Bor, MutBor}

-- the labels and the gaps of a text, each in the order of their records; "a gap may come before the labels it names". "Gaps
-- are numbered in the order of their records", those of both kinds together: "an exact gap counts once towards 192"
pub record Typed : Type 0 where
  pub labels : List LabelRow
  pub gaps : List GapRecord

abbrev pub nothing_typed : Typed
nothing_typed = record { labels = []; gaps = [] }

-- with one record more
abbrev pub add : Typed → Row → Typed
add t (Label r) = record { labels = t.labels ++ (r ∷ []); gaps = t.gaps }
add t (Gap g) = record { labels = t.labels; gaps = t.gaps ++ (g ∷ []) }

-- what came before a line: the count of labels so far
abbrev pub earlier_of : Typed → Earlier
earlier_of t = record { labels = length t.labels }

-- a text is a sheet, or has a first bad line, "line from 1", with the refusal's number and the bad field
pub data Outcome : Type 0 where
  bad_line : (line number field : ℕ) → Outcome
  sheet : Typed → Outcome

-- "A line is taken apart as label or gap; otherwise the reading stops there"; "The first bad line still wins"
abbrev pub follow : Taken → ℕ → Typed → (Typed → Outcome) → Outcome
follow (Err b) n t next = bad_line n b.number b.field
follow (Ok row) n t next = next (add t row)

unfoldable pub read_from : List (List ℕ) → ℕ → Typed → Outcome
read_from [] n t = sheet t
read_from (l ∷ ls) n t = follow (taken (earlier_of t) l) n t (read_from ls (suc n))

-- "Empty input is a sheet of no labels"
abbrev pub outcome : List ℕ → Outcome
outcome text = read_from (lines text) 1 nothing_typed

-- the lists that are lent; "The plain lists gain one of kinds"
pub record Lists : Type 0 where
  pub wanted : List ℤ
  pub weight : List ℤ
  pub left : List ℕ
  pub right : List ℕ
  pub distance : List ℤ
  pub kind : List ℕ

-- "writes their first entries only, one per label or gap"
abbrev pub front : {A : Type 0} → List A → List A → List A
front xs before = xs ++ drop (length xs) before

unfoldable pub filled : Typed → Lists → Lists
filled t b = record {
  wanted = front (map (λ r. r.wanted) t.labels) b.wanted;
  weight = front (map (λ r. r.weight) t.labels) b.weight;
  left = front (map (λ g. g.left) t.gaps) b.left;
  right = front (map (λ g. g.right) t.gaps) b.right;
  distance = front (map (λ g. g.distance) t.gaps) b.distance;
  kind = front (map (λ g. g.kind) t.gaps) b.kind;
}

-- what is not met by "4 after 1 and 2 if a list is too short"
unfoldable pub room_for : Typed → Lists → Bool
room_for t b =
    leb (length t.labels) (length b.wanted)
    && leb (length t.labels) (length b.weight)
    && leb (length t.gaps) (length b.left)
    && leb (length t.gaps) (length b.right)
    && leb (length t.gaps) (length b.distance)
    && leb (length t.gaps) (length b.kind)

-- an answer with the lists afterwards
pub record Done : Type 0 where
  pub answer : Reading
  pub lists : Lists

-- "A refused call writes nothing"
abbrev pub refused_with : (number place field : ℕ) → Lists → Done
refused_with number place field b = record { answer = refusal number place field; lists = b }

-- how many labels and gaps there are
abbrev pub counts_of : Typed → Counts
counts_of t = record { labels = length t.labels; gaps = length t.gaps }

-- a text without a bad line: 1, 2, then 4
abbrev pub settled : Typed → Lists → Done
settled t b =
    cond (ltb labels_most (length t.labels)) (refused_with 1 0 no_field b)
    (cond (ltb gaps_most (length t.gaps)) (refused_with 2 0 no_field b)
    (cond (room_for t b) (record { answer = Ok (counts_of t); lists = filled t b }) (refused_with 4 0 no_field b)))

-- "the line remains the place"
abbrev pub judged : Outcome → Lists → Done
judged (bad_line n number field) b = refused_with number n field b
judged (sheet t) b = settled t b

-- refusal 11: "above 16,384 bytes"
abbrev pub text_most : ℕ
text_most = 16384

-- "Checks run in this order: 11, 10, then 1", and 13 to 15 stand where 10 stood: the whole of a reading
unfoldable pub reading : List ℕ → Lists → Done
reading text b = cond (ltb text_most (length text)) (refused_with 11 0 no_field b) (judged (outcome text) b)

-- ---- the lent lists: as a `requires` sees them, and at entry and exit as an `ensures` does

abbrev pub lists_now :
    (wanted weight : MutBor (List ℤ)) (left right : MutBor (List ℕ)) (distance : MutBor (List ℤ)) (kind : MutBor (List ℕ)) → Lists
lists_now wanted weight left right distance kind = record {
  wanted = wanted.now;
  weight = weight.now;
  left = left.now;
  right = right.now;
  distance = distance.now;
  kind = kind.now;
}

abbrev pub lists_lent :
    (wanted weight : MutParam ℤ) (left right : MutParam ℕ) (distance : MutParam ℤ) (kind : MutParam ℕ) → Both Lists Lists
lists_lent wanted weight left right distance kind = record {
  entry = lists_now wanted.entry weight.entry left.entry right.entry distance.entry kind.entry;
  exit = lists_now wanted.exit weight.exit left.exit right.exit distance.exit kind.exit;
}

-- ---- the same of lists that are lent to read

abbrev pub shared_now :
    (wanted weight : Bor (List ℤ)) (left right : Bor (List ℕ)) (distance : Bor (List ℤ)) (kind : Bor (List ℕ)) → Lists
shared_now wanted weight left right distance kind = record {
  wanted = wanted.now;
  weight = weight.now;
  left = left.now;
  right = right.now;
  distance = distance.now;
  kind = kind.now;
}

abbrev pub shared_lent :
    (wanted weight : Param ℤ) (left right : Param ℕ) (distance : Param ℤ) (kind : Param ℕ) → Lists
shared_lent wanted weight left right distance kind =
    shared_now wanted.entry weight.entry left.entry right.entry distance.entry kind.entry
