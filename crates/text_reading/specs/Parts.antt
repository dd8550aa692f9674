-- What the parts of the reader promise to each other.
use Rattle.std.specs.Prelude.{ℕ, ◌+◌, ◌≤◌, ◌≡◌, min, cond, ◌&&◌, List, map, ltb, leb, length, take, set, Result, Ok, Err}
use Rattle.text_rows.specs.declared.Row.{Row}
use Rattle.text_rows.specs.declared.Row.TheVariants.{Label, Gap}
use Rattle.text_rows.specs.Taking.{no_field}
use Rattle.text_reading.specs.declared.Counts.{Counts}
use Rattle.text_reading.specs.declared.Unread.{Unread}
use Rattle.text_reading.specs.Readings.{Reading, refusal, unread}
use Rattle.text_reading.specs.Texts.{Typed, Outcome, bad_line, sheet, Lists, Done, counts_of, reading}
use Rattle.ground.specs.Limits.{gaps_most, labels_most}

-- a work array with a value stored at k where there is room
abbrev pub stored : {A : Type 0} → (room k : ℕ) → A → List A → List A
stored room k v a = cond (ltb k room) (set a k v) a

-- a record counted, and stored in the array of each of its fields
abbrev pub counted_with : Row → Counts → Counts
counted_with (Label r) c = record { labels = c.labels + 1; gaps = c.gaps }
counted_with (Gap g) c = record { labels = c.labels; gaps = c.gaps + 1 }

abbrev pub stored_in : Row → Counts → Lists → Lists
stored_in (Label r) c w = record {
  wanted = stored labels_most c.labels r.wanted w.wanted;
  weight = stored labels_most c.labels r.weight w.weight;
  left = w.left;
  right = w.right;
  distance = w.distance;
  kind = w.kind;
}
stored_in (Gap g) c w = record {
  wanted = w.wanted;
  weight = w.weight;
  left = stored gaps_most c.gaps g.left w.left;
  right = stored gaps_most c.gaps g.right w.right;
  distance = stored gaps_most c.gaps g.distance w.distance;
  kind = stored gaps_most c.gaps g.kind w.kind;
}

-- the promise of the storing
pub record Stored (row : Row) (c : Counts) (before : Lists) (r : Counts) (after : Lists) : Type 0 where
  pub counted : r ≡ counted_with row c
  pub arrays : after ≡ stored_in row c before

-- a work array holds a list if there is room for it
pub record Holds {A : Type 0} (room : ℕ) (a xs : List A) : Type 0 where
  pub size : length a ≡ room
  pub held : length xs ≤ room → take (length xs) a ≡ xs

-- the work arrays by their sizes alone
pub record WorkArrays (w : Lists) : Type 0 where
  pub wanted : length w.wanted ≡ labels_most
  pub weight : length w.weight ≡ labels_most
  pub left : length w.left ≡ gaps_most
  pub right : length w.right ≡ gaps_most
  pub distance : length w.distance ≡ gaps_most
  pub kind : length w.kind ≡ gaps_most

-- the work arrays hold the labels and gaps
pub record Held (t : Typed) (w : Lists) : Type 0 where
  pub wanted : Holds labels_most w.wanted (map (λ r. r.wanted) t.labels)
  pub weight : Holds labels_most w.weight (map (λ r. r.weight) t.labels)
  pub left : Holds gaps_most w.left (map (λ g. g.left) t.gaps)
  pub right : Holds gaps_most w.right (map (λ g. g.right) t.gaps)
  pub distance : Holds gaps_most w.distance (map (λ g. g.distance) t.gaps)
  pub kind : Holds gaps_most w.kind (map (λ g. g.kind) t.gaps)

-- the answer of the loop over the lines
abbrev pub ScannedBy : Outcome → Reading → Lists → Type 0
ScannedBy (bad_line n number field) r w = r ≡ refusal number n field
ScannedBy (sheet t) r w = (r ≡ Ok (counts_of t)) × Held t w

-- how many labels and gaps the lent lists have room for
abbrev pub room_of : Lists → Counts
room_of b = record {
  labels = min (length b.wanted) (length b.weight);
  gaps = min (min (min (length b.left) (length b.right)) (length b.distance)) (length b.kind);
}

-- counts that pass 1, 2 and 4
pub record Fitting (c room : Counts) : Type 0 where
  pub labels : c.labels ≤ labels_most
  pub gaps : c.gaps ≤ gaps_most
  pub label_room : c.labels ≤ room.labels
  pub gap_room : c.gaps ≤ room.gaps

-- 1, 2, then 4, by the counts
unfoldable pub judged_by : (counts room : Counts) → Result (Unit {0}) Unread
judged_by c room =
    cond (ltb labels_most c.labels) (Err (unread 1 0 no_field))
    (cond (ltb gaps_most c.gaps) (Err (unread 2 0 no_field))
    (cond (leb c.labels room.labels && leb c.gaps room.gaps) (Ok tt) (Err (unread 4 0 no_field))))

-- the promise of the reading: its answer and the lists afterwards are the definition's
abbrev pub ReadInto : List ℕ → (before : Lists) → Reading → (after : Lists) → Type 0
ReadInto text before r after = ◌≡◌ {A = Done} (record { answer = r; lists = after }) (reading text before)
