-- The loop over the lines, and what is handed over at its end.
use Prim.Native.Nat.{ℕ, suc, ◌+◌, ◌-◌, ◌≤◌, ◌<◌}
use native.Mathlib.Omega.{arith}
use native.Mathlib.Numerals.{add-one}
use mathlib.Core.Path.{◌≡◌, refl, sym, ap, subst, ◌∙◌}
use mathlib.Core.Bool.{Bool, true, false, cond, ◌&&◌}
use mathlib.Core.List.{List, [], map}
use borrow.Author.Tests.{lt-ltb, le-ltb, le-leb, ltb-false, leb-true}
use Rattle.std.proofs.lemmas.Bool.Decides.{nat_tests}
use lib.Dec.{ltb, leb}
use lib.ListN.{length, take, drop, drop_of_length-le, length-map}
use Rattle.text_rows.specs.declared.Row.{Row}
use Rattle.text_rows.specs.declared.Row.TheVariants.{Label, Gap}
use Rattle.std.specs.Prelude.{Result, Ok, Err, MatchResult, IsErrAnd}
use Rattle.text_rows.specs.declared.BadLine.{BadLine}
use Rattle.text_reading.specs.declared.Counts.{Counts}
use Rattle.text_reading.specs.declared.Unread.{Unread}
use Rattle.text_rows.specs.declared.lines.Cursor.{Cursor}
use Rattle.text_rows.specs.declared.lines.Line.{Line}
use Rattle.text_rows.specs.Lines.{lines}
use Rattle.text_rows.specs.Taking.{Taken, no_field, taken}
use Rattle.text_reading.specs.Texts.{Typed, nothing_typed, add, Outcome, bad_line, sheet, follow, read_from, outcome}
use Rattle.text_reading.specs.Texts.{text_most, Lists, counts_of, front, filled, room_for, refused_with, settled, judged, reading, Done}
use Rattle.text_rows.specs.LineAt.{LineAt}
use Rattle.text_reading.specs.Parts.{Stored, counted_with, stored_in, Holds, WorkArrays, Held, ScannedBy}
use Rattle.text_reading.specs.Readings.{Reading, unread}
use Rattle.text_reading.specs.Parts.{Fitting, judged_by, room_of, ReadInto}
use Rattle.ground.specs.Entries.{over}
use Rattle.ground.specs.Limits.{gaps_most, labels_most}
use Rattle.text_reading.proofs.ArrayLaws.{over_front, held_none, held_stored, counted_add, sizes_held}

-- what holds where a line begins: the records read so far, and that the rest decides the outcome
pub record Reached (text : List ℕ) (from : Cursor) (c : Counts) (w : Lists) : Type 0 where
  pub typed : Typed
  pub same : outcome text ≡ read_from (lines (drop from.at text)) from.line typed
  pub counts : c ≡ counts_of typed
  pub held : Held typed w
  pub within : from.at ≤ length text
  pub number : from.line ≤ from.at + 1
  pub labels_bound : c.labels ≤ from.at
  pub gaps_bound : c.gaps ≤ from.at

pub reached_start :
    (text : List ℕ) (w : Lists) → WorkArrays w → Reached text (record { at = 0; line = 1 })
    (record { labels = 0; gaps = 0 }) w
reached_start text w s = record {
  typed = nothing_typed;
  same = refl;
  counts = refl;
  held = held_none w s;
  within = omega arith;
  number = omega arith;
  labels_bound = omega arith;
  gaps_bound = omega arith;
}

labels_counted : (row : Row) (c : Counts) → (counted_with row c).labels ≤ c.labels + 1
labels_counted (Label r) c = omega arith
labels_counted (Gap g) c = omega arith

gaps_counted : (row : Row) (c : Counts) → (counted_with row c).gaps ≤ c.gaps + 1
gaps_counted (Label r) c = omega arith
gaps_counted (Gap g) c = omega arith

-- the line at a position, after this many labels
abbrev pub row_at : List ℕ → ℕ → ℕ → Counts → Taken
row_at text at end c = taken (record { labels = c.labels }) (take (end - at) (drop at text))

module _ {text : List ℕ} {from : Cursor} {c : Counts} {w : Lists} {l : Line} (p : Reached text from c w) (f : LineAt text from l) where
  -- what the line decides
  followed :
      (k : Taken) → row_at text from.at l.end c ≡ k → outcome text ≡ follow k from.line p.typed
      (read_from (lines (drop l.next.at text)) (suc from.line))
  unfolding read_from
  followed k e =
      p.same ∙ (ap (λ (ls : List (List ℕ)). read_from ls from.line p.typed) f.parted
      ∙ ap (λ (r : Taken). follow r from.line p.typed
      (read_from (lines (drop l.next.at text)) (suc from.line)))
      (ap (λ (n : ℕ). taken (record { labels = n }) (take (l.end - from.at) (drop from.at text)))
      (sym (ap (λ (x : Counts). x.labels) p.counts)) ∙ e))

  -- a line that is not taken: its number and its field are told with its line
  pub reached_bad : (b : BadLine) → row_at text from.at l.end c ≡ Err b → ScannedBy (outcome text) (Err (unread b.number from.line b.field)) w
  reached_bad b e =
      subst (λ (o : Outcome). ScannedBy o (Err (unread b.number from.line b.field)) w) (sym (followed (Err b) e)) refl

  pub reached_turn :
      (row : Row) {c' : Counts} {w' : Lists} → row_at text from.at l.end c ≡ Ok row → Stored row c w c' w'
      → Reached text l.next c' w'
  reached_turn row {c'} {w'} e s =
      let next : l.next.line ≡ suc from.line = f.number ∙ add-one from.line in
      let counted : c' ≡ counted_with row c = s.counted in
      record {
        typed = add p.typed row;
        same = rw next (followed (Ok row) e);
        counts = s.counted ∙ (ap (counted_with row) p.counts ∙ counted_add p.typed row);
        held =
            subst (Held (add p.typed row)) (sym (s.arrays ∙ ap (λ (x : Counts). stored_in row x w) p.counts))
            (held_stored p.typed w row p.held);
        within = f.rest;
        number = omega (arith, f.on, p.number);
        labels_bound = rw counted (omega (arith, labels_counted row c, p.labels_bound, f.on));
        gaps_bound = rw counted (omega (arith, gaps_counted row c, p.gaps_bound, f.on));
      }

-- where an error was mapped there was one, and it was mapped
pub mapped_err :
    {T E D : Type 0} (P : E → D → Type 0) (t : Result T E) (r : Result T D) → MatchResult t (λ x. r ≡ Ok x) (λ e. IsErrAnd r (P e))
    → (d : D) → r ≡ Err d → (e : E) × (t ≡ Err e) × P e d
mapped_err P (Ok x) r m d e = absurd (cc)
mapped_err P (Err y) r m d e = (y, refl, subst (λ o. IsErrAnd o (P y)) e m)

pub mapped_ok :
    {T E D : Type 0} (P : E → D → Type 0) (t : Result T E) (r : Result T D) → MatchResult t (λ x. r ≡ Ok x) (λ e. IsErrAnd r (P e))
    → (x : T) → r ≡ Ok x → t ≡ Ok x
mapped_ok P (Ok y) r m x e = cc
mapped_ok P (Err y) r m x e = absurd (subst (λ o. IsErrAnd o (P y)) e m)

pub reached_end :
    {text : List ℕ} {from : Cursor} {c : Counts} {w : Lists} → Reached text from c w → length text ≤ from.at
    → ScannedBy (outcome text) (Ok c) w
unfolding lines read_from
reached_end {text} {from} {c} {w} p h =
    let none : drop from.at text ≡ [] = drop_of_length-le text h in
    let ended : outcome text ≡ sheet p.typed = p.same
    ∙ ap (λ (s : List ℕ). read_from (lines s) from.line p.typed) none in
    subst (λ (o : Outcome). ScannedBy o (Ok c) w) (sym ended) (ap Ok p.counts, p.held)

pub same_lists :
    {x y : Lists} → x.wanted ≡ y.wanted → x.weight ≡ y.weight → x.left ≡ y.left → x.right ≡ y.right
    → x.distance ≡ y.distance → x.kind ≡ y.kind → x ≡ y
same_lists p q r s t u i = record { wanted = p i; weight = q i; left = r i; right = s i; distance = t i; kind = u i }

full :
    {A B : Type 0} (f : A → B) (xs : List A) {room : ℕ} {a : List B} (b : List B) → Holds room a (map f xs) → length
    xs ≤ room → over (length xs) a b ≡ front (map f xs) b
full f xs b h most = over_front (length xs) b h (omega (arith, length-map xs f)) (sym (length-map xs f))

-- the first entries of each work array over the front of its lent list
abbrev pub over_all : Counts → (work before : Lists) → Lists
over_all c w b = record {
  wanted = over c.labels w.wanted b.wanted;
  weight = over c.labels w.weight b.weight;
  left = over c.gaps w.left b.left;
  right = over c.gaps w.right b.right;
  distance = over c.gaps w.distance b.distance;
  kind = over c.gaps w.kind b.kind;
}

-- what is handed over from arrays that hold the labels and gaps
held_full :
    (t : Typed) (w b : Lists) → Held t w → length t.labels ≤ labels_most → length t.gaps ≤ gaps_most → over_all
    (counts_of t) w b ≡ filled t b
unfolding filled
held_full t w b h labels gaps =
    same_lists (full (λ r. r.wanted) t.labels b.wanted h.wanted labels)
    (full (λ r. r.weight) t.labels b.weight h.weight labels)
    (full (λ g. g.left) t.gaps b.left h.left gaps)
    (full (λ g. g.right) t.gaps b.right h.right gaps)
    (full (λ g. g.distance) t.gaps b.distance h.distance gaps)
    (full (λ g. g.kind) t.gaps b.kind h.kind gaps)

-- an answer with the lists afterwards: a refusal leaves them
abbrev pub answered : Counts → (work before : Lists) → Result (Unit {0}) Unread → Done
answered c w b (Err u) = record { answer = Err u; lists = b }
answered c w b (Ok _) = record { answer = Ok c; lists = over_all c w b }

room_same : (t : Typed) (b : Lists) → (leb (length t.labels) (room_of b).labels && leb (length t.gaps) (room_of b).gaps) ≡ room_for t b
unfolding room_for
room_same t b = grind (arith, nat_tests)

-- 1, 2 and 4 by the counts are those of the text, and what is handed over fills the lists
pub handed : (t : Typed) (w b : Lists) → Held t w → answered (counts_of t) w b (judged_by (counts_of t) (room_of b)) ≡ settled t b
unfolding judged_by
handed t w b h =
    rw (room_same t b) (split (ltb labels_most (length t.labels)) refl (ltb gaps_most (length t.gaps)) refl (room_for t b)) where
      split :
          (p : Bool) → ltb labels_most (length t.labels) ≡ p → (q : Bool) → ltb gaps_most (length t.gaps) ≡ q
          → (r : Bool) → answered (counts_of t) w b
          (cond p (Err (unread 1 0 no_field)) (cond q (Err (unread 2 0 no_field)) (cond r (Ok tt) (Err (unread 4 0 no_field)))))
          ≡ cond p (refused_with 1 0 no_field b) (cond q (refused_with 2 0 no_field b) (cond r (record {
            answer = Ok (counts_of t);
            lists = filled t b;
          }) (refused_with 4 0 no_field b)))
      split true e q g r = refl
      split false e true g r = refl
      split false e false g false = refl
      split false e false g true =
          ap (λ (l : Lists). record { answer = Ok (counts_of t); lists = l })
          (held_full t w b h (ltb-false labels_most _ e) (ltb-false gaps_most _ g))

-- 11 before everything
pub long_text : (text : List ℕ) (b : Lists) (u : Unread) → text_most < length text → u ≡ unread 11 0 no_field → ReadInto text b (Err u) b
unfolding reading
long_text text b u h e = rw (e, lt-ltb text_most (length text) h)

pub short_text : (text : List ℕ) (b : Lists) → length text ≤ text_most → reading text b ≡ judged (outcome text) b
unfolding reading
short_text text b h = rw (le-ltb text_most (length text) h)

-- a bad line leaves the lists
bad_read : (o : Outcome) (w b : Lists) (u : Unread) → ScannedBy o (Err u) w → record { answer = Err u; lists = b } ≡ judged o b
bad_read (bad_line n number field) w b u s = ap (λ (x : Reading). record { answer = x; lists = b }) s
bad_read (sheet t) w b u s = absurd (cc s.0)

sheet_read_lem : (o : Outcome) (w b : Lists) (c : Counts) → ScannedBy o (Ok c) w → answered c w b (judged_by c (room_of b)) ≡ judged o b
sheet_read_lem (bad_line n number field) w b c s = absurd (cc)
sheet_read_lem (sheet t) w b c s = let q : c ≡ counts_of t = cc s.0 in rw q (handed t w b s.1)

module _ (text : List ℕ) (w b : Lists) (h : length text ≤ text_most) where
  pub read_bad : (u : Unread) → ScannedBy (outcome text) (Err u) w → ReadInto text b (Err u) b
  read_bad u s = bad_read (outcome text) w b u s ∙ sym (short_text text b h)

  -- as it is judged by the room that the lists have
  module _ (c room : Counts) (s : ScannedBy (outcome text) (Ok c) w) (labels : room.labels ≡ (room_of b).labels) (gaps : room.gaps ≡ (room_of b).gaps) where
    told : (r : Result (Unit {0}) Unread) → r ≡ judged_by c room → answered c w b r ≡ reading text b
    told r j =
        ap (answered c w b) (j ∙ λ i. judged_by c (record { labels = labels i; gaps = gaps i }))
        ∙ sheet_read_lem (outcome text) w b c s ∙ sym (short_text text b h)

    pub read_refused : (u : Unread) → Err u ≡ judged_by c room → ReadInto text b (Err u) b
    read_refused u j = told (Err u) j

    pub read_sheet : (after : Lists) → Ok tt ≡ judged_by c room → after ≡ over_all c w b → ReadInto text b (Ok c) after
    read_sheet after j o = rw o (told (Ok tt) j)

-- the work arrays of a text without a bad line keep their sizes
pub scanned_sizes : (o : Outcome) (w : Lists) (c : Counts) → ScannedBy o (Ok c) w → WorkArrays w
scanned_sizes (bad_line n number field) w c s = absurd (cc)
scanned_sizes (sheet t) w c s = sizes_held t w s.1

-- two tests that hold
both_true : (p q : Bool) → (p && q) ≡ true → (p ≡ true) × (q ≡ true)
both_true true q e = (refl, e)
both_true false q e = absurd (cc)

module _ (c room : Counts) where
  roomy_fitting : c.labels ≤ labels_most → c.gaps ≤ gaps_most → (leb c.labels room.labels && leb c.gaps room.gaps) ≡ true → Fitting c room
  roomy_fitting labels gaps e =
      let parts = both_true (leb c.labels room.labels) (leb c.gaps room.gaps) e in
      record { labels = labels; gaps = gaps; label_room = leb-true _ _ parts.0; gap_room = leb-true _ _ parts.1 }

  -- counts are taken only if they pass 1, 2 and 4
  pub fitting : Ok tt ≡ judged_by c room → Fitting c room
  unfolding judged_by
  fitting = split (ltb labels_most c.labels) refl (ltb gaps_most c.gaps) refl (leb c.labels room.labels && leb c.gaps room.gaps) refl
    where
      split : (p : Bool) → ltb labels_most c.labels ≡ p → (q : Bool) → ltb gaps_most c.gaps ≡ q
          → (r : Bool) → (leb c.labels room.labels && leb c.gaps room.gaps) ≡ r
          → ◌≡◌ {A = Result (Unit {0}) Unread} (Ok tt) (cond p (Err (unread 1 0 no_field)) (cond q (Err (unread 2 0 no_field)) (cond r (Ok tt) (Err (unread 4 0 no_field)))))
          → Fitting c room
      split true e q g r f h = absurd (cc)
      split false e true g r f h = absurd (cc)
      split false e false g false f h = absurd (cc)
      split false e false g true f h = roomy_fitting (ltb-false labels_most _ e) (ltb-false gaps_most _ g) f

  -- they are if they do
  pub fitting_judged : Fitting c room → Ok tt ≡ judged_by c room
  unfolding judged_by
  fitting_judged f =
      rw (
        le-ltb labels_most c.labels f.labels,
        le-ltb gaps_most c.gaps f.gaps,
        le-leb c.labels room.labels f.label_room,
        le-leb c.gaps room.gaps f.gap_room,
      )

  -- 4 where 1 and 2 are passed and a list is too short, whichever it is
  pub short_judged : c.labels ≤ labels_most → c.gaps ≤ gaps_most → (Fitting c room → ⊥) → Err (unread 4 0 no_field) ≡ judged_by c room
  unfolding judged_by
  short_judged labels gaps lacks =
      rw (le-ltb labels_most c.labels labels, le-ltb gaps_most c.gaps gaps) (go (leb c.labels room.labels && leb c.gaps room.gaps) refl)
    where
      go : (t : Bool) → (leb c.labels room.labels && leb c.gaps room.gaps) ≡ t
          → ◌≡◌ {A = Result (Unit {0}) Unread} (Err (unread 4 0 no_field)) (cond t (Ok tt) (Err (unread 4 0 no_field)))
      go true e = absurd (lacks (roomy_fitting labels gaps e))
      go false e = refl
