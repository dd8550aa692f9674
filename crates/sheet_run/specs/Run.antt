-- What a run of the station prints for a text (document 01, "Sheet text"; document 02, Items 1 and 3 to 6). What it prints for
-- the texts of the documents' examples, and for one with the word same, follows (proofs/Document).
use Rattle.std.specs.Prelude.{ℕ, ◌≤◌, ◌<◌, ◌≡◌, true, List, ◌++◌, take, replicate, ℤ, Ok, Err}
use Rattle.ground.specs.Answers.{Answer}
use Rattle.ground.specs.declared.Label.{Label}
use Rattle.ground.specs.declared.Refusal.{Refusal}
use Rattle.exact.specs.Nearest.{round_half_up}
use Rattle.single_fractions.specs.Places.{within_places}
use Rattle.least_move.specs.Sheet.{label}
use Rattle.least_move.specs.WholeUnits.{Units, UnitsMeet}
use Rattle.sheet_checks.specs.Lent.{Read, Written, label_count, lists, place_of, sheet_of}
use Rattle.layout.specs.Promise.{Promise}
use Rattle.ground.specs.Entries.{Filled}
use Rattle.text_rows.specs.Lines.{record_of}
use Rattle.text_rows.specs.Numeral.{decimal}
use Rattle.text_rows.specs.Taking.{FieldTold, no_field}
use Rattle.text_reading.specs.declared.Counts.{Counts}
use Rattle.text_reading.specs.Problems.{zero_lists, zeros}
use Rattle.text_reading.specs.Readings.{Reading}
use Rattle.text_reading.specs.Texts.{Lists, reading}
use Rattle.text_listing.specs.Listing.{Listable, gaps_in, labels_in, listing, listing_room, place_records, printed_unit, refused_record, refused_word, slack_records}
use Rattle.ground.specs.Limits.{gaps_most, labels_most}

-- the sheet that was read: the first entries, one per label or gap
abbrev pub sheet_read : Counts → Lists → Read
sheet_read c l = record {
  wanted = take c.labels l.wanted;
  weight = take c.labels l.weight;
  gaps = lists (take c.gaps l.left) (take c.gaps l.right) (take c.gaps l.distance) (take c.gaps l.kind);
}

-- what a run lends to write: room for every sheet, over these for the places, and "a carried record of zeros"
abbrev pub lent_over : Counts → (nums dens : List ℤ) → Written
lent_over c nums dens = record {
  place_num = nums;
  place_den = dens;
  mult_num = zeros gaps_most;
  mult_den = zeros gaps_most;
  ring = replicate labels_most 0;
  back = replicate labels_most 0;
  carried = replicate c.gaps 0;
}

abbrev pub lent : Counts → Written
lent c = lent_over c (zeros labels_most) (zeros labels_most)

-- what is listed: the places that a call left, and the gaps that were read
abbrev pub listable_read : Counts → Lists → Written → Listable
listable_read c l after = record {
  place_num = take c.labels after.place_num;
  place_den = take c.labels after.place_den;
  left = take c.gaps l.left;
  right = take c.gaps l.right;
  distance = take c.gaps l.distance;
}

-- the listing of what a layout call that keeps its promise answers, lent w to write;
-- it "prints neither multipliers nor rings", and the field of a refused one is 0. For an accepted sheet the slack printed
-- for a gap of either kind is that of its places, none is negative, and that of an exact gap is 0/1 (`printed_slack_lem`,
-- `printed_held`, `printed_exact` in proofs/Slacks); of its whole units `UnitsShown` holds (proofs/Units). Of a refused one
-- `RefusedShown` holds (`sheet_refused` in proofs/RefusedRuns).
pub record LaidFrom (w : Written) (c : Counts) (l : Lists) (printed : List ℕ) : Type 0 where
  pub answer : Answer
  pub after : Written
  pub promise : Promise (sheet_read c l) w answer after
  pub listed : printed ≡ listing answer no_field (listable_read c l after)

-- the whole unit that is printed for each label
abbrev pub units_printed : Counts → Lists → Written → Units
units_printed c l after i = printed_unit (listable_read c l after) i.0

-- document 02, Item 4, of what is printed for an accepted sheet: the records of its places have these whole units, and every
-- label has one; 12 meets none of its places; each unit is that of the label's place, halves to the larger number; and "whole
-- units printed this way meet every gap"
pub record UnitsShown (c : Counts) (l : Lists) (after : Written) (printed : List ℕ) : Type 0 where
  pub shown :
      let listed = listable_read c l after in
      printed ≡ place_records (labels_in listed) listed.place_num listed.place_den (λ k. units_printed c l after (label k))
      ++ slack_records (gaps_in listed) listed
  pub every : label_count (sheet_read c l) ≤ labels_in (listable_read c l after)
  pub within : (i : Label) → i.0 < label_count (sheet_read c l) → within_places (place_of after i).num (place_of after i).den ≡ true
  pub units : (i : Label) → i.0 < label_count (sheet_read c l) → units_printed c l after i ≡ round_half_up (place_of after i).num (place_of after i).den
  pub meets : UnitsMeet (sheet_of (sheet_read c l)) (units_printed c l after)

-- document 02, Item 5, of what is printed for a refused text or sheet: a record of four fields, the last "for 13 to 15 the bad
-- field counted from 1, else 0"
pub record RefusedShown (r : Refusal) (field : ℕ) (printed : List ℕ) : Type 0 where
  pub shown : printed ≡ record_of refused_word (decimal r.number) (decimal r.place) (decimal field)
  pub told : FieldTold r.number field

-- "The program starts from a carried record of zeros". No byte that is printed can show it: from any other record of
-- that length, and whatever buffers of these sizes held, the same is printed (`start_unseen` in proofs/Decided).
abbrev pub LaidOut : Counts → Lists → List ℕ → Type 0
LaidOut c l printed = LaidFrom (lent c) c l printed

-- what is printed for a reading: "A refused sheet prints only: refused, number, place" and the field. `RefusedShown` holds
-- of it (`text_refused` in proofs/RefusedRuns).
abbrev pub PrintedFor : Reading → Lists → List ℕ → Type 0
PrintedFor (Err u) l printed = printed ≡ refused_record u.refusal u.field
PrintedFor (Ok c) l printed = LaidOut c l printed

-- the whole of a run: the first n bytes of the buffer are what is printed for the text, and the rest stays
pub record Run (text before : List ℕ) (n : ℕ) (after : List ℕ) : Type 0 where
  pub within : n ≤ listing_room
  pub prints : PrintedFor (reading text zero_lists).answer (reading text zero_lists).lists (take n after)
  pub rest : Filled n before after
