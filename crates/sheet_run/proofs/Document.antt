-- Whole runs that follow from the promise: whatever keeps it prints these bytes for the text of document 01's own run, for
-- that of document 02's mixed sheet (Item 3), for that of its labels that cross (Item 4) and for two labels joined rigidly
-- (Item 6).
use Prim.Native.Nat.{ℕ}
use mathlib.Core.Path.{◌≡◌, refl, ◌∙◌}
use mathlib.Core.List.{List, ◌++◌}
use native.Mathlib.Omega.{arith}
use lib.Dec.{lit<}
use lib.ListN.{take}
use Rattle.least_move.specs.Bench.{P3, mixed, crossing, joined, bench}
use Rattle.layout.specs.BenchCalls.{EachCall, PlacedSo}
use Rattle.layout.proofs.BenchCalls.{case_answers}
use Rattle.text_reading.specs.Texts.{filled, room_for, reading}
use Rattle.text_reading.proofs.Examples.{document_text, document_sheet, document_run, mixed_text, mixed_sheet, mixed_read}
use Rattle.text_reading.proofs.Examples.{crossing_text, crossing_sheet, crossing_read, pair_text, pair_sheet, pair_read}
use Rattle.text_listing.proofs.Samples.{first_record, run_listed, second_record, slack_record_sample, mixed_listed, mixed_listing, crossing_listed, crossing_listing, pair_listed, pair_listing}
use Rattle.sheet_run.specs.Run.{Run}
use Rattle.sheet_run.proofs.PlacedRuns.{Tells, placed_prints}

-- ---- document 01's run: its text is read as the bench's P3

P3-lays : EachCall P3.sheet (PlacedSo P3)
unfolding bench
P3-lays = case_answers 2 (lit< tt)

document_tells : Tells document_text document_sheet P3
unfolding reading room_for filled
document_tells = record {
  typed = rw document_run;
  read_as = refl;
  lent_with = record { carried = refl; room = refl };
  per_label = refl;
  labels = refl;
  few = omega arith;
}

-- a run on document 01's text that keeps the promise prints document 01's listing, with -1 and 5 (document 02, Item 4), and
-- after its places the slack of its gap
pub document_prints : {before after : List ℕ} {n : ℕ} → Run document_text before n after → take n after ≡ first_record ++ second_record ++ slack_record_sample
unfolding filled
document_prints r = placed_prints document_tells P3-lays r ∙ run_listed

-- ---- document 02, Item 3: the text with a blank weight is read as the bench's mixed sheet

mixed_lays : EachCall mixed.sheet (PlacedSo mixed)
unfolding bench
mixed_lays = case_answers 11 (lit< tt)

mixed_tells : Tells mixed_text mixed_sheet mixed
unfolding reading room_for filled
mixed_tells = record {
  typed = rw mixed_read;
  read_as = refl;
  lent_with = record { carried = refl; room = refl };
  per_label = refl;
  labels = refl;
  few = omega arith;
}

-- a run on it that keeps the promise prints -1 and 21
pub mixed_prints : {before after : List ℕ} {n : ℕ} → Run mixed_text before n after → take n after ≡ mixed_listing
unfolding filled
mixed_prints r = placed_prints mixed_tells mixed_lays r ∙ mixed_listed

-- ---- document 02, Item 4: the text of the labels that cross

crossing_lays : EachCall crossing.sheet (PlacedSo crossing)
unfolding bench
crossing_lays = case_answers 12 (lit< tt)

crossing_tells : Tells crossing_text crossing_sheet crossing
unfolding reading room_for filled
crossing_tells = record {
  typed = rw crossing_read;
  read_as = refl;
  lent_with = record { carried = refl; room = refl };
  per_label = refl;
  labels = refl;
  few = omega arith;
}

-- a run on it that keeps the promise prints 1 and 0
pub crossing_prints : {before after : List ℕ} {n : ℕ} → Run crossing_text before n after → take n after ≡ crossing_listing
unfolding filled
crossing_prints r = placed_prints crossing_tells crossing_lays r ∙ crossing_listed

-- ---- document 02, Item 6: the text of two labels joined rigidly

joined_lays : EachCall joined.sheet (PlacedSo joined)
unfolding bench
joined_lays = case_answers 13 (lit< tt)

pair_tells : Tells pair_text pair_sheet joined
unfolding reading room_for filled
pair_tells = record {
  typed = rw pair_read;
  read_as = refl;
  lent_with = record { carried = refl; room = refl };
  per_label = refl;
  labels = refl;
  few = omega arith;
}

-- a run on it that keeps the promise prints 2 and 8, and a slack of 0/1
pub pair_prints : {before after : List ℕ} {n : ℕ} → Run pair_text before n after → take n after ≡ pair_listing
unfolding filled
pair_prints r = placed_prints pair_tells joined_lays r ∙ pair_listed
