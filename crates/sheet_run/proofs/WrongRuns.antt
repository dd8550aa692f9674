-- Wrong runs of document 01's text, of document 02's mixed sheet (Item 3), of its labels that cross (Item 4), of labels joined
-- rigidly (Item 6), of a text with a weight of zero and of one that is refused: what the promise of a run says against each.
-- Nothing cites them.
use Prim.Native.Nat.{ℕ}
use mathlib.Core.Path.{◌≡◌, refl, sym, ap, ◌∙◌}
use mathlib.Core.List.{List, [], ◌∷◌, ◌++◌}
use native.Mathlib.Omega.{arith}
use lib.ListN.{get_or, take}
use lib.IntN.{pos, negsuc}
use Rattle.ground.specs.Answers.{Answer, placed}
use Rattle.sheet_checks.specs.Refusals.{offender_below, table_of}
use Rattle.layout.proofs.Facts.{refused_by_table}
use Rattle.text_rows.specs.Numeral.{digits_of}
use Rattle.text_rows.specs.Bytes.{bytes}
use Rattle.text_rows.specs.Taking.{no_field}
use Rattle.text_reading.specs.Problems.{zero_lists}
use Rattle.text_reading.specs.Texts.{counts_of, filled, reading, room_for}
use Rattle.text_reading.proofs.Examples.{document_text, mixed_text, crossing_text, pair_text}
use Rattle.text_reading.proofs.WrongReadings.{zero_text, zero_sheet, zero_typed}
use Rattle.text_listing.specs.Listing.{listing, place_record, place_records, refused_record}
use Rattle.text_listing.proofs.Samples.{first_record, second_record, slack_record_sample}
use Rattle.sheet_run.specs.Run.{LaidOut, Run, listable_read}
use Rattle.sheet_run.proofs.PlacedRuns.{laid_out}
use Rattle.sheet_run.proofs.Document.{document_prints, mixed_prints, crossing_prints, pair_prints}
use Rattle.sheet_run.proofs.RefusedRuns.{blank_prints}

-- the listing is written, and no byte of it is told
pub nothing_told : {before after : List ℕ} → Run document_text before 0 after → ⊥
nothing_told r = let first : ◌≡◌ {A = ℕ} 0 112 = ap (λ (l : List ℕ). get_or l 0 0) (document_prints r) in omega arith

-- a refused text prints nothing, as a sheet of no labels does: here a blank line
pub refusal_unprinted : {before after : List ℕ} → Run (bytes "\r\n") before 0 after → ⊥
refusal_unprinted r = let first : ◌≡◌ {A = ℕ} 0 114 = ap (λ (l : List ℕ). get_or l 0 0) (blank_prints r) in omega arith

-- numerators and denominators change places: the first record's numerator is 2, and not -3
pub places_swapped :
    {before after : List ℕ} {n : ℕ} → Run document_text before n after →
    take n after ≡ listing placed no_field (record {
      place_num = pos 2 ∷ pos 2 ∷ [];
      place_den = negsuc 2 ∷ pos 9 ∷ [];
      left = 0 ∷ [];
      right = 1 ∷ [];
      distance = pos 6 ∷ [];
    }) → ⊥
unfolding place_records place_record digits_of
places_swapped r swapped =
    let eighth : ◌≡◌ {A = ℕ} 50 45 = ap (λ (l : List ℕ). get_or l 8 0) (sym swapped ∙ document_prints r) in
    omega arith

-- the places are printed, and no slack after them
pub slack_missing : {before after : List ℕ} {n : ℕ} → Run document_text before n after → take n after ≡ first_record ++ second_record → ⊥
slack_missing r missing =
    let next : ◌≡◌ {A = ℕ} 0 115 = ap (λ (l : List ℕ). get_or l 32 0) (sym missing ∙ document_prints r) in
    omega arith

-- the slack is printed before the places
pub slack_first : {before after : List ℕ} {n : ℕ} → Run document_text before n after → take n after ≡ slack_record_sample ++ first_record ++ second_record → ⊥
slack_first r early =
    let first : ◌≡◌ {A = ℕ} 115 112 = ap (λ (l : List ℕ). get_or l 0 0) (sym early ∙ document_prints r) in
    omega arith

-- halves go away from zero, as before document 02: -3/2 prints as -2
pub document_away :
    {before after : List ℕ} {n : ℕ} → Run document_text before n after →
    take n after ≡ bytes "place,0,-3,2,-2\r\nplace,1,9,2,5\r\nslack,0,0,1\r\n" → ⊥
document_away r away =
    let unit : ◌≡◌ {A = ℕ} 50 49 = ap (λ (l : List ℕ). get_or l 14 0) (sym away ∙ document_prints r) in
    omega arith

-- "the print has 1 and -1, two units apart"
pub crossing_away :
    {before after : List ℕ} {n : ℕ} → Run crossing_text before n after →
    take n after ≡ bytes "place,0,1,2,1\r\nplace,1,-1,2,-1\r\nslack,0,0,1\r\n" → ⊥
crossing_away r away =
    let unit : ◌≡◌ {A = ℕ} 45 48 = ap (λ (l : List ℕ). get_or l 28 0) (sym away ∙ crossing_prints r) in
    omega arith

-- the word same asks for at least the distance: both labels would stay where they are wanted, 4 units too far apart
pub same_as_gap :
    {before after : List ℕ} {n : ℕ} → Run pair_text before n after →
    take n after ≡ bytes "place,0,0,1,0\r\nplace,1,10,1,10\r\nslack,0,4,1\r\n" → ⊥
same_as_gap r apart =
    let place : ◌≡◌ {A = ℕ} 48 50 = ap (λ (l : List ℕ). get_or l 8 0) (sym apart ∙ pair_prints r) in
    omega arith

-- a blank weight counts one: the places of document 02's mixed sheet would be -11/2 and 33/2
pub blank_counts_one :
    {before after : List ℕ} {n : ℕ} → Run mixed_text before n after →
    take n after ≡ bytes "place,0,-11,2,-5\r\nplace,1,33,2,17\r\nslack,0,0,1\r\n" → ⊥
blank_counts_one r one =
    let tenth : ◌≡◌ {A = ℕ} 49 44 = ap (λ (l : List ℕ). get_or l 10 0) (sym one ∙ mixed_prints r) in
    omega arith

-- a weight of zero that is typed does not count ten: it is refused with 6, as a lent one is
pub typed_zero_refused : {before after : List ℕ} {n : ℕ} → Run zero_text before n after → take n after ≡ bytes "refused,6,0,0\r\n"
unfolding reading room_for filled table_of offender_below refused_record digits_of
typed_zero_refused {after = after} {n = n} r =
    laid.listed ∙ ap (λ (a : Answer). listing a no_field (listable_read (counts_of zero_sheet) (filled zero_sheet zero_lists) laid.after)) (refused_by_table laid.promise refl).0
  where
    laid : LaidOut (counts_of zero_sheet) (filled zero_sheet zero_lists) (take n after)
    laid = laid_out zero_sheet (rw zero_typed) r

-- a blank weight is refused, as a lent weight of zero is
pub blank_refused :
    {before after : List ℕ} {n : ℕ} → Run mixed_text before n after → take n after ≡ bytes "refused,6,0,0\r\n" → ⊥
blank_refused r told =
    let first : ◌≡◌ {A = ℕ} 114 112 = ap (λ (l : List ℕ). get_or l 0 0) (sym told ∙ mixed_prints r) in
    omega arith
