-- What a run prints where it is refused (document 02, Item 5): four fields, the last the bad field of the text, or 0.
use Prim.Native.Nat.{ℕ, suc, ◌≤◌}
use mathlib.Core.Path.{◌≡◌, refl, ap, subst, ◌∙◌}
use mathlib.Core.List.{List, [], ◌∷◌}
use native.Mathlib.Omega.{arith}
use lib.ListN.{length, take}
use lib.IntN.{pos, negsuc}
use Rattle.ground.specs.declared.Refusal.{Refusal}
use Rattle.std.specs.Prelude.{Ok, Err}
use Rattle.ground.specs.Answers.{Answer}
use Rattle.ground.specs.Kinds.{at_least_byte}
use Rattle.least_move.specs.Bench.{P7}
use Rattle.layout.specs.BenchCalls.{RefusedSo, as_lists}
use Rattle.layout.proofs.WrongParts.{P7-rings}
use Rattle.sheet_checks.specs.Lent.{Written, gap_count, label_count}
use Rattle.sheet_checks.proofs.Told.{Told}
use Rattle.text_rows.specs.Bytes.{bytes}
use Rattle.text_rows.specs.Lines.{fields, lines}
use Rattle.text_rows.specs.Numeral.{all_digits, digits_of, number, signed, value_of, weight_of}
use Rattle.text_rows.specs.Taking.{FieldTold, no_field, row_of, same_bytes}
use Rattle.text_rows.proofs.BadLines.{no_field_lem}
use Rattle.text_reading.specs.declared.Counts.{Counts}
use Rattle.text_reading.specs.declared.Unread.{Unread}
use Rattle.text_reading.specs.Problems.{zero_lists}
use Rattle.text_reading.specs.Readings.{Reading, field_of, number_of}
use Rattle.text_reading.specs.Texts.{Done, Lists, Typed, counts_of, filled, read_from, reading, room_for, text_most}
use Rattle.text_reading.proofs.WrongReadings.{one_byte_more}
use Rattle.text_reading.proofs.FieldsTold.{field_told}
use Rattle.text_listing.specs.Listing.{listing, refused_record}
use Rattle.sheet_run.specs.Run.{LaidFrom, LaidOut, PrintedFor, RefusedShown, Run, lent, listable_read, sheet_read}
use Rattle.sheet_run.proofs.Refusals.{Small, SmallReading, small_answer, small_reading}
use Rattle.sheet_run.proofs.Enough.{take_most}
use Rattle.sheet_run.proofs.PlacedRuns.{laid_out}

-- a refused text: its number, its place and its field are printed as they were read
pub text_refused :
    {text before after : List ℕ} {n : ℕ} → Run text before n after → (u : Unread) → (reading text zero_lists).answer ≡ Err u
    → RefusedShown u.refusal u.field (take n after)
unfolding refused_record
text_refused {text} {after = after} {n = n} run u e = record {
  shown = subst (λ (q : Reading). PrintedFor q (reading text zero_lists).lists (take n after)) e run.prints;
  told = subst (λ (q : Reading). FieldTold (number_of q) (field_of q)) e (field_told text zero_lists);
}

-- a sheet that was read and is refused by the layout: no field
pub sheet_refused :
    {w : Written} {c : Counts} {l : Lists} {printed : List ℕ} (laid : LaidFrom w c l printed) → label_count (sheet_read c l) ≤ text_most
    → gap_count (sheet_read c l) ≤ text_most → (r : Refusal) → laid.answer ≡ Err r → RefusedShown r no_field printed
unfolding refused_record
sheet_refused {w} {c} {l} laid labels gaps r e =
    let few : Told Small (Err r) = subst (Told Small) e (small_answer (sheet_read c l) w laid.answer laid.after labels gaps laid.promise) in
    record {
      shown = laid.listed ∙ ap (λ (a : Answer). listing a no_field (listable_read c l laid.after)) e;
      told = no_field_lem r.number few.0 few.1;
    }

-- and so of every run on a text that is read as a sheet
pub run_refusal : {text before after : List ℕ} {n : ℕ} {c : Counts} → Run text before n after → (reading text zero_lists).answer ≡ Ok c
    → (let l = (reading text zero_lists).lists in (laid : LaidOut c l (take n after))
    × ((r : Refusal) → laid.answer ≡ Err r → RefusedShown r no_field (take n after)))
run_refusal {text} {after = after} {n} {c} run read =
    let l = (reading text zero_lists).lists in
    let laid : LaidOut c l (take n after) = subst (λ (q : Reading). PrintedFor q l (take n after)) read run.prints in
    let small : SmallReading (Ok c) l = subst (λ (q : Reading). SmallReading q l) read (small_reading text zero_lists) in
    (laid, sheet_refused laid (omega (arith, take_most c.labels l.wanted, small.0)) (omega (arith, take_most c.gaps l.left, small.1)))

-- ---- by number

module _ {before after : List ℕ} {n : ℕ} where
  -- 10: a blank line
  pub blank_prints : Run (bytes "\r\n") before n after → take n after ≡ bytes "refused,10,1,0\r\n"
  unfolding reading read_from row_of same_bytes fields lines digits_of
  blank_prints run = (text_refused run _ refl).shown

  -- 13: a word with a capital
  pub word_prints : Run (bytes "Label,0,0,1\r\n") before n after → take n after ≡ bytes "refused,13,1,1\r\n"
  unfolding reading read_from row_of same_bytes fields lines digits_of
  word_prints run = (text_refused run _ refl).shown

  -- 14: a label out of turn with a bad weight
  pub number_prints : Run (bytes "label,7,0,x\r\n") before n after → take n after ≡ bytes "refused,14,1,4\r\n"
  unfolding reading read_from row_of same_bytes fields lines number signed weight_of all_digits value_of digits_of
  number_prints run = (text_refused run _ refl).shown

  -- 15: a label out of turn, in front of a line without four fields
  pub turn_prints : Run (bytes "label,0,0,1\r\nlabel,5,0,1\r\nx\r\n") before n after → take n after ≡ bytes "refused,15,2,2\r\n"
  unfolding reading read_from row_of same_bytes fields lines number signed weight_of all_digits value_of digits_of
  turn_prints run = (text_refused run _ refl).shown

  -- 11: one byte too many, whatever it is
  pub long_prints : {text : List ℕ} → length text ≡ suc text_most → Run text before n after → take n after ≡ bytes "refused,11,0,0\r\n"
  unfolding digits_of
  long_prints {text} e run = (text_refused run _ (ap (λ (d : Done). d.answer) (one_byte_more text zero_lists e))).shown

-- 9: document 01's P7, two gaps that no placement meets
abbrev pub ring_text : List ℕ
ring_text = bytes "label,0,0,1\r\nlabel,1,0,1\r\ngap,0,1,5\r\ngap,1,0,-4\r\n"

abbrev ring_sheet : Typed
ring_sheet = record {
  labels = record { wanted = pos 0; weight = pos 1 } ∷ record { wanted = pos 0; weight = pos 1 } ∷ [];
  gaps = record { left = 0; right = 1; distance = pos 5; kind = at_least_byte } ∷ record { left = 1; right = 0; distance = negsuc 3; kind = at_least_byte } ∷ [];
}

ring_read : reading ring_text zero_lists ≡ record { answer = Ok (counts_of ring_sheet); lists = filled ring_sheet zero_lists }
unfolding reading read_from row_of same_bytes fields lines number signed weight_of all_digits value_of room_for
ring_read = refl

pub ring_prints : {before after : List ℕ} {n : ℕ} → Run ring_text before n after → take n after ≡ bytes "refused,9,0,0\r\n"
unfolding filled digits_of
ring_prints {after = after} {n = n} run =
    let laid : LaidOut (counts_of ring_sheet) (filled ring_sheet zero_lists) (take n after) = laid_out ring_sheet ring_read run in
    let known : RefusedSo P7 laid.answer laid.after =
    P7-rings as_lists (lent (counts_of ring_sheet)) laid.answer laid.after (record { carried = refl; room = refl }) laid.promise in
    (sheet_refused laid (omega arith) (omega arith) _ known.answered).shown
