-- 24,576 bytes are enough for what any run prints, so the listing is never refused with 4.
use Prim.Native.Nat.{ℕ, zero, suc, ◌≤◌, ◌<◌}
use mathlib.Core.Path.{◌≡◌, refl}
use mathlib.Core.Bool.{Bool, true, false}
use mathlib.Core.List.{List, [], ◌∷◌}
use native.Mathlib.Omega.{arith}
use lib.Dec.{ltb}
use lib.ListN.{length, get_or, take, get_or-eq_default}
use lib.Seq.{get_or-take, length-take-le}
use lib.IntN.{ℤ, pos, nat_abs}
use borrow.Author.Tests.{ltb-true, ltb-false}
use mir.Syntax.{w64}
use mir.Val.{SFits}
use Rattle.ground.specs.declared.Refusal.{Refusal}
use Rattle.algebra.proofs.Quotient.{small_fits}
use Rattle.least_move.specs.Sheet.{label}
use Rattle.std.specs.Prelude.{Ok, Err}
use Rattle.ground.specs.Answers.{Answer, placed}
use Rattle.ground.specs.Limits.{gaps_most, labels_most}
use Rattle.sheet_checks.specs.Lent.{Written, label_count, sheet_of}
use Rattle.layout.specs.Promise.{Promise, Accepted}
use Rattle.layout.proofs.Facts.{placed_accepted}
use Rattle.text_rows.specs.Taking.{FieldTold, no_field}
use Rattle.text_rows.proofs.BadLines.{no_field_lem}
use Rattle.text_reading.specs.declared.Counts.{Counts}
use Rattle.text_reading.specs.Problems.{zero_lists}
use Rattle.text_reading.specs.Readings.{Reading, field_of, number_of}
use Rattle.text_reading.specs.Texts.{Lists, reading, text_most}
use Rattle.text_reading.proofs.FieldsTold.{field_told}
use Rattle.text_listing.specs.Listing.{listing, refused_record, listing_room}
use Rattle.text_listing.proofs.Size.{AllFit, length_refused_record, length_sheet_records}
use Rattle.sheet_run.specs.Run.{lent, listable_read, PrintedFor, sheet_read}
use Rattle.sheet_run.proofs.Refusals.{SmallReading, small_answer, small_reading}

pub take_most : {A : Type 0} (n : ℕ) (l : List A) → length (take n l) ≤ n
take_most zero l = omega arith
take_most (suc n) [] = omega arith
take_most (suc n) (x ∷ l) = omega (arith, take_most n l)

pub refused_most : (r : Refusal) (field : ℕ) → FieldTold r.number field → r.place ≤ text_most → length (refused_record r field) ≤ listing_room
refused_most r field told place =
    omega (
      arith,
      length_refused_record r field (record { fits = omega (arith, told.number_bound) }) (record { fits = omega arith })
          (record { fits = omega (arith, told.field_most) }),
    )

-- the first numbers of a list fit if each within its first n is small
first_fit : (n : ℕ) (l : List ℤ) → ((k : ℕ) → k < n → nat_abs (get_or l k (pos 0)) ≤ 5472000000) → AllFit (take n l)
first_fit n l small k = go (ltb k n) refl
  where
    go : (t : Bool) → ltb k n ≡ t → SFits w64 (get_or (take n l) k (pos 0))
    go true e = rw (get_or-take n l k (pos 0) (ltb-true k n e)) (small_fits (get_or l k (pos 0)) (omega (arith, small k (ltb-true k n e))))
    go false e = rw (get_or-eq_default (take n l) (pos 0) {n = k} (omega (arith, take_most n l, ltb-false k n e))) (small_fits (pos 0) (omega arith))

-- a layout of the sheet that was read
module _ (c : Counts) (l : Lists) (w after : Written) (few : c.labels ≤ labels_most) (gaps : c.gaps ≤ gaps_most) (known : c.labels ≤ length l.wanted) where
  -- its labels are those that were counted
  counted : label_count (sheet_read c l) ≡ c.labels
  counted = length-take-le c.labels l.wanted known

  -- "Every place is over a denominator of at most 4,800 and lies within 1,140,000 of zero"; any slack fits its record
  placed_most : Accepted (sheet_of (sheet_read c l)) w after → length (listing placed no_field (listable_read c l after)) ≤ listing_room
  unfolding sheet_of
  placed_most a =
      omega (
        arith,
        length_sheet_records (listable_read c l after) (omega (arith, take_most c.labels after.place_num)) (omega (arith, take_most c.gaps l.left))
            (first_fit c.labels after.place_num (λ k h. omega (arith, a.near (label k) (omega (arith, counted)), a.den_most (label k) (omega (arith, counted)))))
            (first_fit c.labels after.place_den (λ k h. omega (arith, a.den_most (label k) (omega (arith, counted))))),
      )

  -- its listing
  pub laid_out_most : (a : Answer) → Promise (sheet_read c l) w a after → length (listing a no_field (listable_read c l after)) ≤ listing_room
  laid_out_most (Err x) p =
      let small = small_answer (sheet_read c l) w (Err x) after (omega (arith, counted)) (omega (arith, take_most c.gaps l.left)) p in
      refused_most x no_field (no_field_lem x.number small.0 small.1) small.2
  laid_out_most (Ok _) p = placed_most (placed_accepted p refl)

-- what is printed for any text has at most 24,576 bytes
pub printed_most : (text printed : List ℕ) → PrintedFor (reading text zero_lists).answer (reading text zero_lists).lists printed → length printed ≤ listing_room
printed_most text printed h =
    go (reading text zero_lists).answer (reading text zero_lists).lists (small_reading text zero_lists) (field_told text zero_lists) h
  where
    go : (r : Reading) (l : Lists) → SmallReading r l → FieldTold (number_of r) (field_of r) → PrintedFor r l printed → length printed ≤ listing_room
    go (Err u) l s told e = rw e (refused_most u.refusal u.field told s)
    go (Ok c) l s told d = rw d.listed (laid_out_most c l (lent c) d.after s.0 s.1 s.2 d.answer d.promise)
