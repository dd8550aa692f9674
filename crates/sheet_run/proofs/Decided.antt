-- The promise of a run decides every byte that is printed:
-- what it leaves open, the ring and the multipliers, is not printed.
use Prim.Native.Nat.{ℕ, ◌≤◌, ◌<◌}
use mathlib.Core.Path.{◌≡◌, refl, sym, ap, ◌∙◌}
use mathlib.Core.List.{List}
use native.Mathlib.Omega.{arith}
use lib.ListN.{length, get_or, take, length-replicate}
use lib.Seq.{get_or-take, length-take-le, ext_get_or}
use lib.IntN.{ℤ, pos}
use Rattle.exact.specs.declared.Fraction.{Fraction}
use Rattle.ground.specs.declared.Label.{Label}
use Rattle.least_move.specs.Sheet.{label}
use Rattle.std.specs.Prelude.{Ok, Err}
use Rattle.ground.specs.Limits.{labels_most}
use Rattle.sheet_checks.specs.Lent.{Written, label_count, sheet_of, place_of, multiplier_of}
use Rattle.sheet_checks.specs.declared.check.Room.{Room}
use Rattle.sheet_checks.specs.Refusals.{pass, room_of, table_for, table}
use Rattle.layout.specs.Promise.{Accepted}
use Rattle.ground.specs.Entries.{Filled}
use Rattle.ground.specs.Answers.{Answer, placed, refusal, ring_length_of}
use Rattle.layout.proofs.Facts.{refused_by_table, judged, places_known}
use Rattle.text_rows.specs.Taking.{no_field}
use Rattle.text_reading.specs.declared.Counts.{Counts}
use Rattle.text_reading.specs.Problems.{zero_lists}
use Rattle.text_reading.specs.Readings.{Reading}
use Rattle.text_reading.specs.Texts.{Lists, reading}
use Rattle.text_listing.specs.Listing.{listing, refused_record}
use Rattle.sheet_run.specs.Run.{LaidFrom, PrintedFor, Run, lent, listable_read, sheet_read}
use Rattle.sheet_run.proofs.Refusals.{SmallReading, small_reading}

-- a refusal's ring is not printed
ring_unprinted :
    (number place ring ring' : ℕ) → refused_record (record { number = number; place = place; ring = ring }) no_field
    ≡ refused_record (record { number = number; place = place; ring = ring' }) no_field
unfolding refused_record
ring_unprinted number place ring ring' = refl

-- the first numbers of two lists that agree on them
first_same : (n : ℕ) (xs ys : List ℤ) → n ≤ length xs → n ≤ length ys → ((k : ℕ) → k < n → get_or xs k (pos 0) ≡ get_or ys k (pos 0)) → take n xs ≡ take n ys
first_same n xs ys hx hy same =
    ext_get_or (pos 0) (take n xs) (take n ys) (length-take-le n xs hx ∙ sym (length-take-le n ys hy))
    (λ i h.
    let below : i < n = omega (arith, length-take-le n xs hx) in
    get_or-take n xs i (pos 0) below ∙ same i below ∙ sym (get_or-take n ys i (pos 0) below))

-- two calls on a sheet that was read, lent as much room as a run lends, with any carried records and buffers
module _ (c : Counts) (l : Lists) (few : c.labels ≤ labels_most) (known : c.labels ≤ length l.wanted) {w w' : Written}
    (rooms : room_of w ≡ room_of (lent c)) (rooms' : room_of w' ≡ room_of (lent c)) {p q : List ℕ} (one : LaidFrom w c l p) (two : LaidFrom w' c l q) where
  counted : label_count (sheet_read c l) ≡ c.labels
  counted = length-take-le c.labels l.wanted known

  -- a list of places of an accepted sheet still has its 48 entries
  room : {before after : List ℤ} → length before ≡ 48 → Filled (label_count (sheet_read c l)) before after → c.labels ≤ length after
  room e filled = omega (arith, filled.size)

  wide : (v : Written) → room_of v ≡ room_of (lent c) → (length v.place_num ≡ 48) × (length v.place_den ≡ 48)
  wide v e = (
    ap (λ (r : Room). r.places) e ∙ length-replicate 48 (pos 0),
    ap (λ (r : Room). r.place_dens) e ∙ length-replicate 48 (pos 0),
  )

  tables : table (sheet_read c l) w' ≡ table (sheet_read c l) w
  tables = ap (table_for (sheet_read c l)) (rooms' ∙ sym rooms)

  -- the same answer over the same first places is printed alike, since both list the gaps that were read
  alike : one.answer ≡ two.answer → take c.labels one.after.place_num ≡ take c.labels two.after.place_num
      → take c.labels one.after.place_den ≡ take c.labels two.after.place_den → p ≡ q
  alike a nums dens = one.listed ∙ rw (a, nums, dens) (sym two.listed)

  both_refused : (number place ring ring' : ℕ) → one.answer ≡ refusal number place ring → two.answer ≡ refusal number place ring' → p ≡ q
  both_refused number place ring ring' a b =
      one.listed
      ∙ ap (λ (x : Answer). listing x no_field (listable_read c l one.after)) a
      ∙ ring_unprinted number place ring ring'
      ∙ sym (ap (λ (x : Answer). listing x no_field (listable_read c l two.after)) b)
      ∙ sym two.listed

  both_placed : one.answer ≡ placed → Accepted (sheet_of (sheet_read c l)) w one.after → two.answer ≡ placed
      → Accepted (sheet_of (sheet_read c l)) w' two.after → ((i : Label) → i.0 < label_count (sheet_read c l)
      → place_of two.after i ≡ place_of one.after i) → p ≡ q
  unfolding sheet_of
  both_placed a first b second same =
      alike (a ∙ sym b)
      (first_same c.labels one.after.place_num two.after.place_num (room (wide w rooms).0 first.place_nums)
      (room (wide w' rooms').0 second.place_nums)
      (λ k h. sym (ap (λ (f : Fraction). f.num) (same (label k) (omega (arith, counted))))))
      (first_same c.labels one.after.place_den two.after.place_den (room (wide w rooms).1 first.place_dens)
      (room (wide w' rooms').1 second.place_dens)
      (λ k h. sym (ap (λ (f : Fraction). f.den) (same (label k) (omega (arith, counted))))))

  pub start_unseen : p ≡ q
  unfolding sheet_of
  start_unseen = go (table (sheet_read c l) w) refl
    where
      passed : table (sheet_read c l) w ≡ pass → p ≡ q
      passed e =
          judged one.promise e
          (λ a first.
          let known_two = places_known two.promise (tables ∙ e) (place_of one.after) (multiplier_of one.after) first.conditions first.places_lowest in
          judged two.promise (tables ∙ e)
          (λ b second. both_placed a first b second known_two.1)
          (λ b none _. absurd (none (place_of one.after) first.least.feasible)))
          (λ a none _.
          judged two.promise (tables ∙ e)
          (λ b second. absurd (none (place_of two.after) second.least.feasible))
          (λ b _ _. both_refused 9 0 (ring_length_of one.answer) (ring_length_of two.answer) a b))

      go : (v : Answer) → table (sheet_read c l) w ≡ v → p ≡ q
      go (Err r) e =
          both_refused r.number r.place 0 0 (refused_by_table one.promise e).0 (refused_by_table two.promise (tables ∙ e)).0
      go (Ok _) e = passed e

-- the whole: two runs on one text print the same, whatever stood in their buffers, so a text has one listing
pub run_same : {text before before' after after' : List ℕ} {n n' : ℕ} → Run text before n after → Run text before' n' after' → take n after ≡ take n' after'
run_same {text} {before} {before'} {after} {after'} {n} {n'} one two =
    go (reading text zero_lists).answer (reading text zero_lists).lists (small_reading text zero_lists) one.prints two.prints
  where
    go : (r : Reading) (l : Lists) → SmallReading r l → PrintedFor r l (take n after) → PrintedFor r l (take n' after') → take n after ≡ take n' after'
    go (Err u) l s a b = a ∙ sym b
    go (Ok c) l s a b = start_unseen c l s.0 s.2 refl refl a b
