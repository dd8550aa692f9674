-- From the steps of a run to the whole.
use Prim.Native.Nat.{ℕ, ◌≤◌}
use mathlib.Core.Path.{◌≡◌, sym, ap, subst, subst₂, ◌∙◌}
use mathlib.Core.List.{List}
use native.Mathlib.Omega.{arith}
use lib.ListN.{length, take}
use lib.Seq.{length-take-le}
use lib.IntN.{ℤ}
use Rattle.std.specs.Prelude.{Ok, Err}
use Rattle.ground.specs.Answers.{Answer}
use Rattle.ground.specs.declared.problem.Problem.{Problem}
use Rattle.text_rows.specs.Taking.{FieldTold, no_field}
use Rattle.text_reading.specs.declared.Unread.{Unread}
use Rattle.text_reading.specs.Problems.{problem_of, problem_read, problem_told, zero_lists, zeros}
use Rattle.text_reading.specs.Readings.{Reading, field_of, number_of}
use Rattle.text_reading.specs.Texts.{Lists, reading}
use Rattle.text_reading.proofs.FieldsTold.{field_told}
use Rattle.text_listing.specs.Listing.{Listable, Within, listing, listing_room, refused_record}
use Rattle.sheet_run.specs.Run.{LaidOut, PrintedFor, Run, lent_over, listable_read}
use Rattle.sheet_run.specs.Steps.{Holds, Answered, Printed, PrintedRead, counts_in, lists_in}
use Rattle.sheet_run.proofs.Refusals.{SmallReading, small_reading}
use Rattle.sheet_run.proofs.Enough.{laid_out_most, refused_most, take_most}

-- ---- the sheet that was read

-- what is listed, over these places
abbrev pub listed_over : Problem → (nums dens : List ℤ) → Listable
listed_over p nums dens = listable_read (counts_in p) (lists_in p) (lent_over (counts_in p) nums dens)

-- the first n of two lists that have room for them are as many
first_even : {A B : Type 0} (n : ℕ) (xs : List A) (ys : List B) → n ≤ length xs → n ≤ length ys → length (take n xs) ≡ length (take n ys)
first_even n xs ys hx hy = length-take-le n xs hx ∙ sym (length-take-le n ys hy)

-- it is within the limits of a listing
pub within_read : (p : Problem) (nums dens : List ℤ) → Holds p → length nums ≡ 48 → length dens ≡ 48 → length p.left ≡ 192 → length p.right ≡ 192
    → length p.distance ≡ 192 → Within (listed_over p nums dens)
within_read p nums dens h is-nums is-dens lefts rights distances = record {
  labels = omega (arith, take_most p.labels nums, h.labels);
  gaps = omega (arith, take_most p.gaps p.left, h.gaps);
  dens = first_even p.labels dens nums (omega (arith, h.labels)) (omega (arith, h.labels));
  right = first_even p.gaps p.right p.left (omega (arith, h.gaps, rights)) (omega (arith, h.gaps, lefts));
  distance = first_even p.gaps p.distance p.left (omega (arith, h.gaps, distances)) (omega (arith, h.gaps, lefts));
}

module _ (p : Problem) (a : Answer) (nums dens : List ℤ) (given : Answered p (zeros 48) (zeros 48) a nums dens) where
  pub answered_most : Holds p → length p.wanted ≡ 48 → length (listing a no_field (listed_over p nums dens)) ≤ listing_room
  answered_most h wants =
      rw (← given.nums_left, ← given.dens_left)
      (laid_out_most (counts_in p) (lists_in p) (lent_over (counts_in p) (zeros 48) (zeros 48)) given.after h.labels h.gaps
      (omega (arith, h.labels, wants)) a given.promise)

  laid_out : (printed : List ℕ) → printed ≡ listing a no_field (listed_over p nums dens) → LaidOut (counts_in p) (lists_in p) printed
  laid_out printed e = record { answer = a; after = given.after; promise = given.promise; listed = rw (given.nums_left, given.dens_left) e }

  pub printed_read : (b : List ℕ) (n : ℕ) (after : List ℕ) → Printed (listing a no_field (listed_over p nums dens)) b n after → PrintedRead p b n after
  printed_read b n after printed =
      record { within = printed.within; front = laid_out (take n after) printed.front; rest = printed.rest }

-- ---- the text

-- a problem that was read holds the counts and the lists of its reading
read_as : (p : Problem) (r : Reading) (l : Lists) → Ok p ≡ problem_told r l → (r ≡ Ok (counts_in p)) × (l ≡ lists_in p)
read_as p (Ok c) l e = let same : problem_of c l ≡ p = cc in (ap (λ q. Ok (counts_in q)) same, ap lists_in same)
read_as p (Err u) l e = let z : ◌≡◌ {A = ℕ} 0 1 = cc in absurd (omega arith)

refused_as : (u : Unread) (r : Reading) (l : Lists) → Err u ≡ problem_told r l → r ≡ Err u
refused_as u (Ok c) l e = let z : ◌≡◌ {A = ℕ} 0 1 = cc in absurd (omega arith)
refused_as u (Err v) l e = cc

module _ (text : List ℕ) where
  abbrev answer : Reading
  answer = (reading text zero_lists).answer

  abbrev read_into : Lists
  read_into = (reading text zero_lists).lists

  pub run_read : (p : Problem) → Ok p ≡ problem_read text → (b : List ℕ) (n : ℕ) (after : List ℕ) → PrintedRead p b n after → Run text b n after
  run_read p e b n after printed =
      let same = read_as p answer read_into e in
      record {
        within = printed.within;
        prints = subst₂ (λ (r : Reading) (l : Lists). PrintedFor r l (take n after)) (sym same.0) (sym same.1) printed.front;
        rest = printed.rest;
      }

  module _ (u : Unread) (e : Err u ≡ problem_read text) where
    refused : answer ≡ Err u
    refused = refused_as u answer read_into e

    pub refusal_most : length (refused_record u.refusal u.field) ≤ listing_room
    refusal_most =
        refused_most u.refusal u.field (subst (λ (r : Reading). FieldTold (number_of r) (field_of r)) refused (field_told text zero_lists))
        (subst (λ (r : Reading). SmallReading r read_into) refused (small_reading text zero_lists))

    pub run_refused : (b : List ℕ) (n : ℕ) (after : List ℕ) → Printed (refused_record u.refusal u.field) b n after → Run text b n after
    run_refused b n after printed = record {
      within = printed.within;
      prints = subst (λ (r : Reading). PrintedFor r read_into (take n after)) (sym refused) printed.front;
      rest = printed.rest;
    }
