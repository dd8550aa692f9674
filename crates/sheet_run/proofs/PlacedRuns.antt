-- What a run prints for a text that tells a placed sheet of the bench: the listing of the bench's places and the gaps that
-- were read, whatever keeps the promise of a run.
use Prim.Native.Nat.{ℕ, suc, ◌≤◌, ◌<◌}
use mathlib.Core.Path.{◌≡◌, refl, ap, ap₂, subst, ◌∙◌}
use mathlib.Core.List.{List, [], ◌∷◌, map}
use native.Mathlib.Omega.{arith}
use lib.ListN.{length, get_or, take, length-replicate}
use lib.IntN.{ℤ, pos}
use Rattle.exact.specs.declared.Fraction.{Fraction}
use Rattle.exact.specs.Fraction.{whole}
use Rattle.ground.specs.Limits.{labels_most}
use Rattle.std.specs.Prelude.{Ok}
use Rattle.ground.specs.Answers.{placed}
use Rattle.least_move.specs.Sheet.{label}
use Rattle.least_move.specs.Bench.{Placed}
use Rattle.sheet_checks.specs.Lent.{Read, sheet_of}
use Rattle.layout.specs.BenchCalls.{as_lists, lend, LentWith, EachCall, PlacedSo}
use Rattle.layout.specs.Promise.{Accepted, Promise}
use Rattle.layout.proofs.Facts.{placed_accepted}
use Rattle.text_rows.specs.Taking.{no_field}
use Rattle.text_reading.specs.Problems.{zero_lists}
use Rattle.text_reading.specs.Texts.{Done, Typed, counts_of, filled, reading}
use Rattle.text_listing.specs.Listing.{Listable, listing}
use Rattle.sheet_run.specs.Run.{sheet_read, lent, LaidOut, PrintedFor, Run}

-- a list that agrees with the numerators, or the denominators, of fractions entry by entry begins with them
front_of : (part : Fraction → ℤ) (xs : List ℤ) (qs : List Fraction) → length qs ≤ length xs
    → ((k : ℕ) → k < length qs → get_or xs k (pos 0) ≡ part (get_or qs k (whole (pos 0)))) → take (length qs) xs ≡ map part qs
front_of part xs [] h at = refl
front_of part [] (q ∷ qs) h at = absurd (omega arith)
front_of part (x ∷ xs) (q ∷ qs) h at = ap₂ ◌∷◌ (at 0 (omega arith)) (front_of part xs qs (omega arith) (λ k l. at (suc k) (omega arith)))

-- what is listed: the places of the case, and the gaps that were typed
abbrev pub listed : Typed → Placed → Listable
listed t c = record {
  place_num = map (λ q. q.num) c.places;
  place_den = map (λ q. q.den) c.places;
  left = take (length t.gaps) (filled t zero_lists).left;
  right = take (length t.gaps) (filled t zero_lists).right;
  distance = take (length t.gaps) (filled t zero_lists).distance;
}

-- a text is read as the sheet of a placed case
pub record Tells (text : List ℕ) (t : Typed) (c : Placed) : Type 0 where
  pub typed : reading text zero_lists ≡ record { answer = Ok (counts_of t); lists = filled t zero_lists }
  pub read_as : sheet_read (counts_of t) (filled t zero_lists) ≡ lend as_lists c.sheet
  pub lent_with : LentWith as_lists c.sheet (lent (counts_of t))
  pub per_label : length c.places ≡ length t.labels
  pub labels : length c.sheet.wants ≡ length t.labels
  pub few : length t.labels ≤ labels_most

-- a run lays out the sheet that its text is read as
pub laid_out : (t : Typed) {text before after : List ℕ} {n : ℕ} → reading text zero_lists ≡ record { answer = Ok (counts_of t); lists = filled t zero_lists }
    → Run text before n after → LaidOut (counts_of t) (filled t zero_lists) (take n after)
laid_out t {after = after} {n = n} e r = subst (λ (d : Done). PrintedFor d.answer d.lists (take n after)) e r.prints

module _ {text : List ℕ} {t : Typed} {c : Placed} (tells : Tells text t c) (lays : EachCall c.sheet (PlacedSo c)) where
  module _ {printed : List ℕ} (laid : LaidOut (counts_of t) (filled t zero_lists) printed) where
    promised : Promise (lend as_lists c.sheet) (lent (counts_of t)) laid.answer laid.after
    promised = subst (λ (r : Read). Promise r (lent (counts_of t)) laid.answer laid.after) tells.read_as laid.promise

    known : PlacedSo c laid.answer laid.after
    known = lays as_lists (lent (counts_of t)) laid.answer laid.after tells.lent_with promised

    accepted : Accepted (sheet_of (lend as_lists c.sheet)) (lent (counts_of t)) laid.after
    accepted = placed_accepted promised known.answered

    place_at : (k : ℕ) → k < length c.places → record { num = get_or laid.after.place_num k (pos 0); den = get_or laid.after.place_den k (pos 0) } ≡ get_or c.places k (whole (pos 0))
    place_at k h = known.places (label k) (omega (arith, tells.per_label, tells.labels))

    nums : take (length t.labels) laid.after.place_num ≡ map (λ q. q.num) c.places
    nums = subst (λ (n : ℕ). take n laid.after.place_num ≡ map (λ q. q.num) c.places) tells.per_label
        (front_of (λ q. q.num) laid.after.place_num c.places
        (omega (arith, tells.per_label, tells.few, accepted.place_nums.size, length-replicate labels_most (pos 0)))
        (λ k h. ap (λ (f : Fraction). f.num) (place_at k h)))

    dens : take (length t.labels) laid.after.place_den ≡ map (λ q. q.den) c.places
    dens = subst (λ (n : ℕ). take n laid.after.place_den ≡ map (λ q. q.den) c.places) tells.per_label
        (front_of (λ q. q.den) laid.after.place_den c.places
        (omega (arith, tells.per_label, tells.few, accepted.place_dens.size, length-replicate labels_most (pos 0)))
        (λ k h. ap (λ (f : Fraction). f.den) (place_at k h)))

    prints : printed ≡ listing placed no_field (listed t c)
    prints = laid.listed ∙ rw (known.answered, nums, dens)

  pub placed_prints : {before after : List ℕ} {n : ℕ} → Run text before n after → take n after ≡ listing placed no_field (listed t c)
  placed_prints r = prints (laid_out t tells.typed r)
