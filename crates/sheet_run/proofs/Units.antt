-- The whole units that are printed for an accepted sheet: 12 meets none of its places, and they meet every gap (document 02,
-- Item 4).
use Prim.Native.Nat.{ℕ, ◌<◌}
use mathlib.Core.Path.{◌≡◌, refl, sym, ap, subst, ◌∙◌}
use mathlib.Core.List.{List}
use lib.ListN.{take}
use Rattle.std.specs.Prelude.{Ok}
use Rattle.ground.specs.Answers.{Answer, placed}
use Rattle.ground.specs.declared.Label.{Label}
use Rattle.exact.specs.declared.Fraction.{Fraction}
use Rattle.exact.specs.Nearest.{HalfUp, round_half_up}
use Rattle.exact.proofs.Nearest.{round_half_up_lem}
use Rattle.single_fractions.specs.declared.Ties.TheVariants.{Up}
use Rattle.single_fractions.specs.Round.{whole_of}
use Rattle.least_move.specs.Sheet.{label}
use Rattle.least_move.specs.WholeUnits.{UnitsMeet}
use Rattle.least_move.proofs.WholeUnits.{half_up_meet}
use Rattle.sheet_checks.specs.Lent.{Read, Written, label_count, place_of, sheet_of}
use Rattle.layout.specs.Promise.{Accepted, Promise}
use Rattle.layout.proofs.Facts.{placed_accepted, placed_proper}
use Rattle.layout.proofs.Laws.{place_rounded, place_within}
use Rattle.text_rows.specs.Taking.{no_field}
use Rattle.text_reading.specs.declared.Counts.{Counts}
use Rattle.text_reading.specs.Problems.{zero_lists}
use Rattle.text_reading.specs.Readings.{Reading}
use Rattle.text_reading.specs.Texts.{Lists, reading}
use Rattle.text_listing.specs.Listing.{Listable, listing, place_in, printed_unit, unit_of}
use Rattle.sheet_run.specs.Run.{LaidFrom, LaidOut, PrintedFor, Run, UnitsShown, listable_read, sheet_read}
use Rattle.sheet_run.proofs.Slacks.{enough_read, same_read}

-- ---- the listing of a call, in either form of lending, lent the places that the call wrote

module _ {r : Read} {w after : Written} (promise : Promise r w placed after) (l : Listable)
    (same : (i : ℕ) → i < label_count r → place_in l i ≡ place_of after (label i)) where
  accepted : Accepted (sheet_of r) w after
  accepted = placed_accepted promise refl

  -- the unit printed for a label is that of its place
  pub listed_unit : (i : Label) → i.0 < label_count r → printed_unit l i.0 ≡ round_half_up (place_of after i).num (place_of after i).den
  unfolding unit_of
  listed_unit i h = ap (λ (q : Fraction). unit_of q.num q.den) (same i.0 h) ∙ ap whole_of (place_rounded promise refl Up i h)

  -- and they meet every gap
  pub listed_units : UnitsMeet (sheet_of r) (λ i. printed_unit l i.0)
  unfolding sheet_of
  listed_units =
      half_up_meet (sheet_of r) (place_of after) (λ i. printed_unit l i.0) (placed_proper promise refl) accepted.least.feasible
      (λ i h. subst (HalfUp (place_of after i).num (place_of after i).den) (sym (listed_unit i h))
      (round_half_up_lem (place_of after i).num (place_of after i).den (accepted.places_lowest i h).above))

-- ---- a run

printed_units : (c : Counts) (l : Lists) {w after : Written} {printed : List ℕ} → Promise (sheet_read c l) w placed after
    → printed ≡ listing placed no_field (listable_read c l after) → UnitsShown c l after printed
printed_units c l {after = after} promise is = record {
  shown = is;
  every = enough_read c l promise;
  within = place_within promise refl;
  units = listed_unit promise (listable_read c l after) (same_read c l promise);
  meets = listed_units promise (listable_read c l after) (same_read c l promise);
}

-- of what a layout call that keeps its promise has listed, whatever was lent to write
pub laid_units : {w : Written} {c : Counts} {l : Lists} {printed : List ℕ} (laid : LaidFrom w c l printed) → laid.answer ≡ placed → UnitsShown c l laid.after printed
laid_units {w} {c} {l} laid is-placed =
    printed_units c l (subst (λ (a : Answer). Promise (sheet_read c l) w a laid.after) is-placed laid.promise)
    (laid.listed ∙ ap (λ (a : Answer). listing a no_field (listable_read c l laid.after)) is-placed)

-- and of every run on a text that is read as a sheet
pub run_units : {text before after : List ℕ} {n : ℕ} {c : Counts} → Run text before n after → (reading text zero_lists).answer ≡ Ok c
    → (let l = (reading text zero_lists).lists in (laid : LaidOut c l (take n after)) × (laid.answer ≡ placed → UnitsShown c l laid.after (take n after)))
run_units {text} {after = after} {n} run read =
    let laid = subst (λ (r : Reading). PrintedFor r (reading text zero_lists).lists (take n after)) read run.prints in (laid, laid_units laid)
