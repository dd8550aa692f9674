-- An exact gap gives the same places, or 9, as the two opposite gaps that it replaces, by the promises of the two calls.
use Prim.Native.Nat.{◌<◌}
use mathlib.Core.Path.{◌≡◌, sym, ◌∙◌, ap, subst₂}
use mathlib.Core.Logic.{◌⊎◌, inl, inr}
use mathlib.Core.List.{List, [], map}
use native.Mathlib.Omega.{arith}
use lib.ListN.{length, length-map, get_or-map}
use lib.IntN.{ℤ}
use Rattle.exact.specs.declared.Fraction.{Fraction}
use Rattle.exact.proofs.Divisor.{lowest_unique}
use Rattle.ground.specs.declared.GapRecord.{GapRecord}
use Rattle.ground.specs.declared.Label.{Label}
use Rattle.ground.specs.Answers.{Answer, refusal, ring_length_of}
use Rattle.ground.specs.Answers as answer
use Rattle.ground.specs.Entries.{int, no_record}
use Rattle.least_move.specs.Sheet.{Sheet, Proper, label}
use Rattle.least_move.specs.Opposite.{Replaced, with_gaps}
use Rattle.least_move.specs.Placement.{Placement, Feasible}
use Rattle.least_move.proofs.Laws.{least_same}
use Rattle.least_move.proofs.Opposite.{replaced_feasible, replaced_least, opposed_replaced}
use Rattle.sheet_checks.specs.Lent.{Read, Written, label_count, gap_of, sheet_of, place_of, multiplier_of}
use Rattle.sheet_checks.specs.Refusals.{pass, table}
use Rattle.sheet_checks.proofs.Passed.{passed_proper}
use Rattle.layout.specs.Promise.{Promise, Accepted}
use Rattle.layout.specs.Opposite.{BothPlaced, BothNine, OppositeSame, lend_records, LentReplaced}
use Rattle.layout.proofs.Facts.{judged, placed_exactly, placed_accepted}

module _ {r : Read} {w : Written} {a : Answer} {after : Written} {r' : Read} {w' : Written} {a' : Answer} {after' : Written}
    (one : Promise r w a after) (two : Promise r' w' a' after')
    (replaced : Replaced (sheet_of r) (sheet_of r')) (passes : table r w ≡ pass) (passes' : table r' w' ≡ pass) where
  proper : Proper (sheet_of r)
  proper = passed_proper r w passes

  -- where the one is placed, so is the other, at the same places
  module _ (placed : a ≡ answer.placed) (here : Accepted (sheet_of r) w after) where
    placed_too : a' ≡ answer.placed
    placed_too = (placed_exactly two passes').1 (place_of after, (replaced_feasible proper replaced (place_of after)).0 here.least.feasible)

    same_place : (i : Label) → i.0 < label_count r → place_of after i ≡ place_of after' i
    unfolding sheet_of
    same_place i h =
        let there : Accepted (sheet_of r') w' after' = placed_accepted two placed_too in
        least_same lowest_unique (sheet_of r) (place_of after) (place_of after') (multiplier_of after) proper here.conditions
        ((replaced_least proper replaced (place_of after')).1 there.least) i h (here.places_lowest i h) (there.places_lowest i (omega (arith, replaced.labels)))

    both_placed : BothPlaced (label_count r) a after a' after'
    both_placed =
        record {
          placed = placed;
          placed' = placed_too;
          nums = λ k h. ap (λ (p : Fraction). p.num) (same_place (label k) h);
          dens = λ k h. ap (λ (p : Fraction). p.den) (same_place (label k) h);
        }

  -- where the one is refused with 9, no placement meets the other's gaps either
  nine_too : ((p : Placement) → ¬ (Feasible (sheet_of r) p)) → a' ≡ refusal 9 0 (ring_length_of a')
  nine_too none =
      judged two passes'
      (λ _ there. absurd (none (place_of after') ((replaced_feasible proper replaced (place_of after')).1 there.least.feasible)))
      (λ refused' _ _. refused')

  answers : BothPlaced (label_count r) a after a' after' ⊎ BothNine a a'
  answers = judged one passes (λ placed here. inl (both_placed placed here)) (λ refused none _. inr (record { nine = refused; nine' = nine_too none }))

pub opposite_same : OppositeSame
opposite_same r w a after r' w' a' after' one two replaced passes passes' = answers one two replaced passes passes'

-- ---- sheets as they are lent

-- a sheet of records has the gaps that they tell
listed : (wanted weight : List ℤ) (gs : List GapRecord) → with_gaps (sheet_of (lend_records wanted weight [])) (map gap_of gs) ≡ sheet_of (lend_records wanted weight gs)
unfolding sheet_of
listed wanted weight gs = λ j. record {
  labels = length wanted;
  gaps = length-map gs gap_of j;
  wanted = λ i. int wanted i.0;
  weight = λ i. int weight i.0;
  gap = λ e. get_or-map gap_of gs e.0 no_record j;
}

pub lent_replaced : LentReplaced
lent_replaced wanted weight chosen gs gs' same =
    subst₂ Replaced (listed wanted weight gs) (ap (with_gaps bare) (sym same) ∙ listed wanted weight gs') (opposed_replaced bare chosen (map gap_of gs))
  where
    bare : Sheet
    bare = sheet_of (lend_records wanted weight [])
