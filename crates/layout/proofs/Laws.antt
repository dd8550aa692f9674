-- Laws that document 01 says aloud, as theorems of the promise of a layout call.
use Rattle.std.specs.Prelude.{Ok}
use Prim.Native.Nat.{ℕ, zero, suc, ◌≤◌, ◌<◌}
use mathlib.Core.Path.{◌≡◌, refl, sym, ap}
use mathlib.Core.Logic.{◌≢◌}
use mathlib.Core.Bool.{true}
use mathlib.Core.List.{[], ◌∷◌}
use native.Mathlib.Omega.{arith}
use lib.Dec.{eqb}
use lib.IntN.{ℤ, nat_abs}
use Rattle.algebra.proofs.Whole.{lt_parts, parts_le, parts_nat_abs}
use Rattle.exact.specs.Fraction.{◌≃◌}
use Rattle.exact.proofs.Fractions.{≃-trans}
use Rattle.single_fractions.specs.Places.{within_places}
use Rattle.single_fractions.specs.Round.{rounded, whole_by}
use Rattle.single_fractions.specs.declared.Ties.{Ties}
use Rattle.single_fractions.proofs.PlaceLimits.{places_pass}
use Rattle.single_fractions.proofs.Rounding.{answers}
use Rattle.ground.specs.Answers.{Answer}
use Rattle.ground.specs.Answers as answer
use Rattle.ground.specs.declared.GapNumber.{GapNumber}
use Rattle.ground.specs.declared.GapRecord.{GapRecord}
use Rattle.ground.specs.declared.Label.{Label}
use Rattle.ground.specs.Limits.{place_num_most}
use Rattle.least_move.specs.Sheet.{label}
use Rattle.least_move.specs.Placement.{Placement, Feasible, LeastMove}
use Rattle.least_move.proofs.Laws.{least_unique}
use Rattle.sheet_checks.specs.Lent.{Read, Written, label_count, gap_count, record_at, sheet_of, place_of}
use Rattle.sheet_checks.specs.Refusals.{pass, table}
use Rattle.sheet_checks.proofs.Passed.{passed_proper}
use Rattle.least_move.specs.Marks.{forwards}
use Rattle.layout.specs.Promise.{Promise, Accepted, byte_at}
use Rattle.layout.proofs.Facts.{placed_accepted, placed_exactly}

-- a byte that is at most 1 and no mark is 0
unmarked : (n : ℕ) → n ≤ 1 → (eqb n 1 ≡ true → ⊥) → n ≡ 0
unmarked zero h never = refl
unmarked (suc zero) h never = absurd (never refl)
unmarked (suc (suc n)) h never = absurd (omega arith)

module _ {r : Read} {w after : Written} {a : Answer} (promise : Promise r w a after) (placed : a ≡ answer.placed) where
  accepted : Accepted (sheet_of r) w after
  accepted = placed_accepted promise placed

  -- "So a self gap is never marked"
  pub self_unmarked : (e : GapNumber) → e.0 < gap_count r → (record_at r.gaps e.0).left ≡ (record_at r.gaps e.0).right → byte_at after e ≡ 0
  unfolding sheet_of
  self_unmarked e h self =
      unmarked (byte_at after e) (accepted.bytes e h)
      (λ marked. accepted.marks.no_ring (forwards e.0) [] (record {
        closed = ap label (sym self);
        along = ((h, marked), tt);
        once = (tt, tt);
      }))

  -- "and of a gap given twice at most one is"
  pub twice_marked_once : (e f : GapNumber) → e.0 < gap_count r → f.0 < gap_count r → f.0 ≢ e.0 → record_at r.gaps f.0 ≡ record_at r.gaps e.0
      → (byte_at after e ≡ 1) → byte_at after f ≡ 0
  unfolding sheet_of
  twice_marked_once e f h k other twice one =
      unmarked (byte_at after f) (accepted.bytes f k)
      (λ marked. accepted.marks.no_ring (forwards e.0) (record { by = f; backwards = true } ∷ []) (record {
        closed = (ap (λ (g : GapRecord). label g.right) twice, ap (λ (g : GapRecord). label g.left) twice);
        along = ((h, rw one), ((k, marked), tt));
        once = (((λ same. other (ap (λ (g : GapNumber). g.0) same)), tt), (tt, tt));
      }))

  -- "The numerator so stays within 5,472,000,000"
  pub numerator_within : (i : Label) → i.0 < label_count r → nat_abs (place_of after i).num ≤ place_num_most
  unfolding sheet_of
  numerator_within i h = omega (arith, accepted.near i h, accepted.den_most i h)

  -- 12 meets no place, by either rounding or in the slack's entry
  pub place_within : (i : Label) → i.0 < label_count r → within_places (place_of after i).num (place_of after i).den ≡ true
  unfolding sheet_of
  place_within i h =
      let den : ℤ = (place_of after i).den in
      let above = lt_parts (accepted.places_lowest i h).above in
      places_pass (place_of after i).num den
      (parts_le (omega (arith, above)))
      (parts_le (omega (arith, above, parts_nat_abs den, accepted.den_most i h)))
      (numerator_within i h)

  -- so rounding gives its whole unit
  pub place_rounded : (ties : Ties) (i : Label) → i.0 < label_count r
      → rounded ties (place_of after i).num (place_of after i).den ≡ Ok (whole_by ties (place_of after i).num (place_of after i).den)
  place_rounded ties i h = sym (answers ties (place_of after i).num (place_of after i).den (place_within i h))

-- "It is unique when a feasible one exists": then the call is placed, at the only least move
module _ {r : Read} {w after : Written} {a : Answer} (promise : Promise r w a after) (passes : table r w ≡ pass) {p : Placement} (feasible : Feasible (sheet_of r) p) where
  placed_there : a ≡ answer.placed
  placed_there = (placed_exactly promise passes).1 (p, feasible)

  pub least_move_there : LeastMove (sheet_of r) (place_of after)
  least_move_there = (placed_accepted promise placed_there).least

  as_written : (q : Placement) → LeastMove (sheet_of r) q → (i : Label) → i.0 < label_count r → q i ≃ place_of after i
  unfolding sheet_of
  as_written q least = least_unique (sheet_of r) (place_of after) q _ (passed_proper r w passes) (placed_accepted promise placed_there).conditions least

  pub least_move_unique : (q q' : Placement) → LeastMove (sheet_of r) q → LeastMove (sheet_of r) q' → (i : Label) → i.0 < label_count r → q i ≃ q' i
  unfolding sheet_of
  least_move_unique q q' least least' i h =
      ≃-trans (q i) (place_of after i) (q' i) (least_move_there.feasible.fractions i h) (as_written q least i h) (sym (as_written q' least' i h))
