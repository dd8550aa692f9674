-- The promise of a layout call does not depend on how its gaps are lent: as lists or as records.
use Rattle.std.specs.Prelude.{Ok, Err}
use Prim.Native.Nat.{ℕ, ◌<◌}
use mathlib.Core.Path.{◌≡◌, refl, ◌∙◌, ap, ap₂, subst}
use mathlib.Core.Logic.{inl, inr}
use mathlib.Core.Bool.{Bool, not, ◌||◌}
use mathlib.Core.List.{List, [], ◌∷◌, ◌++◌, map}
use lib.Dec.{ltb}
use lib.ListN.{length}
use lib.IntN.{ℤ, pos, neg_ℤ}
use Rattle.ground.specs.declared.GapRecord.{GapRecord}
use Rattle.ground.specs.Answers.{Answer}
use Rattle.least_move.specs.Sheet.{Sheet, Gap, Proper}
use Rattle.least_move.specs.Multipliers.{Conditions}
use Rattle.least_move.proofs.Laws.{least_of_conditions, ring_excludes}
use Rattle.core_project.proofs.Agreeing.{Agree, conditions_agree, marks_agree, ring_agree}
use Rattle.sheet_checks.specs.Lent.{Read, Written, LentGaps, count_of, record_at, gap_of, sheet_of, place_of, multiplier_of}
use Rattle.sheet_checks.specs.Refusals.{in_turn, offender_below, offender, size_tests, table_of, unequal, outside, room_of, uneven}
use Rattle.sheet_checks.specs.Refusals.{short, neither, off_plate, bad_weight, stranger, bad_gap, bad_kind, rows, table}
use Rattle.sheet_checks.proofs.Passed.{offender_same, passed_proper}
use Rattle.layout.specs.Promise.{Promise, ByTable, Judged, Accepted, RingGiven}
use Rattle.ground.specs.Entries.{Filled}
use Rattle.ground.specs.Limits.{distance_most}

-- the same gaps, lent in two ways
pub record SameGaps (g g' : LentGaps) : Type 0 where
  pub count : count_of g ≡ count_of g'
  pub even : uneven g ≡ uneven g'
  pub gap : (k : ℕ) → k < count_of g → record_at g k ≡ record_at g' k

-- ---- sheets that agree

module _ {s s' : Sheet} (agree : Agree s s') (proper' : Proper s') (w after : Written) where
  accepted_agree : Accepted s w after → Accepted s' w after
  accepted_agree ok =
      record {
        place_nums = subst (λ n. Filled n w.place_num after.place_num) agree.labels ok.place_nums;
        place_dens = subst (λ n. Filled n w.place_den after.place_den) agree.labels ok.place_dens;
        mult_nums = subst (λ n. Filled n w.mult_num after.mult_num) agree.gaps ok.mult_nums;
        mult_dens = subst (λ n. Filled n w.mult_den after.mult_den) agree.gaps ok.mult_dens;
        ring = ok.ring;
        back = ok.back;
        carried = subst (λ n. Filled n w.carried after.carried) agree.gaps ok.carried;
        least = least_of_conditions s' (place_of after) (multiplier_of after) proper' conditions;
        conditions = conditions;
        marks = marks_agree agree (λ e h. refl) ok.marks;
        bytes = λ e h. ok.bytes e (rw agree.gaps h);
        places_lowest = λ i h. ok.places_lowest i (rw agree.labels h);
        multipliers_lowest = λ e h. ok.multipliers_lowest e (rw agree.gaps h);
        den_most = λ i h. ok.den_most i (rw agree.labels h);
        near = λ i h. ok.near i (rw agree.labels h);
      }
    where
      conditions : Conditions s' (place_of after) (multiplier_of after)
      conditions = conditions_agree agree ok.conditions

  ring_given_agree : {size : ℕ} → RingGiven s w after size → RingGiven s' w after size
  ring_given_agree x =
      record {
        first = x.first;
        others = x.others;
        front = x.front;
        counted = x.counted;
        ring = ring_agree agree x.ring;
        back_bytes = x.back_bytes;
        rest = x.rest;
        back_rest = x.back_rest;
        stays = x.stays;
      }

  judged_agree : {a : Answer} → Judged s w a after → Judged s' w a after
  judged_agree (inl k) = inl (k.0, accepted_agree k.1)
  judged_agree (inr k) =
      let given = ring_given_agree k.2 in
      inr (k.0, ring_excludes s' proper' given.first given.others given.ring, given)

-- ---- gaps lent in two ways

module _ (wanted weight : List ℤ) {g g' : LentGaps} (same : SameGaps g g') (w : Written) where
  abbrev r : Read
  r = record { wanted = wanted; weight = weight; gaps = g }

  abbrev r' : Read
  r' = record { wanted = wanted; weight = weight; gaps = g' }

  sheets_agree : Agree (sheet_of r) (sheet_of r')
  unfolding sheet_of
  sheets_agree =
      record {
        labels = refl;
        gaps = same.count;
        wanted = λ i h. refl;
        weight = λ i h. refl;
        gap = λ e h. ap {B = Gap} (λ (c : GapRecord). gap_of c) (same.gap e.0 h);
      }

  -- the rows of the gaps find the same
  strangers_same : offender (stranger r) ≡ offender (stranger r')
  strangers_same =
      offender_same 7 (stranger r).bad (stranger r').bad (count_of g)
      (λ k h. ap (λ (c : GapRecord). not (ltb c.left (length wanted)) || not (ltb c.right (length wanted))) (same.gap k h))
      ∙ ap (λ n. offender_below 7 n (stranger r').bad) same.count

  bad_gaps_same : offender (bad_gap r) ≡ offender (bad_gap r')
  bad_gaps_same =
      offender_same 8 (bad_gap r).bad (bad_gap r').bad (count_of g)
      (λ k h. ap (λ (c : GapRecord). outside (neg_ℤ (pos distance_most)) (pos distance_most) c.distance) (same.gap k h))
      ∙ ap (λ n. offender_below 8 n (bad_gap r').bad) same.count

  bad_kinds_same : offender (bad_kind r) ≡ offender (bad_kind r')
  bad_kinds_same =
      offender_same 23 (bad_kind r).bad (bad_kind r').bad (count_of g)
      (λ k h. ap (λ (c : GapRecord). neither c.kind) (same.gap k h))
      ∙ ap (λ n. offender_below 23 n (bad_kind r').bad) same.count

  -- the sizes' checks, from the gaps' number and whether their lists are uneven
  abbrev sizes : ℕ → Bool → List Answer
  sizes n u =
      size_tests (length wanted) n (unequal (length weight) (length wanted) || u || unequal (length w.carried) n)
      (short (length wanted) n (room_of w))

  tables_same : table r w ≡ table r' w
  unfolding table_of
  tables_same =
      ap (λ n. in_turn (sizes n (uneven g) ++ map offender (rows r))) same.count
      ∙ ap (λ u. in_turn (sizes (count_of g') u ++ map offender (rows r))) same.even
      ∙ ap₂ (λ (c d : Answer). in_turn (sizes (count_of g') (uneven g') ++ (offender (off_plate r) ∷ offender (bad_weight r) ∷ c ∷ d ∷ offender (bad_kind r) ∷ [])))
      strangers_same bad_gaps_same
      ∙ ap (λ (c : Answer). in_turn (sizes (count_of g') (uneven g') ++ (offender (off_plate r) ∷ offender (bad_weight r) ∷ offender (stranger r') ∷ offender (bad_gap r') ∷ c ∷ [])))
      bad_kinds_same

  -- what is promised of the one is promised of the other
  pub promise_same : (after : Written) (a : Answer) → Promise r w a after → Promise r' w a after
  promise_same after a p = record { kept = go (table r' w) refl (subst (λ v. ByTable v (sheet_of r) w a after) tables_same p.kept) }
    where
      go : (v : Answer) → table r' w ≡ v → ByTable v (sheet_of r) w a after → ByTable v (sheet_of r') w a after
      go (Err q) e k = k
      go (Ok _) e k = judged_agree sheets_agree (passed_proper r' w e) w after k
