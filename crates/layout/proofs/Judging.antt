-- What the checks leave is what the core asks, and what the core says is what document 01 owes of a sheet that
-- passed.
use Rattle.std.specs.Prelude.{Result, Ok, Err}
use Prim.Native.Nat.{ℕ, suc, ◌≤◌, ◌<◌}
use mathlib.Core.Path.{◌≡◌, refl, sym, ◌∙◌, ap, subst}
use mathlib.Core.Logic.{inl, inr}
use mathlib.Core.Bool.{false, ◌||◌}
use mathlib.Core.List.{List, [], ◌∷◌}
use native.Mathlib.Omega.{arith}
use lib.Dec.{ltb}
use lib.ListN.{length, take}
use lib.Seq.{length-take-le}
use lib.IntN.{ℤ, pos, negsuc, nat_abs}
use lib.Signed.{◌≤ℤ◌}
use borrow.Author.Tests.{ltb-false}
use Rattle.algebra.proofs.Whole.{parts_le}
use Rattle.least_move.specs.Sheet.{Proper}
use Rattle.least_move.specs.Placement.{Placement, Feasible}
use Rattle.least_move.specs.Multipliers.{Conditions}
use Rattle.least_move.specs.Marks.{Step}
use Rattle.least_move.specs.Ring.{steps_of, IsRing}
use Rattle.least_move.proofs.Laws.{least_of_conditions, ring_excludes}
use Rattle.ground.specs.Entries.{nat, int, Filled}
use Rattle.core_forest.specs.Problem.{Limits, sheet_from}
use Rattle.ground.specs.declared.problem.Problem.{Problem}
use Rattle.ground.specs.declared.lists.Lists.{Lists}
use Rattle.core_project.specs.Project.{Buffers, Ready, Solved, problem_in}
use Rattle.core_project.specs.Project as core
use Rattle.core_ring.specs.declared.RingSize.{RingSize}
use Rattle.core_project.proofs.Agreeing.{Agree, conditions_agree, marks_agree, is_ring_agree}
use Rattle.ground.specs.declared.Refusal.{Refusal}
use Rattle.sheet_checks.specs.Lent.{Read, Written, sheet_now, sheet_of, place_of, multiplier_of}
use Rattle.sheet_checks.specs.Refusals.{pass, outside, unequal, uneven_sizes, rows, table}
use Rattle.layout.specs.Answered.{answer_of}
use Rattle.layout.specs.Promise.{Promise, ByTable, Judged, Accepted, RingGiven, steps_told}
use Rattle.ground.specs.Answers.{Answer, refusal}
use Rattle.sheet_checks.proofs.Passed.{Passed, table_passed, or_clear, same_of_not, ends_in, passed_proper}
use Rattle.sheet_checks.proofs.Told.{table_ringless}
use Rattle.sheet_checks.proofs.CheckLaws.{even_of_clear}

-- ---- tests of one number

-- within a range about zero
within : (n : ℕ) (z : ℤ) → outside (negsuc n) (pos (suc n)) z ≡ false → nat_abs z ≤ suc n
within n (pos k) e = ltb-false (suc n) k e
within n (negsuc k) e = omega (arith, ltb-false n k (or_clear (ltb n k) false e).0)

weight_within : (z : ℤ) → outside (pos 1) (pos 100) z ≡ false → (pos 1 ≤ℤ z) × (z ≤ℤ pos 3600)
weight_within (pos n) e =
    let c : (ltb n 1 ≡ false) × (ltb 100 n ≡ false) = or_clear (ltb n 1) (ltb 100 n) e in
    let least : 1 ≤ n = ltb-false n 1 c.0 in
    let most : n ≤ 100 = ltb-false 100 n c.1 in
    (parts_le (omega arith), parts_le (omega arith))
weight_within (negsuc n) e = absurd (let z : ◌≡◌ {A = ℕ} 0 1 = cc in omega arith)

weight_hundred : (z : ℤ) → outside (pos 1) (pos 100) z ≡ false → nat_abs z ≤ 100
weight_hundred (pos n) e = ltb-false 100 n (or_clear (ltb n 1) (ltb 100 n) e).1
weight_hundred (negsuc n) e = absurd (let z : ◌≡◌ {A = ℕ} 0 1 = cc in omega arith)

-- ---- what is lent to the core

abbrev pub buffers_of : Written → Buffers
buffers_of w =
    record {
      place_num = w.place_num;
      place_den = w.place_den;
      mult_num = w.mult_num;
      mult_den = w.mult_den;
      carried = w.carried;
      ring = w.ring;
      back = w.back;
    }

abbrev pub written_of : Buffers → Written
written_of b =
    record {
      place_num = b.place_num;
      place_den = b.place_den;
      mult_num = b.mult_num;
      mult_den = b.mult_den;
      ring = b.ring;
      back = b.back;
      carried = b.carried;
    }

-- as many steps as gap numbers
steps_length : (es backs : List ℕ) → length es ≡ length backs → length (steps_of es backs) ≡ length es
steps_length [] backs l = refl
steps_length (e ∷ es) [] l = absurd (omega arith)
steps_length (e ∷ es) (b ∷ backs) l = ap suc (steps_length es backs (omega arith))

-- ---- a sheet that the table lets pass
module _ (l : Lists) (w : Written) (passes : table (sheet_now l) w ≡ pass) where
  abbrev sheet : Read
  sheet = sheet_now l

  abbrev given : Problem
  given = problem_in l

  passed : Passed sheet w
  passed = table_passed sheet w passes

  ends : (e : ℕ) → e < given.gaps → (nat given.left e < given.labels) × (nat given.right e < given.labels)
  ends e h = ends_in (nat given.left e) (nat given.right e) given.labels (passed.known e h)

  limits : Limits given
  limits =
      record {
        labels_bound = passed.few_labels;
        gaps_bound = passed.few_gaps;
        left_in = λ e h. (ends e h).0;
        right_in = λ e h. (ends e h).1;
        distance_bound = λ e h. within 19999 (int given.distance e) (passed.measured e h);
        wanted_bound = λ i h. omega (arith, within 199999 (int given.wanted i) (passed.on_plate i h));
        weight_low = λ i h. (weight_within (int given.weight i) (passed.weighed i h)).0;
        weight_high = λ i h. (weight_within (int given.weight i) (passed.weighed i h)).1;
      }

  pub passed_ready : Ready (problem_in l) (buffers_of w)
  passed_ready =
      let labels = given.labels in
      let gaps = given.gaps in
      let even = even_of_clear l (length w.carried) passed.even in
      let uneven = uneven_sizes gaps (length l.right.now) (length l.distance.now) (length l.kind.now) in
      let carried = or_clear (unequal (length l.weight.now) labels || uneven) (unequal (length w.carried) gaps) passed.even in
      let room = or_clear _ (ltb (length w.mult_den) gaps) passed.room in
      let mults = or_clear _ (ltb (length w.mult_num) gaps) room.0 in
      let backs = or_clear _ (ltb (length w.back) labels) mults.0 in
      let rings = or_clear _ (ltb (length w.ring) labels) backs.0 in
      let places = or_clear (ltb (length w.place_num) labels) (ltb (length w.place_den) labels) rings.0 in
      record {
        listed =
            record {
              limits = limits;
              wants = refl;
              weights = even.weights;
              lefts = refl;
              rights = even.rights;
              distances = even.distances;
              kinds = even.kinds;
            };
        carrieds = same_of_not (length w.carried) gaps carried.1;
        place_room = (ltb-false (length w.place_num) labels places.0, ltb-false (length w.place_den) labels places.1);
        mult_room = (ltb-false (length w.mult_num) gaps mults.1, ltb-false (length w.mult_den) gaps room.1);
        ring_room = (ltb-false (length w.ring) labels rings.1, ltb-false (length w.back) labels backs.1);
      }

  sheets_agree : Agree (sheet_from given) (sheet_of sheet)
  unfolding sheet_of
  sheets_agree =
      record {
        labels = refl;
        gaps = refl;
        wanted = λ i h. refl;
        weight = λ i h. refl;
        gap = λ e h. refl;
      }

  proper : Proper (sheet_of sheet)
  proper = passed_proper sheet w passes

  accepted : {after : Buffers} → Solved given (buffers_of w) after → Accepted (sheet_of sheet) w (written_of after)
  unfolding sheet_of
  accepted {after} s =
      record {
        place_nums = s.place_nums;
        place_dens = s.place_dens;
        mult_nums = s.mult_nums;
        mult_dens = s.mult_dens;
        ring = s.ring;
        back = s.back;
        carried = s.carried;
        least = least_of_conditions (sheet_of sheet) (place_of (written_of after)) (multiplier_of (written_of after)) proper conditions;
        conditions = conditions;
        marks = marks_agree sheets_agree (λ e h. refl) s.marks;
        bytes = λ e h. s.bytes e.0 h;
        places_lowest = s.places_lowest;
        multipliers_lowest = s.multipliers_lowest;
        den_most = λ i h. s.den_most i.0 h 100 (λ j l. weight_hundred (int given.weight j) (passed.weighed j l));
        near = λ i h. s.num_most i.0 h 200000 (λ j l. within 199999 (int given.wanted j) (passed.on_plate j l));
      }
    where
      conditions : Conditions (sheet_of sheet) (place_of (written_of after)) (multiplier_of (written_of after))
      conditions = conditions_agree sheets_agree s.conditions

  ring_refused : {after : Buffers} {size : ℕ} → core.RingGiven given (buffers_of w) after size
      → ((p : Placement) → ¬ (Feasible (sheet_of sheet) p)) × RingGiven (sheet_of sheet) w (written_of after) size
  ring_refused {after} {size} g = go (steps_told size (written_of after)) refl (is_ring_agree sheets_agree (steps_told size (written_of after)) g.ring)
    where
      -- a part of either ring buffer as long as the ring
      front : (before filled : List ℕ) → given.labels ≤ length before → Filled size before filled → length (take size filled) ≡ size
      front before filled room f = length-take-le size filled (omega (arith, g.most, room, f.size))

      told : length (steps_told size (written_of after)) ≡ size
      told =
          let ring = front w.ring after.ring passed_ready.ring_room.0 g.rings in
          let back = front w.back after.back passed_ready.ring_room.1 g.backs in
          steps_length (take size after.ring) (take size after.back) (ring ∙ sym back) ∙ ring

      go : (ts : List Step) → steps_told size (written_of after) ≡ ts → IsRing (sheet_of sheet) ts
          → ((p : Placement) → ¬ (Feasible (sheet_of sheet) p)) × RingGiven (sheet_of sheet) w (written_of after) size
      go [] e r = absurd r
      go (t ∷ ts) e r = (
        ring_excludes (sheet_of sheet) proper t ts r,
        record {
          first = t;
          others = ts;
          front = e;
          counted = sym told ∙ ap length e;
          ring = r;
          back_bytes = g.back_bytes;
          rest = g.rings;
          back_rest = g.backs;
          stays = ap written_of g.stays;
        },
      )

  -- what the core answers is what is owed
  module _ (after : Buffers) where
    pub judged : (found : Result (Unit {0}) RingSize) {a : Answer} → core.ProjectSays given found (buffers_of w) after → a ≡ answer_of found → Judged (sheet_of sheet) w a (written_of after)
    judged (Ok _) says e = inl (e, accepted says)
    judged (Err size) says e =
        let told = ring_refused says in
        subst (λ (x : Answer). Judged (sheet_of sheet) w x (written_of after)) (sym e) (inr (refl, told.0, told.1))

-- the answer to a ring
pub ring_answered : (found : Result (Unit {0}) RingSize) (size : RingSize) → found ≡ Err size → refusal 9 0 size.0 ≡ answer_of found
ring_answered found size e = sym (ap answer_of e)

-- ---- the promise

pub refused_kept : {r : Read} {w : Written} {q : Refusal} {a : Answer} → Err q ≡ table r w → a ≡ Err q → Promise r w a w
refused_kept {r} {w} {q} {a} e f = record { kept = subst (λ v. ByTable v (sheet_of r) w a w) e (f ∙ told, refl) }
  where
    told : Err q ≡ refusal q.number q.place 0
    told = ap (λ (n : ℕ). refusal q.number q.place n) (table_ringless _ _ _ _ (rows r) (sym e))

pub judged_kept : {r : Read} {w after : Written} {a : Answer} → pass ≡ table r w → Judged (sheet_of r) w a after → Promise r w a after
judged_kept {r} {w} {after} {a} e j = record { kept = subst (λ v. ByTable v (sheet_of r) w a after) e j }
