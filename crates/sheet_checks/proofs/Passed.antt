-- What a passed table tells of the sheet.
use Prim.Native.Nat.{ℕ, zero, suc, ◌≤◌, ◌<◌}
use mathlib.Core.Path.{◌≡◌, refl, ap₂}
use mathlib.Core.Logic.{◌≢◌, ⊎_elim}
use mathlib.Core.Bool.{Bool, true, false, cond, not, ◌&&◌, ◌||◌}
use Rattle.std.specs.Prelude.{Ok, Err}
use mathlib.Core.List.{List, [], ◌∷◌, ◌++◌, map}
use native.Mathlib.Omega.{arith}
use lib.Dec.{eqb, ltb}
use lib.ListN.{length, get_or}
use lib.IntN.{ℤ, pos, negsuc}
use lib.Signed.{◌<ℤ◌}
use borrow.Author.Tests.{ltb-true, ltb-false, eqb-true, not-false}
use Rattle.algebra.proofs.Sum.{last_or_below}
use Rattle.algebra.proofs.Whole.{parts_lt}
use Rattle.least_move.specs.Sheet.{Proper, ignored, kind_of}
use Rattle.ground.specs.declared.Refusal.{Refusal}
use Rattle.ground.specs.Answers.{Answer}
use Rattle.ground.specs.Entries.{Each}
use Rattle.ground.specs.Kinds.{at_least_byte, exactly_byte}
use Rattle.ground.specs.Limits.{gaps_most, labels_most, weight_least, weight_most}
use Rattle.sheet_checks.specs.Lent.{Read, Written, label_count, gap_count, record_at, sheet_of}
use Rattle.sheet_checks.specs.Refusals.{Row, pass, refuse, first_refusal, in_turn, test, offender_below, offender, size_tests, table_of, unequal, outside}
use Rattle.sheet_checks.specs.Refusals.{neither, room_of, ragged, short, off_plate, bad_weight, stranger, bad_gap, bad_kind, rows, table}

-- a refusal is no pass
pub not_pass : {q : Refusal} → Err q ≡ pass → ⊥
not_pass e = let z : ◌≡◌ {A = ℕ} 0 1 = cc in omega arith

-- a test that passed was false
pub test_pass : (number : ℕ) (bad : Bool) → test number bad ≡ pass → bad ≡ false
test_pass number true e = absurd (not_pass e)
test_pass number false e = refl

-- of two checks that passed each did
pub first_pass : (c later : Answer) → first_refusal c later ≡ pass → (c ≡ pass) × (later ≡ pass)
first_pass (Ok _) later e = (refl, e)
first_pass (Err q) later e = absurd (not_pass e)

-- and so of all
pub turn_pass : (cs : List Answer) → in_turn cs ≡ pass → Each (λ c. c ≡ pass) cs
turn_pass [] e = tt
turn_pass (c ∷ cs) e = let both = first_pass c (in_turn cs) e in (both.0, turn_pass cs both.1)

-- a row that passed: none of its entries is bad
pub offender_pass : (row : Row) → offender row ≡ pass → (k : ℕ) → k < row.count → row.bad k ≡ false
unfolding offender_below
offender_pass row e = go row.count e
  where
    last : (n : ℕ) → cond (row.bad n) (refuse row.number n) pass ≡ pass → row.bad n ≡ false
    last n = at (row.bad n)
      where
        at : (b : Bool) → cond b (refuse row.number n) pass ≡ pass → b ≡ false
        at true f = absurd (not_pass f)
        at false f = refl

    go : (n : ℕ) → offender_below row.number n row.bad ≡ pass → (k : ℕ) → k < n → row.bad k ≡ false
    go zero f k h = absurd (omega arith)
    go (suc n) f k h =
        let both = first_pass (offender_below row.number n row.bad) (cond (row.bad n) (refuse row.number n) pass) f in
        ⊎_elim (λ same. rw same (last n both.1)) (λ below. go n both.0 k below) (last_or_below k n h)

-- rows whose entries are bad alike find the same
pub offender_same : (number : ℕ) (bad bad' : ℕ → Bool) (n : ℕ) → ((k : ℕ) → k < n → bad k ≡ bad' k) → offender_below number n bad ≡ offender_below number n bad'
unfolding offender_below
offender_same number bad bad' zero same = refl
offender_same number bad bad' (suc n) same =
    ap₂ (λ (c : Answer) (b : Bool). first_refusal c (cond b (refuse number n) pass)) (offender_same number bad bad' n (λ k h. same k (omega arith))) (same n (omega arith))

pub or_clear : (a b : Bool) → (a || b) ≡ false → (a ≡ false) × (b ≡ false)
or_clear true b e = absurd (let z : ◌≡◌ {A = ℕ} 0 1 = cc in omega arith)
or_clear false b e = (refl, e)

pub same_of_not : (a b : ℕ) → unequal a b ≡ false → a ≡ b
same_of_not a b e = eqb-true a b (not-false (eqb a b) e)

-- the table passed: every check's test was false, and no row has an offender
pub record Passed (r : Read) (w : Written) : Type 0 where
  pub few_labels : label_count r ≤ labels_most
  pub few_gaps : gap_count r ≤ gaps_most
  pub even : ragged r (length w.carried) ≡ false
  pub room : short (label_count r) (gap_count r) (room_of w) ≡ false
  pub on_plate : (k : ℕ) → k < label_count r → (off_plate r).bad k ≡ false
  pub weighed : (k : ℕ) → k < label_count r → (bad_weight r).bad k ≡ false
  pub known : (k : ℕ) → k < gap_count r → (stranger r).bad k ≡ false
  pub measured : (k : ℕ) → k < gap_count r → (bad_gap r).bad k ≡ false
  pub kinded : (k : ℕ) → k < gap_count r → (bad_kind r).bad k ≡ false

pub table_passed : (r : Read) (w : Written) → table r w ≡ pass → Passed r w
unfolding table_of
table_passed r w e =
    let c = turn_pass (size_tests (label_count r) (gap_count r) (ragged r (length w.carried)) (short (label_count r) (gap_count r) (room_of w)) ++ map offender (rows r)) e in
    record {
      few_labels = ltb-false labels_most (label_count r) (test_pass 1 (ltb labels_most (label_count r)) c.0);
      few_gaps = ltb-false gaps_most (gap_count r) (test_pass 2 (ltb gaps_most (gap_count r)) c.1.0);
      even = test_pass 3 (ragged r (length w.carried)) c.1.1.0;
      room = test_pass 4 (short (label_count r) (gap_count r) (room_of w)) c.1.1.1.0;
      on_plate = offender_pass (off_plate r) c.1.1.1.1.0;
      weighed = offender_pass (bad_weight r) c.1.1.1.1.1.0;
      known = offender_pass (stranger r) c.1.1.1.1.1.1.0;
      measured = offender_pass (bad_gap r) c.1.1.1.1.1.1.1.0;
      kinded = offender_pass (bad_kind r) c.1.1.1.1.1.1.1.1.0;
    }

-- a weight in its range is above zero
above_of_weight : (z : ℤ) → outside (pos weight_least) (pos weight_most) z ≡ false → pos 0 <ℤ z
above_of_weight (pos zero) e = absurd (let z : ◌≡◌ {A = ℕ} 0 1 = cc in omega arith)
above_of_weight (pos (suc n)) e = parts_lt (omega arith)
above_of_weight (negsuc n) e = absurd (let z : ◌≡◌ {A = ℕ} 0 1 = cc in omega arith)

-- ends that are no strangers are labels of the sheet
pub ends_in : (u v n : ℕ) → (not (ltb u n) || not (ltb v n)) ≡ false → (u < n) × (v < n)
ends_in u v n e =
    let clear : (not (ltb u n) ≡ false) × (not (ltb v n) ≡ false) = or_clear (not (ltb u n)) (not (ltb v n)) e in
    (ltb-true u n (not-false (ltb u n) clear.0), ltb-true v n (not-false (ltb v n) clear.1))

-- check 23 passed: a kind is at least or exactly
pub kind_known : (kind : ℕ) → neither kind ≡ false → kind ≤ exactly_byte
kind_known kind e = go (eqb kind at_least_byte) (eqb kind exactly_byte) refl refl e
  where
    go : (least exact : Bool) → eqb kind at_least_byte ≡ least → eqb kind exactly_byte ≡ exact → (not least && not exact) ≡ false → kind ≤ exactly_byte
    go true exact p q f = omega (arith, eqb-true kind at_least_byte p)
    go false true p q f = omega (arith, eqb-true kind exactly_byte q)
    go false false p q f = absurd (let z : ◌≡◌ {A = ℕ} 0 1 = cc in omega arith)

-- and so no gap of a sheet that passed is ignored
pub asks : (kind : ℕ) → neither kind ≡ false → kind_of kind ≢ ignored
asks zero e is = let z : ◌≡◌ {A = ℕ} 0 1 = cc in omega arith
asks (suc zero) e is = let z : ◌≡◌ {A = ℕ} 0 1 = cc in omega arith
asks (suc (suc kind)) e is = omega (arith, kind_known (suc (suc kind)) e)

-- checks 6 and 7 passed: the sheet is proper
pub passed_proper : (r : Read) (w : Written) → table r w ≡ pass → Proper (sheet_of r)
unfolding sheet_of
passed_proper r w e =
    let passed : Passed r w = table_passed r w e in
    let ends : (k : ℕ) → k < gap_count r → ((record_at r.gaps k).left < label_count r) × ((record_at r.gaps k).right < label_count r) = λ k h. ends_in (record_at r.gaps k).left (record_at r.gaps k).right (label_count r) (passed.known k h) in
    record {
      heavy = λ i h. above_of_weight (get_or r.weight i.0 (pos 0)) (passed.weighed i.0 h);
      left_in = λ g h. (ends g.0 h).0;
      right_in = λ g h. (ends g.0 h).1;
    }
