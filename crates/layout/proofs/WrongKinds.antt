-- Wrong parts that document 02's Item 6 rules out: each breaks the promise of a layout call on a sheet of the bench. Nothing
-- cites them.
use Prim.Native.Nat.{ℕ, suc, ◌<◌}
use mathlib.Core.Path.{◌≡◌, refl, sym, ◌∙◌, ap, subst, subst⁻¹}
use mathlib.Core.Logic.{⊎_elim}
use mathlib.Core.Bool.{Bool, true, false, true≢false}
use mathlib.Core.List.Memᴰ
use mathlib.Core.List.{List, [], ◌∷◌, Memᴰ}
use native.Mathlib.Omega.{arith}
use lib.Dec.{lit<, eqb, ltb}
use borrow.Author.Tests.{le-ltb}
use lib.ListN.{length, replicate, take, length-take, length-replicate}
use lib.Seq.{get_or-take}
use lib.IntN.{pos, nat_abs}
use Rattle.exact.specs.declared.Fraction.{Fraction}
use Rattle.exact.specs.Fraction.{◌≼◌, whole}
use Rattle.ground.specs.Answers.{Answer}
use Rattle.ground.specs.declared.GapNumber.{GapNumber}
use Rattle.ground.specs.declared.Label.{Label}
use Rattle.ground.specs.Entries.{nat, int}
use Rattle.least_move.specs.Sheet.{Sheet, label, gap_number}
use Rattle.least_move.specs.Marks.{Step, forwards, MarkedRing}
use Rattle.least_move.specs.Ring.{step_of, steps_of}
use Rattle.least_move.specs.Bench.{bench, written, backwards, joined, redundant, joined_against, joined_apart}
use Rattle.least_move.specs.Bench as bench
use Rattle.sheet_checks.specs.Lent.{Written, label_count, gap_count, place_of, multiplier_of}
use Rattle.layout.specs.Promise.{Promise, mark_of, steps_told}
use Rattle.layout.specs.BenchCalls.{Form, lend, LentWith, EachCall, PlacedSo, RefusedSo}
use Rattle.layout.proofs.BenchCalls.{lend_same, case_answers}
use Rattle.layout.proofs.Facts.{placed_accepted}

-- ---- what calls on Item 6's sheets come to

joined_lays : EachCall joined.sheet (PlacedSo joined)
unfolding bench
joined_lays = case_answers 13 (lit< tt)

redundant_lays : EachCall redundant.sheet (PlacedSo redundant)
unfolding bench
redundant_lays = case_answers 14 (lit< tt)

against_rings : EachCall joined_against.sheet (RefusedSo joined_against)
unfolding bench
against_rings = case_answers 16 (lit< tt)

apart_rings : EachCall joined_apart.sheet (RefusedSo joined_apart)
unfolding bench
apart_rings = case_answers 17 (lit< tt)

-- such calls can be made: buffers of zeros with room for the sheet, and its carried record
abbrev roomy : Form → bench.Written → Written
roomy f s =
    let labels : ℕ = label_count (lend f s) in
    let gaps : ℕ = gap_count (lend f s) in
    record {
      place_num = replicate labels (pos 0);
      place_den = replicate labels (pos 0);
      mult_num = replicate gaps (pos 0);
      mult_den = replicate gaps (pos 0);
      ring = replicate labels 0;
      back = replicate labels 0;
      carried = s.carried;
    }

lent : (f : Form) (s : bench.Written) → LentWith f s (roomy f s)
lent f s = record { carried = refl; room = simp (length-replicate, fits (label_count (lend f s)), fits (gap_count (lend f s))) }
  where
    fits : (n : ℕ) → ltb n n ≡ false
    fits n = le-ltb n n (omega arith)

-- ---- the wrong parts

-- one that takes an exact gap as at least: the labels of `joined` stay where they are wanted, at 0 and 10
pub takes_as_at_least : {f : Form} {w after : Written} {a : Answer} → LentWith f joined.sheet w
    → ((i : Label) → i.0 < 2 → place_of after i ≡ whole (int joined.sheet.wants i.0)) → ¬ (Promise (lend f joined.sheet) w a after)
takes_as_at_least {f} {w} {after} {a} l stay promise =
    let moved : ◌≡◌ {A = ℕ} 0 2 =
    ap (λ (q : Fraction). nat_abs q.num) (sym (stay (label 0) (lit< tt)) ∙ (joined_lays f w a after l promise).places (label 0) (lit< tt)) in
    omega arith

-- one that gives the exact gap a multiplier of zero or above, as if it were of the other kind
pub lifts_multiplier : {f : Form} {w after : Written} {a : Answer} → LentWith f joined.sheet w
    → whole (pos 0) ≼ multiplier_of after (gap_number 0) → ¬ (Promise (lend f joined.sheet) w a after)
lifts_multiplier {f} {w} {after} {a} l above promise =
    (subst (λ (q : Fraction). whole (pos 0) ≼ q) ((joined_lays f w a after l promise).multipliers_so (gap_number 0) (lit< tt)) above).le

-- the gaps of `redundant`, where all are marked: from 0 to 1, to 2 and back
round : (marked : GapNumber → Bool) → ((e : ℕ) → e < 3 → marked (gap_number e) ≡ true)
    → MarkedRing (written redundant.sheet) marked (forwards 0) (forwards 1 ∷ backwards 2 ∷ [])
round marked all =
    record {
      closed = (refl, (refl, refl));
      along = ((lit< tt, all 0 (lit< tt)), ((lit< tt, all 1 (lit< tt)), ((lit< tt, all 2 (lit< tt)), tt)));
      once = (((λ e. omega (arith, ap number e)), ((λ e. omega (arith, ap number e)), tt)), (((λ e. omega (arith, ap number e)), tt), (tt, tt)));
    }
  where
    number : GapNumber → ℕ
    number e = e.0

-- one that marks every exact gap, since each is tight
pub marks_each : {f : Form} {w after : Written} {a : Answer} → LentWith f redundant.sheet w
    → ((e : ℕ) → e < 3 → nat after.carried e ≡ 1) → ¬ (Promise (lend f redundant.sheet) w a after)
marks_each {f} {w} {after} {a} l marked promise =
    (placed_accepted promise (redundant_lays f w a after l promise).answered).marks.no_ring (forwards 0) (forwards 1 ∷ backwards 2 ∷ [])
    (subst⁻¹ (λ (s : Sheet). MarkedRing s (mark_of after) (forwards 0) (forwards 1 ∷ backwards 2 ∷ [])) (lend_same f redundant.sheet)
    (round (mark_of after) (λ e h. ap (λ (b : ℕ). eqb b 1) (marked e h))))

-- where a step of two buffers stands
step_at : (es backs : List ℕ) (t : Step) → Memᴰ t (steps_of es backs) → (k : ℕ) × (k < length es) × (t ≡ step_of (nat es k) (nat backs k))
step_at [] backs t m = absurd (Memᴰ.not-nil m)
step_at (e ∷ es) [] t m = absurd (Memᴰ.not-nil m)
step_at (e ∷ es) (back ∷ backs) t m =
    ⊎_elim (λ q. (0, omega arith, q))
    (λ n. let s = step_at es backs t n in (suc s.0, omega (arith, s.1), s.2))
    (Memᴰ.cases_cons m)

-- a step backwards is not told by a byte 0 beside its gap
told_backwards : (size e : ℕ) (after : Written) → Memᴰ (backwards e) (steps_told size after)
    → ((k : ℕ) → k < size → nat after.ring k ≡ e → nat after.back k ≡ 0) → ⊥
told_backwards size e after m forwards =
    true≢false
    (ap (λ (t : Step). t.backwards) found.2
    ∙ ap (λ (b : ℕ). eqb b 1) (get_or-take size after.back k 0 below ∙ forwards k below (sym (get_or-take size after.ring k 0 below) ∙ sym (ap (λ (t : Step). t.by.0) found.2))))
  where
    found : (k : ℕ) × (k < length (take size after.ring)) × (backwards e ≡ step_of (nat (take size after.ring) k) (nat (take size after.back) k))
    found = step_at (take size after.ring) (take size after.back) (backwards e) m

    k : ℕ
    k = found.0

    below : k < size
    below = omega (arith, found.1, length-take size after.ring)

-- one that tells an exact gap of a ring as passed forwards, by a byte 0 beside its number, where it is passed backwards
pub tells_forwards : {f : Form} {w after : Written} {a : Answer} → LentWith f joined_against.sheet w
    → ((k : ℕ) → k < 2 → nat after.ring k ≡ 0 → nat after.back k ≡ 0) → ¬ (Promise (lend f joined_against.sheet) w a after)
tells_forwards {f} {w} {after} {a} l forwards promise = told_backwards 2 0 after (against_rings f w a after l promise).ring.1.0 forwards

-- the same of exact gaps that contradict
pub tells_apart_forwards : {f : Form} {w after : Written} {a : Answer} → LentWith f joined_apart.sheet w
    → ((k : ℕ) → k < 3 → nat after.ring k ≡ 2 → nat after.back k ≡ 0) → ¬ (Promise (lend f joined_apart.sheet) w a after)
tells_apart_forwards {f} {w} {after} {a} l forwards promise = told_backwards 3 2 after (apart_rings f w a after l promise).ring.1.1.0 forwards
