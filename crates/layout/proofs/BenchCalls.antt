-- What a call on each sheet of the bench comes to: the table lets all of them pass, by one test computed over the list,
-- and then the promise and what is right of the case leave one answer.
use Rattle.std.specs.Prelude.{Ok, Err}
use Prim.Native.Nat.{ℕ, ◌<◌}
use mathlib.Core.Path.{◌≡◌, refl, sym, ◌∙◌, ap, ap₂, subst, subst₂}
use mathlib.Core.Bool.{Bool, true, false}
use mathlib.Core.List.Memᴰ
use mathlib.Core.List.{List, ◌∷◌, Memᴰ}
use native.Mathlib.Omega.{arith}
use lib.Dec.{T}
use lib.ListN.{length, get_or, length-map, get_or-map}
use lib.IntN.{pos}
use Rattle.exact.specs.Fraction.{LowestTerms, whole}
use Rattle.exact.proofs.Divisor.{lowest_unique}
use Rattle.ground.specs.declared.GapNumber.{GapNumber}
use Rattle.ground.specs.declared.Label.{Label}
use Rattle.ground.specs.Answers.{Answer, refusal, ring_length_of}
use Rattle.ground.specs.Answers as answer
use Rattle.ground.specs.Entries.{Each}
use Rattle.least_move.specs.Sheet.{Sheet, Proper, kind_of, label}
use Rattle.least_move.specs.Placement.{Feasible}
use Rattle.least_move.specs.Multipliers.{Conditions}
use Rattle.least_move.specs.Ring.{Ring}
use Rattle.least_move.specs.Moved.{SameButWants}
use Rattle.least_move.specs.Bench.{WrittenGap, Source, given, worked_out, Placed, Refused, Case, placed, refused, moved}
use Rattle.least_move.specs.Bench.{P1, bench, placement, multipliers, written, RightPlaced, RightRefused, OnlyMultipliers, ◌to◌of◌}
use Rattle.least_move.specs.Bench as bench
use Rattle.least_move.proofs.Bench.{Test, granted, ◌on◌, each, bench_right}
use Rattle.least_move.proofs.Opposite.{entry}
use Rattle.least_move.proofs.Places.{conditions_places}
use Rattle.sheet_checks.specs.Lent.{Written, label_count, gap_count, gap_of, sheet_of, place_of, multiplier_of}
use Rattle.sheet_checks.specs.Refusals.{pass, offender_below, table_of, ragged, rows, table}
use Rattle.sheet_checks.proofs.Passed.{passed_proper}
use Rattle.least_move.specs.Marks.{Step}
use Rattle.layout.specs.Promise.{Promise, Accepted, RingGiven, steps_told}
use Rattle.layout.specs.BenchCalls.{Form, as_lists, as_records, record_of, lend, LentAlike, LentWith, EachCall, MultipliersSo, PlacedSo, RefusedSo, AnsweredSo}
use Rattle.layout.proofs.Facts.{judged, placed_accepted, places_known}

-- ---- the table lets them pass

-- the table of a bench sheet, where its buffers have room
abbrev Fits : Form → bench.Written → Type 0
Fits f s =
    table_of (label_count (lend f s)) (gap_count (lend f s)) (ragged (lend f s) (length s.carried)) false (rows (lend f s)) ≡ pass

is_pass : Answer → Bool
is_pass (Ok _) = true
is_pass (Err q) = false

shows_pass : (c : Answer) → T (is_pass c) → c ≡ pass
unfolding is_pass
shows_pass (Ok _) h = refl
shows_pass (Err q) h = absurd h

abbrev fits? : (f : Form) (s : bench.Written) → Test (Fits f s)
fits? f s = record { passes = is_pass _; shows = shows_pass _ }

-- in both forms
abbrev FitsBoth : bench.Written → Type 0
FitsBoth s = (f : Form) → Fits f s

by_form : (s : bench.Written) → Fits as_lists s → Fits as_records s → FitsBoth s
by_form s a b as_lists = a
by_form s a b as_records = b

abbrev both? : (s : bench.Written) → Test (FitsBoth s)
both? s = granted (by_form s) on fits? as_lists s on fits? as_records s

abbrev FitsCase : Case → Type 0
FitsCase (placed c) = FitsBoth c.sheet
FitsCase (refused c) = FitsBoth c.sheet
FitsCase (moved c) = FitsBoth c.before.sheet × FitsBoth c.after.sheet

abbrev case? : (c : Case) → Test (FitsCase c)
case? (placed c) = both? c.sheet
case? (refused c) = both? c.sheet
case? (moved c) = granted (λ a b. (a, b)) on both? c.before.sheet on both? c.after.sheet

bench_fits : (c : Case) → Memᴰ c bench → FitsCase c
unfolding bench is_pass table_of offender_below
bench_fits = (each case? bench).shows tt

-- what is lent to write with a sheet changes nothing in its table
pub lent_table : (f : Form) (s : bench.Written) {w : Written} → LentWith f s w
    → table (lend f s) w ≡ table_of (label_count (lend f s)) (gap_count (lend f s)) (ragged (lend f s) (length s.carried)) false (rows (lend f s))
lent_table f s l =
    ap₂ (λ (n : ℕ) (short : Bool). table_of (label_count (lend f s)) (gap_count (lend f s)) (ragged (lend f s) n) short (rows (lend f s)))
    (ap length l.carried) l.room

lent_passes : (f : Form) (s : bench.Written) {w : Written} → LentWith f s w → Fits f s → table (lend f s) w ≡ pass
lent_passes f s l fits = lent_table f s l ∙ fits

-- ---- both forms tell the sheet that is written

pub lend_same : (f : Form) (s : bench.Written) → sheet_of (lend f s) ≡ written s
unfolding sheet_of
lend_same as_lists s = λ j. record {
  labels = length s.wants;
  gaps = length-map s.gaps (λ g. g.left) j;
  wanted = λ i. get_or s.wants i.0 (pos 0);
  weight = λ i. get_or s.weights i.0 (pos 0);
  gap = λ e. record {
    left = label (get_or-map (λ (g : WrittenGap). g.left) s.gaps e.0 (0 to 0 of pos 0) j);
    right = label (get_or-map (λ (g : WrittenGap). g.right) s.gaps e.0 (0 to 0 of pos 0) j);
    distance = get_or-map (λ (g : WrittenGap). g.distance) s.gaps e.0 (0 to 0 of pos 0) j;
    kind = kind_of (get_or-map (λ (g : WrittenGap). g.kind) s.gaps e.0 (0 to 0 of pos 0) j);
  };
}
lend_same as_records s = λ j. record {
  labels = length s.wants;
  gaps = length-map s.gaps record_of j;
  wanted = λ i. get_or s.wants i.0 (pos 0);
  weight = λ i. get_or s.weights i.0 (pos 0);
  gap = λ e. gap_of (get_or-map record_of s.gaps e.0 (0 to 0 of pos 0) j);
}

pub lent_alike : LentAlike
lent_alike f f' s s' labels weights gaps = subst₂ SameButWants (sym (lend_same f s)) (sym (lend_same f' s')) written_alike
  where
    written_alike : SameButWants (written s) (written s')
    written_alike =
        record {
          labels = labels;
          gaps = ap length gaps;
          weight = λ i h. ap (λ l. get_or l i.0 (pos 0)) weights;
          gap = λ e h. ap (λ l. bench.gap_of (get_or l e.0 (0 to 0 of pos 0))) gaps;
        }

-- ---- what a call comes to

module _ (c : Placed) (right : RightPlaced c) (fits : FitsBoth c.sheet) where
  place_lowest : (i : Label) → i.0 < length c.sheet.wants → LowestTerms (placement c i)
  place_lowest i h = right.lowest (placement c i) (Memᴰ.append_left c.multipliers (entry c.places i.0 (whole (pos 0)) (omega (arith, right.per_label))))

  multiplier_lowest : (e : GapNumber) → e.0 < length c.sheet.gaps → LowestTerms (multipliers c e)
  multiplier_lowest e h = right.lowest (multipliers c e) (Memᴰ.append_right c.places (entry c.multipliers e.0 (whole (pos 0)) (omega (arith, right.per_gap))))

  module _ (f : Form) (w : Written) (a : Answer) (after : Written) (l : LentWith f c.sheet w) (promise : Promise (lend f c.sheet) w a after) where
    same : sheet_of (lend f c.sheet) ≡ written c.sheet
    same = lend_same f c.sheet

    passed : table (lend f c.sheet) w ≡ pass
    passed = lent_passes f c.sheet l (fits f)

    known : (a ≡ answer.placed) × ((i : Label) → i.0 < length c.sheet.wants → place_of after i ≡ placement c i)
    known =
        places_known promise passed (placement c) (multipliers c)
        (subst (λ (s : Sheet). Conditions s (placement c) (multipliers c)) (sym same) right.conditions) place_lowest

    accepted : Accepted (sheet_of (lend f c.sheet)) w after
    accepted = placed_accepted promise known.0

    -- the multipliers written meet the conditions with the document's places
    conditions : Conditions (written c.sheet) (placement c) (multiplier_of after)
    conditions =
        conditions_places (subst Proper same (passed_proper (lend f c.sheet) w passed)) known.1
        (subst (λ (s : Sheet). Conditions s (place_of after) (multiplier_of after)) same accepted.conditions)

    multipliers_known : (by : Source) → OnlyMultipliers c by → MultipliersSo c by after
    multipliers_known given only = λ e h.
        lowest_unique (multiplier_of after e) (multipliers c e)
        (accepted.multipliers_lowest e (subst (λ (s : Sheet). e.0 < s.gaps) (sym same) h)) (multiplier_lowest e h)
        (only (multiplier_of after) conditions e h)
    multipliers_known worked_out only = tt

    placed_once : PlacedSo c a after
    placed_once = record { answered = known.0; places = known.1; multipliers_so = multipliers_known c.source right.only }

  placed_so : EachCall c.sheet (PlacedSo c)
  placed_so f w a after l promise = placed_once f w a after l promise

module _ (c : Refused) (right : RightRefused c) (fits : FitsBoth c.sheet) where
  module _ (f : Form) (a : Answer) (after w : Written) (told : a ≡ refusal 9 0 (ring_length_of a)) (ring : RingGiven (sheet_of (lend f c.sheet)) w after (ring_length_of a)) where
    -- every ring is the case's
    known_ring : (length (ring.first ∷ ring.others) ≡ length c.ring) × Each (λ t. Memᴰ t (ring.first ∷ ring.others)) c.ring
    known_ring =
        right.only (ring.first ∷ ring.others)
        (subst (λ (s : Sheet). Ring s ring.first ring.others) (lend_same f c.sheet) ring.ring)

    size : ring_length_of a ≡ length c.ring
    size = ring.counted ∙ known_ring.0

    front : ring.first ∷ ring.others ≡ steps_told (length c.ring) after
    front = sym ring.front ∙ ap (λ (n : ℕ). steps_told n after) size

    refused_once : RefusedSo c a after
    refused_once = record {
      answered = told ∙ ap (refusal 9 0) size ∙ ap (λ (n : ℕ). refusal n 0 (length c.ring)) (sym right.number);
      ring = subst (λ (l : List Step). Each (λ t. Memᴰ t l) c.ring) front known_ring.1;
    }

  refused_so : EachCall c.sheet (RefusedSo c)
  refused_so f w a after l promise =
      judged promise (lent_passes f c.sheet l (fits f))
      (λ _ accepted. absurd (right.none (place_of after) (subst (λ (s : Sheet). Feasible s (place_of after)) (lend_same f c.sheet) accepted.least.feasible)))
      (λ told _ ring. refused_once f a after w told ring)

answered_so : (c : Case) → bench.RightCase c → FitsCase c → AnsweredSo c
answered_so (placed c) right fits = placed_so c right fits
answered_so (refused c) right fits = refused_so c right fits
answered_so (moved c) right fits = (placed_so c.before right.before fits.0, placed_so c.after right.after fits.1)

-- every call on a sheet of the bench that keeps its promise answers as documents 01 and 02 say
pub bench_answers : (c : Case) → Memᴰ c bench → AnsweredSo c
bench_answers c m = answered_so c (bench_right c m) (bench_fits c m)

-- the same of the case that stands at a number of the list, from 0
pub case_answers : (k : ℕ) → k < length bench → AnsweredSo (get_or bench k (placed P1))
case_answers k h = bench_answers (get_or bench k (placed P1)) (entry bench k (placed P1) h)
