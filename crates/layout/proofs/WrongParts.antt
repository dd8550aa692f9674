-- The wrong parts of document 01, "What is owed by each public entry", 3, and of document 02, Item 3: each breaks the
-- promise of a layout call.
use Rattle.std.specs.Prelude.{Err}
use Prim.Native.Nat.{ℕ, ◌≤◌, ◌<◌}
use mathlib.Core.Path.{◌≡◌, refl, sym, ◌∙◌, ap}
use mathlib.Core.Logic.{◌≢◌}
use mathlib.Core.List.{List, [], ◌∷◌}
use native.Mathlib.Omega.{arith}
use borrow.Author.Tests.{le-leb, lt-leb}
use lib.Dec.{lit<}
use lib.Seq.{length-take-le}
use lib.ListN.{length, replicate, take}
use lib.IntN.{ℤ, pos, nat_abs}
use Rattle.exact.specs.declared.Fraction.{Fraction}
use Rattle.ground.specs.declared.Refusal.{Refusal}
use Rattle.ground.specs.declared.Label.{Label}
use Rattle.least_move.specs.Sheet.{label}
use Rattle.least_move.specs.Placement.{Placement}
use Rattle.least_move.specs.Bench.{bench, placement, P1, P2, P5, P7, mixed}
use Rattle.least_move.specs.Bench as bench
use Rattle.sheet_checks.specs.Lent.{LentGaps, lists, records, Read, Written, label_count, place_of}
use Rattle.layout.specs.Part.{filled_part}
use Rattle.layout.specs.Promise.{Promise}
use Rattle.layout.specs.BenchCalls.{Form, as_lists, as_records, lend, LentWith, EachCall, PlacedSo, RefusedSo}
use Rattle.ground.specs.Answers.{Answer, refusal, ring_length_of}
use Rattle.ground.specs.Answers as answer
use Rattle.sheet_checks.specs.Refusals.{offender_below, table_of, table}
use Rattle.sheet_checks.proofs.Passed.{not_pass}
use Rattle.layout.proofs.Facts.{not_both, placed_passes, refused_by_table}
use Rattle.layout.proofs.BenchCalls.{case_answers, lent_table}

-- ---- what calls on P1, P2, P5 and P7 come to

pub P1-lays : EachCall P1.sheet (PlacedSo P1)
unfolding bench
P1-lays = case_answers 0 (lit< tt)

pub P2-lays : EachCall P2.sheet (PlacedSo P2)
unfolding bench
P2-lays = case_answers 1 (lit< tt)

-- P5, "carried record marked"
pub P5-lays : EachCall P5.sheet (PlacedSo P5)
unfolding bench
P5-lays = case_answers 5 (lit< tt)

-- P7, which has a ring: of this call `makes_up_ring` speaks
pub P7-rings : EachCall P7.sheet (RefusedSo P7)
unfolding bench
P7-rings = case_answers 7 (lit< tt)

-- buffers of zeros for two labels, with a sheet's carried record
abbrev pub zeros : bench.Written → Written
zeros s =
    let places : List ℤ = replicate 2 (pos 0) in
    let multipliers : List ℤ = replicate (length s.carried) (pos 0) in
    record { place_num = places; place_den = places; mult_num = multipliers; mult_den = multipliers; ring = replicate 2 0; back = replicate 2 0; carried = s.carried }

-- what the wrong parts break is asked of calls that a station can make
P1-lent : (f : Form) → LentWith f P1.sheet (zeros P1.sheet)
P1-lent as_lists = record { carried = refl; room = refl }
P1-lent as_records = record { carried = refl; room = refl }

P2-lent : (f : Form) → LentWith f P2.sheet (zeros P2.sheet)
P2-lent as_lists = record { carried = refl; room = refl }
P2-lent as_records = record { carried = refl; room = refl }

-- fractions that are different in their numerators
pub apart : {p q r : Fraction} → nat_abs q.num ≢ nat_abs r.num → p ≡ q → p ≡ r → ⊥
apart differ e f = differ (ap (λ (q : Fraction). nat_abs q.num) (sym e ∙ f))

-- ---- the wrong parts

-- what a part answers and leaves written
abbrev pub Part : Type 0
Part = Read → Written → Answer × Written

-- the gaps are lent in this form
abbrev pub InForm : Form → LentGaps → Type 0
InForm as_lists (lists l r g k) = Unit {0}
InForm as_lists (records gs) = ⊥
InForm as_records (lists l r g k) = ⊥
InForm as_records (records gs) = Unit {0}

lent_so : (f : Form) (s : bench.Written) → InForm f (lend f s).gaps
lent_so as_lists s = tt
lent_so as_records s = tt

-- a part keeps the promise of the call that is lent the gaps in a form. Of the other call nothing is asked.
abbrev pub Keeps : Form → Part → Type 0
Keeps f part = (r : Read) (w : Written) → InForm f r.gaps → Promise r w (part r w).0 (part r w).1

-- what it answers and leaves for a sheet of the bench
module _ (f : Form) (part : Part) (keeps : Keeps f part) (s : bench.Written) (w : Written) where
  kept : Promise (lend f s) w (part (lend f s) w).0 (part (lend f s) w).1
  kept = keeps (lend f s) w (lent_so f s)

module _ (f : Form) (part : Part) where
  P1-so : Keeps f part → PlacedSo P1 (part (lend f P1.sheet) (zeros P1.sheet)).0 (part (lend f P1.sheet) (zeros P1.sheet)).1
  P1-so keeps = P1-lays f (zeros P1.sheet) _ _ (P1-lent f) (kept f part keeps P1.sheet (zeros P1.sheet))

  P2-so : Keeps f part → PlacedSo P2 (part (lend f P2.sheet) (zeros P2.sheet)).0 (part (lend f P2.sheet) (zeros P2.sheet)).1
  P2-so keeps = P2-lays f (zeros P2.sheet) _ _ (P2-lent f) (kept f part keeps P2.sheet (zeros P2.sheet))

  -- one that refuses each sheet
  pub refuses_each : ((r : Read) (w : Written) → InForm f r.gaps → (q : Refusal) × ((part r w).0 ≡ Err q)) → ¬ (Keeps f part)
  refuses_each refuses keeps = not_both (P1-so keeps).answered (refuses (lend f P1.sheet) (zeros P1.sheet) (lent_so f P1.sheet)).1

  -- one that prints the same places for all sheets: P1 against P2
  pub prints_the_same : (p : Placement) → ((r : Read) (w : Written) → InForm f r.gaps → (part r w).0 ≡ answer.placed → (i : Label) → i.0 < label_count r → place_of (part r w).1 i ≡ p i) → ¬ (Keeps f part)
  prints_the_same p prints keeps =
      apart {q = placement P1 (label 0)} {r = placement P2 (label 0)} (λ e. omega arith)
      (sym (prints (lend f P1.sheet) (zeros P1.sheet) (lent_so f P1.sheet) (P1-so keeps).answered (label 0) (lit< tt)) ∙ (P1-so keeps).places (label 0) (lit< tt))
      (sym (prints (lend f P2.sheet) (zeros P2.sheet) (lent_so f P2.sheet) (P2-so keeps).answered (label 0) (lit< tt)) ∙ (P2-so keeps).places (label 0) (lit< tt))

  -- one that writes nothing: P1's denominators stay zero
  pub writes_nothing : ((r : Read) (w : Written) → InForm f r.gaps → (part r w).1 ≡ w) → ¬ (Keeps f part)
  writes_nothing nothing keeps =
      let stays = nothing (lend f P1.sheet) (zeros P1.sheet) (lent_so f P1.sheet) in
      let denominators : ◌≡◌ {A = ℕ} 0 1 =
      ap (λ (after : Written). nat_abs (place_of after (label 0)).den) (sym stays) ∙ ap (λ (q : Fraction). nat_abs q.den) ((P1-so keeps).places (label 0) (lit< tt)) in
      omega arith

  -- one that tells a made-up ring length: P7 needs two gaps
  pub makes_up_ring : (w : Written) → LentWith f P7.sheet w → ring_length_of (part (lend f P7.sheet) w).0 ≢ 2 → ¬ (Keeps f part)
  makes_up_ring w l made_up keeps = made_up (ap ring_length_of (P7-rings f w _ _ l (kept f part keeps P7.sheet w)).answered)

  -- "Trusting the carried mark in P5: it gives 45 and 55"
  pub trusts_the_mark : (w : Written) → LentWith f P5.sheet w → place_of (part (lend f P5.sheet) w).1 (label 0) ≡ record { num = pos 45; den = pos 1 } → ¬ (Keeps f part)
  trusts_the_mark w l trusts keeps =
      apart {q = record { num = pos 45; den = pos 1 }} {r = placement P5 (label 0)} (λ e. omega arith) trusts
      ((P5-lays f w _ _ l (kept f part keeps P5.sheet w)).places (label 0) (lit< tt))

-- a part whose work may depend on the calls before
abbrev pub Remembering : Type 0
Remembering = List (Read × Written) → Part

-- one that lays out the first sheet, here P1, and hands its places out again later, for P5, in whichever forms
pub hands_out_again : (part : Remembering) (f f' : Form) (w w' : Written) → LentWith f P1.sheet w → LentWith f' P5.sheet w'
    → ((i : Label) → i.0 < 2 → place_of (part ((lend f P1.sheet, w) ∷ []) (lend f' P5.sheet) w').1 i ≡ place_of (part [] (lend f P1.sheet) w).1 i)
    → ¬ ((before : List (Read × Written)) → Keeps f (part before) × Keeps f' (part before))
hands_out_again part f f' w w' l l' again keeps =
    apart {q = placement P1 (label 0)} {r = placement P5 (label 0)} (λ e. omega arith)
    (again (label 0) (lit< tt) ∙ (P1-lays f w _ _ l (kept f (part []) (keeps []).0 P1.sheet w)).places (label 0) (lit< tt))
    ((P5-lays f' w' _ _ l' (kept f' (part ((lend f P1.sheet, w) ∷ [])) (keeps ((lend f P1.sheet, w) ∷ [])).1 P5.sheet w')).places (label 0) (lit< tt))

-- a sheet that breaks a rule is called placed
pub called_placed : {r : Read} {w after : Written} {q : Refusal} → table r w ≡ Err q → ¬ (Promise r w answer.placed after)
called_placed breaks promise = not_pass (sym breaks ∙ placed_passes promise refl)

-- "in the text only" (document 02, Item 3): the sheet with weight 0 where the text's is blank
abbrev pub zero_weight : bench.Written
zero_weight = record { wants = mixed.sheet.wants; weights = pos 0 ∷ pos 1 ∷ []; gaps = mixed.sheet.gaps; carried = mixed.sheet.carried }

-- a lent weight of 0 does not count ten: the call is refused with 6 at its label, and nothing is written
pub lent_zero_refused : {f : Form} {w after : Written} {a : Answer} → LentWith f zero_weight w → Promise (lend f zero_weight) w a after → (a ≡ refusal 6 0 0) × (after ≡ w)
unfolding table_of offender_below
lent_zero_refused {f = as_lists} l promise = refused_by_table promise (lent_table as_lists zero_weight l)
lent_zero_refused {f = as_records} l promise = refused_by_table promise (lent_table as_records zero_weight l)

-- ---- the part of the ring buffer that is handed back

-- one of another length
pub other_length : (ring part : List ℕ) (size : ℕ) → part ≡ filled_part ring size → size ≤ length ring → length part ≢ size → ⊥
other_length ring part size e within other =
    let filled : filled_part ring size ≡ take size ring = simp (le-leb size (length ring) within) in
    other (ap length (e ∙ filled) ∙ length-take-le size ring within)

-- one that is not empty, for a length beyond the buffer
pub beyond_the_buffer : (ring part : List ℕ) (size : ℕ) → part ≡ filled_part ring size → length ring < size → length part ≢ 0 → ⊥
beyond_the_buffer ring part size e beyond other =
    let empty : filled_part ring size ≡ [] = simp (lt-leb size (length ring) beyond) in
    other (ap length (e ∙ empty))
