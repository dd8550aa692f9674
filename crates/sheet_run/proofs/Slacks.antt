-- The slack that is printed for a gap of an accepted sheet is the gap's own: 12 and 8 meet none. So none is below zero, and
-- that of a tight gap, an exact one, a marked one, or one with a multiplier other than zero, is 0/1 (document 02, Items 1 and
-- 6). Nothing cites them.
use Prim.Native.Nat.{ℕ, suc, ◌≤◌, ◌<◌}
use mathlib.Core.Path.{◌≡◌, refl, sym, ap, ap₂, ◌∙◌}
use mathlib.Core.Bool.{Bool, true, false, ◌||◌}
use mathlib.Core.List.{List}
use native.Mathlib.Omega.{arith}
use native.Mathlib.Nat.{le-min}
use lib.Dec.{ltb}
use lib.ListN.{length, take, length-take}
use lib.Seq.{get_or-take}
use lib.IntN.{ℤ, pos, negsuc, neg_ℤ}
use lib.Signed.{◌≤ℤ◌}
use borrow.Author.Tests.{le-leb, ltb-false}
use Rattle.ground.specs.Answers.{placed}
use Rattle.ground.specs.declared.GapNumber.{GapNumber}
use Rattle.ground.specs.Entries.{int, nat}
use Rattle.ground.specs.Limits.{distance_most}
use Rattle.exact.specs.declared.Fraction.{Fraction}
use Rattle.exact.specs.Fraction.{◌≃◌, whole}
use Rattle.single_fractions.specs.Slack.{slack_answer, slack_given, within_distance}
use Rattle.single_fractions.proofs.Slacks.{slack_of_places}
use Rattle.least_move.specs.Sheet.{Proper, exactly, label}
use Rattle.least_move.specs.Placement.{slack_of, Tight}
use Rattle.least_move.proofs.Slack.{exact_slack, held_slack, loaded_slack, marked_slack, tight_slack}
use Rattle.sheet_checks.specs.Lent.{Read, Written, gap_count, label_count, lists, multiplier_of, place_of, sheet_of}
use Rattle.sheet_checks.specs.Refusals.{outside}
use Rattle.sheet_checks.proofs.Passed.{Passed, asks, or_clear, table_passed}
use Rattle.layout.specs.Promise.{Accepted, Promise, mark_of}
use Rattle.layout.proofs.Facts.{placed_accepted, placed_passes, placed_proper}
use Rattle.layout.proofs.Laws.{place_within}
use Rattle.text_reading.specs.declared.Counts.{Counts}
use Rattle.text_reading.specs.Texts.{Lists}
use Rattle.text_listing.specs.Listing.{Listable, gaps_in, labels_in, place_in, printed_slack}
use Rattle.text_listing.proofs.PrintedSlack.{slack_given_lem}
use Rattle.sheet_run.specs.Run.{listable_read, sheet_read}
use Rattle.sheet_run.proofs.Enough.{take_most}

-- a distance that check 8 passed
distance_passed : (z : ℤ) → outside (neg_ℤ (pos distance_most)) (pos distance_most) z ≡ false → within_distance z ≡ true
distance_passed (pos k) e = le-leb k distance_most (ltb-false distance_most k e)
distance_passed (negsuc k) e = le-leb (suc k) distance_most (omega (arith, ltb-false 19999 k (or_clear (ltb 19999 k) false e).0))

-- a sheet whose gaps are lent as the listing is lent them, of these kinds
abbrev pub call_on : (wanted weight : List ℤ) (kind : List ℕ) → Listable → Read
call_on wanted weight kind l = record { wanted = wanted; weight = weight; gaps = lists l.left l.right l.distance kind }

-- ---- the listing of a call on such a sheet, lent the places that the call wrote

module _ (wanted weight : List ℤ) (kind : List ℕ) (l : Listable) {w after : Written} (promise : Promise (call_on wanted weight kind l) w placed after)
    (enough : length wanted ≤ labels_in l) (same : (i : ℕ) → i < length wanted → place_in l i ≡ place_of after (label i)) where
  accepted : Accepted (sheet_of (call_on wanted weight kind l)) w after
  accepted = placed_accepted promise refl

  proper : Proper (sheet_of (call_on wanted weight kind l))
  proper = placed_proper promise refl

  pub listed_slack : (e : GapNumber) → e.0 < gaps_in l → printed_slack l e.0 ≡ slack_of (place_of after) ((sheet_of (call_on wanted weight kind l)).gap e)
  unfolding sheet_of
  listed_slack e h =
      let u : ℕ = nat l.left e.0 in
      let v : ℕ = nat l.right e.0 in
      let g : ℤ = int l.distance e.0 in
      let left_in : u < length wanted = proper.left_in e h in
      let right_in : v < length wanted = proper.right_in e h in
      let passed : Passed (call_on wanted weight kind l) w = table_passed (call_on wanted weight kind l) w (placed_passes promise refl) in
      sym (slack_given_lem l e.0 (omega arith) (omega arith))
      ∙ ap₂ (λ (p q : Fraction). slack_given (slack_answer p q g)) (same u left_in) (same v right_in)
      ∙ ap slack_given
      (slack_of_places (place_of after (label u)) (place_of after (label v)) g (place_within promise refl (label u) left_in) (place_within promise refl (label v) right_in)
      (distance_passed g (passed.measured e.0 h)))

  -- an accepted sheet has no broken gap, so none is printed below zero
  pub listed_held : (e : GapNumber) → e.0 < gaps_in l → pos 0 ≤ℤ (printed_slack l e.0).num
  unfolding sheet_of
  listed_held e h =
      let passed : Passed (call_on wanted weight kind l) w = table_passed (call_on wanted weight kind l) w (placed_passes promise refl) in
      rw (listed_slack e h) (held_slack accepted.least.feasible e h (asks (nat kind e.0) (passed.kinded e.0 h)))

  -- a tight gap is printed with 0/1
  pub listed_tight : (e : GapNumber) → e.0 < gaps_in l → Tight (place_of after) ((sheet_of (call_on wanted weight kind l)).gap e) → printed_slack l e.0 ≡ whole (pos 0)
  unfolding sheet_of
  listed_tight e h tight =
      let fractions = accepted.least.feasible.fractions in
      listed_slack e h
      ∙ tight_slack (place_of after) ((sheet_of (call_on wanted weight kind l)).gap e)
      (fractions (label (nat l.left e.0)) (proper.left_in e h)) (fractions (label (nat l.right e.0)) (proper.right_in e h)) tight

  -- so is an exact one
  pub listed_exact : (e : GapNumber) → e.0 < gaps_in l → ((sheet_of (call_on wanted weight kind l)).gap e).kind ≡ exactly → printed_slack l e.0 ≡ whole (pos 0)
  unfolding sheet_of
  listed_exact e h exact = listed_slack e h ∙ exact_slack proper accepted.least.feasible e h exact

  -- so is a marked one
  pub listed_marked : (e : GapNumber) → e.0 < gaps_in l → mark_of after e ≡ true → printed_slack l e.0 ≡ whole (pos 0)
  unfolding sheet_of
  listed_marked e h marked = listed_slack e h ∙ marked_slack proper accepted.least.feasible accepted.marks e h marked

  -- and one with a multiplier other than zero
  pub listed_loaded : (e : GapNumber) → e.0 < gaps_in l → ¬ (multiplier_of after e ≃ whole (pos 0)) → printed_slack l e.0 ≡ whole (pos 0)
  unfolding sheet_of
  listed_loaded e h loaded = listed_slack e h ∙ loaded_slack proper accepted.conditions e h loaded

-- ---- a run

-- the first of the tests of room is clear
first_clear : (a b c d e f : Bool) → (a || b || c || d || e || f) ≡ false → a ≡ false
first_clear true b c d e f h = h
first_clear false b c d e f h = refl

module _ (c : Counts) (l : Lists) {w after : Written} (promise : Promise (sheet_read c l) w placed after) where
  -- a place is listed for each label
  pub enough_read : label_count (sheet_read c l) ≤ labels_in (listable_read c l after)
  unfolding sheet_of
  enough_read =
      let passed : Passed (sheet_read c l) w = table_passed (sheet_read c l) w (placed_passes promise refl) in
      let room : label_count (sheet_read c l) ≤ length w.place_num = ltb-false (length w.place_num) (label_count (sheet_read c l)) (first_clear _ _ _ _ _ _ passed.room) in
      rw (length-take c.labels after.place_num)
      (le-min (take_most c.labels l.wanted) (omega (arith, (placed_accepted promise refl).place_nums.size)))

  -- it is the one that the call wrote
  pub same_read : (i : ℕ) → i < label_count (sheet_read c l) → place_in (listable_read c l after) i ≡ place_of after (label i)
  same_read i h =
      let below : i < c.labels = omega (arith, take_most c.labels l.wanted) in
      rw (get_or-take c.labels after.place_num i (pos 0) below, get_or-take c.labels after.place_den i (pos 0) below)

  pub printed_slack_lem : (e : GapNumber) → e.0 < gap_count (sheet_read c l) → printed_slack (listable_read c l after) e.0 ≡ slack_of (place_of after) ((sheet_of (sheet_read c l)).gap e)
  printed_slack_lem = listed_slack (take c.labels l.wanted) (take c.labels l.weight) (take c.gaps l.kind) (listable_read c l after) promise enough_read same_read

  pub printed_held : (e : GapNumber) → e.0 < gap_count (sheet_read c l) → pos 0 ≤ℤ (printed_slack (listable_read c l after) e.0).num
  printed_held = listed_held (take c.labels l.wanted) (take c.labels l.weight) (take c.gaps l.kind) (listable_read c l after) promise enough_read same_read

  pub printed_tight : (e : GapNumber) → e.0 < gap_count (sheet_read c l) → Tight (place_of after) ((sheet_of (sheet_read c l)).gap e) → printed_slack (listable_read c l after) e.0 ≡ whole (pos 0)
  printed_tight = listed_tight (take c.labels l.wanted) (take c.labels l.weight) (take c.gaps l.kind) (listable_read c l after) promise enough_read same_read

  pub printed_exact : (e : GapNumber) → e.0 < gap_count (sheet_read c l) → ((sheet_of (sheet_read c l)).gap e).kind ≡ exactly → printed_slack (listable_read c l after) e.0 ≡ whole (pos 0)
  printed_exact = listed_exact (take c.labels l.wanted) (take c.labels l.weight) (take c.gaps l.kind) (listable_read c l after) promise enough_read same_read

  pub printed_marked : (e : GapNumber) → e.0 < gap_count (sheet_read c l) → mark_of after e ≡ true → printed_slack (listable_read c l after) e.0 ≡ whole (pos 0)
  printed_marked = listed_marked (take c.labels l.wanted) (take c.labels l.weight) (take c.gaps l.kind) (listable_read c l after) promise enough_read same_read

  pub printed_loaded : (e : GapNumber) → e.0 < gap_count (sheet_read c l) → ¬ (multiplier_of after e ≃ whole (pos 0)) → printed_slack (listable_read c l after) e.0 ≡ whole (pos 0)
  printed_loaded = listed_loaded (take c.labels l.wanted) (take c.labels l.weight) (take c.gaps l.kind) (listable_read c l after) promise enough_read same_read
