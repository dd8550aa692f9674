-- The cases of the bench as layout calls (document 01, "Sheets on the bench"; document 02, Items 3, 4 and 6): what a call
-- that keeps its promise answers to each, lent in either form, whatever its buffers hold. The parts that "must be shown to break
-- a promise" are shown by it in proofs/WrongParts, and those of Item 6 in proofs/WrongKinds.
use Rattle.std.specs.Prelude.{◌<◌, ◌≡◌, false, length}
use mathlib.Core.List.{List, map, Memᴰ}
use Rattle.ground.specs.declared.GapNumber.{GapNumber}
use Rattle.ground.specs.declared.GapRecord.{GapRecord}
use Rattle.ground.specs.declared.Label.{Label}
use Rattle.ground.specs.Answers.{Answer, refusal}
use Rattle.ground.specs.Answers as answer
use Rattle.ground.specs.Entries.{Each}
use Rattle.least_move.specs.Bench.{WrittenGap, Source, given, worked_out, Placed, Refused, Case, placed, refused, moved, placement, multipliers}
use Rattle.least_move.specs.Bench as bench
use Rattle.least_move.specs.Moved.{SameButWants}
use Rattle.sheet_checks.specs.Lent.{LentGaps, lists, records, Read, Written, label_count, gap_count, sheet_of, place_of, multiplier_of}
use Rattle.sheet_checks.specs.Refusals.{room_of, short}
use Rattle.layout.specs.Promise.{Promise, steps_told}

-- "one is lent the gaps as three lists, the other as records"; with Item 6's kinds the lists are four
pub data Form : Type 0 where
  as_lists : Form
  as_records : Form

abbrev pub record_of : WrittenGap → GapRecord
record_of g = record { left = g.left; right = g.right; distance = g.distance; kind = g.kind }

abbrev pub lend_gaps : Form → List WrittenGap → LentGaps
lend_gaps as_lists gs =
    lists (map (λ g. g.left) gs) (map (λ g. g.right) gs) (map (λ g. g.distance) gs) (map (λ g. g.kind) gs)
lend_gaps as_records gs = records (map record_of gs)

-- a sheet of the bench as it is lent
abbrev pub lend : Form → bench.Written → Read
lend f s = record { wanted = s.wants; weight = s.weights; gaps = lend_gaps f s.gaps }

-- sheets lent with as many wants, the same weights and the same gaps, in either form each, differ in wants only
-- (`lent_alike` in proofs/BenchCalls)
abbrev pub LentAlike : Type 0
LentAlike =
    (f f' : Form) (s s' : bench.Written) → length s'.wants ≡ length s.wants → s'.weights ≡ s.weights →
    s'.gaps ≡ s.gaps → SameButWants (sheet_of (lend f s)) (sheet_of (lend f' s'))

-- what is lent to write with it: its carried record, and buffers that have room and hold anything
pub record LentWith (f : Form) (s : bench.Written) (w : Written) : Type 0 where
  pub carried : w.carried ≡ s.carried
  pub room : short (label_count (lend f s)) (gap_count (lend f s)) (room_of w) ≡ false

-- every call on a sheet of the bench that keeps its promise comes to this
abbrev pub EachCall : bench.Written → (Answer → Written → Type 0) → Type 0
EachCall s so =
    (f : Form) (w : Written) (a : Answer) (after : Written) → LentWith f s w → Promise (lend f s) w a after → so a after

-- the multipliers where the case's are the only ones
abbrev pub MultipliersSo : Placed → Source → Written → Type 0
MultipliersSo c given after =
    (e : GapNumber) → e.0 < length c.sheet.gaps → multiplier_of after e ≡ multipliers c e
MultipliersSo c worked_out after = Unit {0}

-- placed at these places
pub record PlacedSo (c : Placed) (a : Answer) (after : Written) : Type 0 where
  pub answered : a ≡ answer.placed
  pub places : (i : Label) → i.0 < length c.sheet.wants → place_of after i ≡ placement c i
  pub multipliers_so : MultipliersSo c c.source after

-- refused with this number, place 0 and a ring of these steps, from whichever it begins
pub record RefusedSo (c : Refused) (a : Answer) (after : Written) : Type 0 where
  pub answered : a ≡ refusal c.number 0 (length c.ring)
  pub ring : Each (λ t. Memᴰ t (steps_told (length c.ring) after)) c.ring

-- the cases as calls; the moved pair says no more than its two sheets
abbrev pub AnsweredSo : Case → Type 0
AnsweredSo (placed c) = EachCall c.sheet (PlacedSo c)
AnsweredSo (refused c) = EachCall c.sheet (RefusedSo c)
AnsweredSo (moved c) = EachCall c.before.sheet (PlacedSo c.before) × EachCall c.after.sheet (PlacedSo c.after)
