-- Exact gaps against the two opposite gaps that they replace (document 02, Item 6), of two layout calls, each lent its gaps
-- in either form.
use Rattle.std.specs.Prelude.{ℕ, ◌<◌, ◌≡◌, ◌⊎◌, Bool, List, map, ℤ}
use Rattle.ground.specs.declared.GapRecord.{GapRecord}
use Rattle.ground.specs.Answers.{Answer, refusal, ring_length_of}
use Rattle.ground.specs.Answers as answer
use Rattle.ground.specs.Entries.{int}
use Rattle.least_move.specs.Opposite.{Replaced, opposed}
use Rattle.sheet_checks.specs.Lent.{Read, Written, records, label_count, gap_of, sheet_of}
use Rattle.sheet_checks.specs.Refusals.{pass, table}
use Rattle.layout.specs.Promise.{Promise}

-- "the same places": both are placed, and the numbers written are the same
pub record BothPlaced (labels : ℕ) (a : Answer) (after : Written) (a' : Answer) (after' : Written) : Type 0 where
  pub placed : a ≡ answer.placed
  pub placed' : a' ≡ answer.placed
  pub nums : (k : ℕ) → k < labels → int after.place_num k ≡ int after'.place_num k
  pub dens : (k : ℕ) → k < labels → int after.place_den k ≡ int after'.place_den k

-- "or 9", of both, each with a ring of its own
pub record BothNine (a a' : Answer) : Type 0 where
  pub nine : a ≡ refusal 9 0 (ring_length_of a)
  pub nine' : a' ≡ refusal 9 0 (ring_length_of a')

-- "An exact gap shall give the same places, or 9, as the two opposite gaps it replaces, where both sheets pass all other
-- checks": so of any two calls that keep their promises (`opposite_same` in proofs/Opposite). The carried records and the
-- buffers lent to write may differ in all they hold.
abbrev pub OppositeSame : Type 0
OppositeSame =
    (r : Read) (w : Written) (a : Answer) (after : Written) (r' : Read) (w' : Written) (a' : Answer) (after' : Written)
    → Promise r w a after → Promise r' w' a' after' → Replaced (sheet_of r) (sheet_of r') → table r w ≡ pass → table r' w' ≡ pass
    → BothPlaced (label_count r) a after a' after' ⊎ BothNine a a'

-- such sheets as they are lent: the second list of records has, in the place of each exact gap of the first whose number is
-- chosen, its two opposite gaps (`lent_replaced` in proofs/Opposite)
abbrev pub lend_records : (wanted weight : List ℤ) → List GapRecord → Read
lend_records wanted weight gs = record { wanted = wanted; weight = weight; gaps = records gs }

abbrev pub LentReplaced : Type 0
LentReplaced =
    (wanted weight : List ℤ) (chosen : ℕ → Bool) (gs gs' : List GapRecord) → map gap_of gs' ≡ opposed chosen (map gap_of gs)
    → Replaced (sheet_of (lend_records wanted weight gs)) (sheet_of (lend_records wanted weight gs'))
