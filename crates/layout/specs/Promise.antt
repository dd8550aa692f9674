-- What a layout call owes: its number, its place and every lent entry afterwards (document 01,
-- "What a station lends", "Refusal table", "What is owed by each public entry"; document 02, Item 6).
use Rattle.std.specs.Prelude.{ℕ, suc, ◌*◌, ◌≤◌, ◌<◌, ◌≡◌, ◌⊎◌, Bool, List, ◌∷◌, eqb, length, get_or, take, nat_abs, Ok, Err}
use Rattle.exact.specs.Fraction.{LowestTerms}
use Rattle.ground.specs.Limits.{place_den_most, place_most}
use Rattle.ground.specs.declared.Label.{Label}
use Rattle.ground.specs.declared.GapNumber.{GapNumber}
use Rattle.least_move.specs.Sheet.{Sheet}
use Rattle.least_move.specs.Placement.{Placement, Feasible, LeastMove}
use Rattle.least_move.specs.Multipliers.{Conditions}
use Rattle.least_move.specs.Marks.{Marks, Step}
use Rattle.least_move.specs.Ring.{Ring, steps_of}
use Rattle.sheet_checks.specs.Lent.{Read, Written, sheet_of, place_of, multiplier_of}
use Rattle.sheet_checks.specs.Refusals.{table}
use Rattle.ground.specs.Entries.{nat, Filled}
use Rattle.ground.specs.Answers.{Answer, placed, ring_length_of, refusal}

-- the carried byte of a gap: "1 for marked gaps, else 0"
abbrev pub byte_at : Written → GapNumber → ℕ
byte_at w e = get_or w.carried e.0 0

abbrev pub mark_of : Written → GapNumber → Bool
mark_of w e = eqb (byte_at w e) 1

-- "Accepted: the first entries, one per label or gap, hold fractions in lowest terms .. Entries beyond stay.
-- The ring buffer stays. The carried record holds 1 for marked gaps, else 0". The second ring buffer is "kept as the first is"
pub record Accepted (s : Sheet) (w after : Written) : Type 0 where
  pub place_nums : Filled s.labels w.place_num after.place_num
  pub place_dens : Filled s.labels w.place_den after.place_den
  pub mult_nums : Filled s.gaps w.mult_num after.mult_num
  pub mult_dens : Filled s.gaps w.mult_den after.mult_den
  pub ring : after.ring ≡ w.ring
  pub back : after.back ≡ w.back
  pub carried : Filled s.gaps w.carried after.carried
  pub least : LeastMove s (place_of after)
  pub conditions : Conditions s (place_of after) (multiplier_of after)
  pub marks : Marks s (place_of after) (multiplier_of after) (mark_of after)
  pub bytes : (e : GapNumber) → e.0 < s.gaps → byte_at after e ≤ 1
  pub places_lowest : (i : Label) → i.0 < s.labels → LowestTerms (place_of after i)
  pub multipliers_lowest : (e : GapNumber) → e.0 < s.gaps → LowestTerms (multiplier_of after e)
  -- "Every place is over a denominator of at most 4,800 and lies within 1,140,000 of zero"
  pub den_most : (i : Label) → i.0 < s.labels → nat_abs (place_of after i).den ≤ place_den_most
  pub near : (i : Label) → i.0 < s.labels → nat_abs (place_of after i).num ≤ place_most * nat_abs (place_of after i).den

-- the steps that the fronts of the two ring buffers tell: "beside each gap number" its byte
abbrev pub steps_told : ℕ → Written → List Step
steps_told size w = steps_of (take size w.ring) (take size w.back)

-- "9 fills the front of the ring buffer with gap numbers such that .. The rest of it stays"; the second ring buffer "holds 0
-- for forwards and 1 for backwards beside each gap number". Everything else stays too.
pub record RingGiven (s : Sheet) (w after : Written) (size : ℕ) : Type 0 where
  pub first : Step
  pub others : List Step
  pub front : steps_told size after ≡ first ∷ others
  pub counted : size ≡ suc (length others)
  pub ring : Ring s first others
  pub back_bytes : (k : ℕ) → k < size → nat after.back k ≤ 1
  pub rest : Filled size w.ring after.ring
  pub back_rest : Filled size w.back after.back
  pub stays :
      after ≡ record {
        place_num = w.place_num;
        place_den = w.place_den;
        mult_num = w.mult_num;
        mult_den = w.mult_den;
        ring = after.ring;
        back = after.back;
        carried = w.carried;
      }

-- a sheet that the table lets pass is placed, or refused with 9 and place 0 because no placement meets all gaps
abbrev pub Judged : Sheet → Written → Answer → Written → Type 0
Judged s w a after =
    ((a ≡ placed) × Accepted s w after)
    ⊎ ((a ≡ refusal 9 0 (ring_length_of a)) × ((p : Placement) → ¬ (Feasible s p)) × RingGiven s w after (ring_length_of a))

-- what the table refuses has the check's number and place, and no ring: "A refused call writes nothing"
abbrev pub ByTable : Answer → Sheet → Written → Answer → Written → Type 0
ByTable (Err q) s w a after = (a ≡ refusal q.number q.place 0) × (after ≡ w)
ByTable (Ok _) s w a after = Judged s w a after

-- the whole promise of a layout call
pub record Promise (r : Read) (w : Written) (a : Answer) (after : Written) : Type 0 where
  pub kept : ByTable (table r w) (sheet_of r) w a after
