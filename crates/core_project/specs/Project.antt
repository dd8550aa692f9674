-- The core's contract on plain slices.
use Rattle.std.specs.Prelude.{ℕ, ◌+◌, ◌*◌, ◌≤◌, ◌<◌, ◌≡◌, Bool, List, Result, Ok, Err, length, get_or, take, ℤ, pos, nat_abs}
use Rattle.exact.specs.declared.Fraction.{Fraction}
use Rattle.exact.specs.Fraction.{LowestTerms, Reduced, fraction_at}
use Rattle.ground.specs.declared.Label.{Label}
use Rattle.ground.specs.declared.GapNumber.{GapNumber}
use Rattle.least_move.specs.Multipliers.{Conditions}
use Rattle.least_move.specs.Marks.{Marks}
use Rattle.ground.specs.Entries.{nat, int, Filled}
use Rattle.ground.specs.declared.lists.Lists.{Lists}
use Rattle.ground.specs.declared.problem.Problem.{Problem}
use Rattle.core_forest.specs.Problem.{Limits, marks_of, sheet_from}
use Rattle.core_balance.specs.Places.{DenMost}
use Rattle.least_move.specs.Ring.{steps_of, IsRing}
use Rattle.core_ring.specs.declared.RingSize.{RingSize}
use Rattle.core_project.specs.Core.{Asked}
use Rattle.ground.specs.Limits.{block_weight_most, offset_most}
use denote.Triple.Both.{Both}
use Rattle.ground.specs.Views.{MutParam}
use Rattle.std.specs.Borrow.{MutBor}

-- the front of a work array holds a lent list
abbrev pub Copied : {A : Type 0} (n : ℕ) (from to : List A) (none : A) → Type 0
Copied n from to none = (k : ℕ) → k < n → get_or to k none ≡ get_or from k none

-- a list is written to the front of a lent one, and so are fractions, in lowest terms
pub record FrontWritten {A : Type 0} (n : ℕ) (from before after : List A) (none : A) : Type 0 where
  pub filled : Filled n before after
  pub written : (k : ℕ) → k < n → get_or after k none ≡ get_or from k none

pub record FractionsWritten (n : ℕ) (num den upper lower upper' lower' : List ℤ) : Type 0 where
  pub uppers : Filled n upper upper'
  pub lowers : Filled n lower lower'
  pub reduced : (k : ℕ) → k < n → Reduced (fraction_at num den k) (fraction_at upper' lower' k)

-- what is lent to write
pub record Buffers : Type 0 where
  pub place_num : List ℤ
  pub place_den : List ℤ
  pub mult_num : List ℤ
  pub mult_den : List ℤ
  pub carried : List ℕ
  pub ring : List ℕ
  pub back : List ℕ

-- the problem that lists tell
abbrev pub problem_of : (wanted weight : List ℤ) (left right : List ℕ) (distance : List ℤ) (kind : List ℕ) → Problem
problem_of wanted weight left right distance kind =
    record { labels = length wanted; gaps = length left; left = left; right = right; distance = distance; kind = kind; wanted = wanted; weight = weight }

abbrev pub problem_in : Lists → Problem
problem_in l = problem_of l.wanted.now l.weight.now l.left.now l.right.now l.distance.now l.kind.now

-- within the core's limits, with lists that belong together
pub record Listed (p : Problem) : Type 0 where
  pub limits : Limits p
  pub wants : length p.wanted ≡ p.labels
  pub weights : length p.weight ≡ p.labels
  pub lefts : length p.left ≡ p.gaps
  pub rights : length p.right ≡ p.gaps
  pub distances : length p.distance ≡ p.gaps
  pub kinds : length p.kind ≡ p.gaps

-- with a carried record of that length and room for the results, too
pub record Ready (p : Problem) (b : Buffers) : Type 0 where
  pub listed : Listed p
  pub carrieds : length b.carried ≡ p.gaps
  pub place_room : (p.labels ≤ length b.place_num) × (p.labels ≤ length b.place_den)
  pub mult_room : (p.gaps ≤ length b.mult_num) × (p.gaps ≤ length b.mult_den)
  pub ring_room : (p.labels ≤ length b.ring) × (p.labels ≤ length b.back)

-- the work arrays hold a problem in their front
pub record Held (p work : Problem) : Type 0 where
  pub labels : work.labels ≡ p.labels
  pub gaps : work.gaps ≡ p.gaps
  pub lefts : Copied p.gaps p.left work.left 0
  pub rights : Copied p.gaps p.right work.right 0
  pub distances : Copied p.gaps p.distance work.distance (pos 0)
  pub kinds : Copied p.gaps p.kind work.kind 0
  pub wants : Copied p.labels p.wanted work.wanted (pos 0)
  pub weights : Copied p.labels p.weight work.weight (pos 0)

abbrev pub place_in : Buffers → Label → Fraction
place_in b i = fraction_at b.place_num b.place_den i.0

abbrev pub multiplier_in : Buffers → GapNumber → Fraction
multiplier_in b e = fraction_at b.mult_num b.mult_den e.0

abbrev pub mark_in : Buffers → GapNumber → Bool
mark_in b e = marks_of b.carried e.0

-- every label is placed: the front of each buffer is written, what lies behind it stays, and so do the ring buffers
pub record Solved (p : Problem) (b after : Buffers) : Type 0 where
  pub place_nums : Filled p.labels b.place_num after.place_num
  pub place_dens : Filled p.labels b.place_den after.place_den
  pub mult_nums : Filled p.gaps b.mult_num after.mult_num
  pub mult_dens : Filled p.gaps b.mult_den after.mult_den
  pub carried : Filled p.gaps b.carried after.carried
  pub ring : after.ring ≡ b.ring
  pub back : after.back ≡ b.back
  pub conditions : Conditions (sheet_from p) (place_in after) (multiplier_in after)
  pub marks : Marks (sheet_from p) (place_in after) (multiplier_in after) (mark_in after)
  pub bytes : (e : ℕ) → e < p.gaps → nat after.carried e ≤ 1
  pub places_lowest : (i : Label) → i.0 < p.labels → LowestTerms (place_in after i)
  pub multipliers_lowest : (e : GapNumber) → e.0 < p.gaps → LowestTerms (multiplier_in after e)
  -- a place has a denominator of at most 48 times the largest weight, and lies within the largest want and 940,000 of zero
  pub den_most : (i : ℕ) → i < p.labels → DenMost p (int after.place_den i)
  pub num_most :
      (i : ℕ) → i < p.labels → (B : ℕ) → ((j : ℕ) → j < p.labels → nat_abs (int p.wanted j) ≤ B) →
      nat_abs (int after.place_num i) ≤ (B + offset_most) * nat_abs (int after.place_den i)
  -- a marked gap is never of the kind ignored
  pub asked : Asked (sheet_from p) (mark_in after)
  -- a multiplier has such a denominator too, and so one of at most 172,800
  pub mult_den_most : (e : ℕ) → e < p.gaps → DenMost p (int after.mult_den e)
  pub mult_den_size : (e : ℕ) → e < p.gaps → nat_abs (int after.mult_den e) ≤ block_weight_most

-- a ring: it stands in the front of the two ring buffers, and everything else stays
pub record RingGiven (p : Problem) (b after : Buffers) (size : ℕ) : Type 0 where
  pub some : 0 < size
  pub most : size ≤ p.labels
  pub ring : IsRing (sheet_from p) (steps_of (take size after.ring) (take size after.back))
  pub rings : Filled size b.ring after.ring
  pub backs : Filled size b.back after.back
  pub stays :
      after ≡ record {
        place_num = b.place_num;
        place_den = b.place_den;
        mult_num = b.mult_num;
        mult_den = b.mult_den;
        carried = b.carried;
        ring = after.ring;
        back = after.back;
      }
  -- every byte of the front is 0 or 1
  pub back_bytes : (k : ℕ) → k < size → nat after.back k ≤ 1

-- what the core owes for its answer
abbrev pub ProjectSays : Problem → Result (Unit {0}) RingSize → (b after : Buffers) → Type 0
ProjectSays p (Ok _) b after = Solved p b after
ProjectSays p (Err size) b after = RingGiven p b after size.0

-- ---- the lent buffers: as a `requires` sees them, and at entry and exit as an `ensures` does

abbrev pub buffers_now : (place_num place_den mult_num mult_den : MutBor (List ℤ)) (carried ring back : MutBor (List ℕ)) → Buffers
buffers_now place_num place_den mult_num mult_den carried ring back =
    record { place_num = place_num.now; place_den = place_den.now; mult_num = mult_num.now; mult_den = mult_den.now; carried = carried.now; ring = ring.now; back = back.now }

abbrev pub buffers_lent : (place_num place_den mult_num mult_den : MutParam ℤ) (carried ring back : MutParam ℕ) → Both Buffers Buffers
buffers_lent place_num place_den mult_num mult_den carried ring back = record {
  entry = buffers_now place_num.entry place_den.entry mult_num.entry mult_den.entry carried.entry ring.entry back.entry;
  exit = buffers_now place_num.exit place_den.exit mult_num.exit mult_den.exit carried.exit ring.exit back.exit;
}
