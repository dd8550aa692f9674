-- Breaking points of a block, over the lists that a search and two eliminations leave.
use Rattle.std.specs.Prelude.{ℕ, zero, suc, ◌≤◌, ◌<◌, cond, ◌&&◌, List, Option, Some, None, eqb, ◌≤ℤ◌}
use lib.IntN.{ℤ, pos, nat_abs}
use Rattle.std.specs.Int.Signed.{le_z}
use Rattle.exact.specs.declared.Fraction.{Fraction}
use Rattle.std.specs.declared.cmp.Ordering.{Ordering}
use Rattle.std.specs.declared.cmp.Ordering.TheVariants.{Less, Equal, Greater}
use Rattle.exact.specs.Divide.{InRange, order_of}
use Rattle.least_move.specs.Sheet.{gap_number}
use Rattle.ground.specs.Entries.{nat, int}
use Rattle.ground.specs.declared.problem.Problem.{Problem}
use Rattle.core_forest.specs.declared.search.Work.{Work}
use Rattle.core_breaking.specs.declared.BreakingPoint.{BreakingPoint}
use Rattle.ground.specs.Limits.{block_weight_most, gaps_most, labels_most, multiplier_most}

-- a numerator over a denominator
abbrev pub over : ℤ → ℤ → Fraction
over num den = record { num = num; den = den }

-- a breaking point that can be compared
abbrev pub BreakInRange : Option BreakingPoint → Type 0
BreakInRange None = Unit {0}
BreakInRange (Some a) = InRange a.push

-- the nearer of two breaking points, by where b stands to a; a where they are equal
abbrev pub by_order : Ordering → (b a : Option BreakingPoint) → Option BreakingPoint
by_order Less b a = b
by_order Equal b a = a
by_order Greater b a = a

-- the nearer of two breaking points, where there are any
abbrev pub nearer_of : (a b : Option BreakingPoint) → Option BreakingPoint
nearer_of None b = b
nearer_of (Some a) None = Some a
nearer_of (Some a) (Some b) = by_order (order_of b.push a.push) (Some b) (Some a)

-- which end of a gap is the label that the gap's load is handed from, for a gap that loses load:
-- the right end for sign 1, else the left
abbrev pub losing_end : ℤ → List ℕ → List ℕ → ℕ → ℕ
losing_end (pos s) left right e = cond (eqb s 1) (nat right e) (nat left e)
losing_end (lib.IntN.negsuc s) left right e = nat left e

-- the breaking point at a position of the queue
unfoldable pub candidate_of : Problem → ℤ → Work → (held share : List ℤ) → ℕ → Option BreakingPoint
candidate_of p sign w held share k =
    let x = nat w.queue k in
    let e = nat w.via x in
    cond (eqb (nat p.kind e) 0 && le_z (pos 1) (int share x) && eqb (losing_end sign p.left p.right e) x)
    (Some (record { gap = gap_number e; push = over (int held x) (int share x) }))
    None

-- the first of those at positions 1 to count - 1
unfoldable pub least_break : ℕ → (ℕ → Option BreakingPoint) → Option BreakingPoint
least_break zero f = None
least_break (suc zero) f = None
least_break (suc (suc k)) f = nearer_of (least_break (suc k) f) (f (suc k))

-- what the work arrays hold of a block can be compared
pub record Breakable (count : ℕ) (queue via : List ℕ) (held share : List ℤ) : Type 0 where
  pub count_most : count ≤ labels_most
  pub labels_in : (k : ℕ) → k < count → nat queue k < labels_most
  pub gaps_in : (k : ℕ) → 0 < k → k < count → nat via (nat queue k) < gaps_most
  pub held_most : (k : ℕ) → k < count → nat_abs (int held (nat queue k)) ≤ multiplier_most
  pub share_bound : (k : ℕ) → k < count → int share (nat queue k) ≤ℤ pos block_weight_most
