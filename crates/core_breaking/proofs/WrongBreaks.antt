-- Wrong breaking points: what the definitions give instead of each.
use Prim.Native.Nat.{ℕ}
use mathlib.Core.Path.{◌≡◌, refl, sym}
use mathlib.Core.Logic.{◌≢◌}
use mathlib.Core.List.{List}
use native.Mathlib.Omega.{arith}
use lib.IntN.{ℤ, pos}
use Rattle.algebra.proofs.Whole.{le_of_eq}
use Rattle.exact.specs.Divide.{order_of, order_z}
use Rattle.std.specs.Prelude.{Some, None}
use Rattle.ground.specs.declared.GapNumber.{GapNumber}
use Rattle.ground.specs.declared.problem.Problem.{Problem}
use Rattle.core_forest.specs.declared.search.Work.{Work}
use Rattle.ground.specs.Entries.{nat, int}
use Rattle.least_move.specs.Sheet.{gap_number}
use Rattle.core_breaking.specs.declared.BreakingPoint.{BreakingPoint}
use Rattle.core_breaking.specs.Breaking.{over, nearer_of, losing_end, candidate_of}
use Rattle.core_breaking.proofs.BreakingPoints.{breaks_at, other_kind, other_end}

-- the label x at a position of the queue, and its parent gap e
module _ (p : Problem) (sign : ℤ) (w : Work) (held share : List ℤ) (k : ℕ) where
  abbrev x : ℕ
  x = nat w.queue k

  abbrev e : ℕ
  e = nat w.via x

  -- an exact gap does not give way
  pub exact_stays : nat p.kind e ≡ 1 → candidate_of p sign w held share k ≡ None
  exact_stays is = sym (other_kind p sign w held share k (λ (none : nat p.kind e ≡ 0). omega arith))

  -- nor does one that gains load with the push
  pub gaining_stays : losing_end sign p.left p.right e ≢ x → candidate_of p sign w held share k ≡ None
  gaining_stays gains = sym (other_end p sign w held share k gains)

  -- the smallest share is enough for one that loses load
  pub small_share_breaks :
      nat p.kind e ≡ 0 → int share x ≡ pos 1 → losing_end sign p.left p.right e ≡ x →
      candidate_of p sign w held share k ≡ Some (record { gap = gap_number e; push = over (int held x) (int share x) })
  small_share_breaks at_least one loses =
      breaks_at p sign w held share k (record { at_least = at_least; some = le_of_eq (sym one); loses = loses })

-- the breaking point of a gap at a third of a push, or at two
abbrev at_thirds : ℤ → GapNumber → BreakingPoint
at_thirds num e = record { gap = e; push = over num (pos 3) }

-- of two breaking points the farther is not taken, whichever is first
pub farther_passed_over :
    (e f : GapNumber) →
    (nearer_of (Some (at_thirds (pos 2) e)) (Some (at_thirds (pos 1) f)) ≡ Some (at_thirds (pos 1) f))
    × (nearer_of (Some (at_thirds (pos 1) f)) (Some (at_thirds (pos 2) e)) ≡ Some (at_thirds (pos 1) f))
unfolding order_of order_z
farther_passed_over e f = (refl, refl)
