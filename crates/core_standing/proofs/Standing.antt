-- What a forest in balance gives: places within their bounds, which can be compared, and a start for the outer loop.
use mathlib.Core.List.{List, []}
use Prim.Native.Nat.{ℕ, ◌*◌, ◌≤◌, ◌<◌}
use native.Mathlib.Omega.{arith}
use lib.IntN.{ℤ, pos, nat_abs}
use lib.Signed.{◌<ℤ◌}
use Rattle.algebra.proofs.Whole.{parts_le, parts_lt, le_parts, parts_nat_abs}
use Rattle.least_move.specs.States.{StateAt, Lawful, Settled}
use Rattle.least_move.proofs.Ending.{Small, DensIn, PlacesIn}
use Rattle.ground.specs.Entries.{nat, int}
use Rattle.core_elimination.proofs.Ranges.{above_most}
use Rattle.ground.specs.declared.problem.Problem.{Problem}
use Rattle.core_forest.specs.Problem.{Limits, marks_of, numbers_of, plain}
use Rattle.core_balance.specs.Places.{PlacesFound}
use Rattle.core_balance.proofs.Placing.{den_limit, places_kind}
use Rattle.core_balance.specs.Balance.{Balanced}
use Rattle.core_worst_gap.specs.WorstGap.{PlaceInRange, Comparable}
use Rattle.core_standing.specs.Standing.{Startable, Standing}

-- ---- places within their bounds

module _ {p : Problem} (lim : Limits p) where
  pub weight_size : (i : ℕ) → i < p.labels → nat_abs (int p.weight i) ≤ 3600
  weight_size i l = above_most (lim.weight_low i l) (lim.weight_high i l)

  pub small : Small (numbers_of p)
  small =
      record {
        labels = lim.labels_bound;
        heavy = λ i l. parts_le (omega (arith, le_parts (lim.weight_low i l)));
        light = weight_size;
        wants = lim.wanted_bound;
      }

  module _ (mark : List ℕ) (num den : List ℤ) (found : PlacesFound p mark num den) where
    pub den_size : (i : ℕ) → i < p.labels → nat_abs (int den i) ≤ 172800
    den_size i l = den_limit lim (int den i) (found i l).den_most

    pub den_above : (i : ℕ) → i < p.labels → pos 0 <ℤ int den i
    den_above i l = parts_lt (omega (arith, le_parts (found i l).den_least))

    pub num_near : (i : ℕ) → i < p.labels → nat_abs (int num i) ≤ 1540000 * nat_abs (int den i)
    num_near i l = (found i l).num_most 600000 lim.wanted_bound

    pub dens_in : DensIn p.labels (int den)
    dens_in =
        record {
          above = den_above;
          most = λ i l. parts_le (omega (arith, den_size i l, parts_nat_abs (int den i)));
        }

    pub places_in : PlacesIn p.labels (int num) (int den)
    places_in = record { dens = dens_in; near = num_near }

    pub place_in_range : (i : ℕ) → i < p.labels → PlaceInRange num den i
    place_in_range i l =
        record {
          label_in = omega (arith, lim.labels_bound);
          den_least = (found i l).den_least;
          den_most = den_size i l;
          num_most = omega (arith, num_near i l, den_size i l);
        }

    pub comparable : Comparable p num den
    comparable =
        record {
          gaps_bound = lim.gaps_bound;
          left_placed = λ e l. place_in_range (nat p.left e) (lim.left_in e l);
          right_placed = λ e l. place_in_range (nat p.right e) (lim.right_in e l);
          distance_bound = lim.distance_bound;
        }

-- ---- the start of the outer loop

-- the places that the marks give, where all is balanced
abbrev pub settled : {p : Problem} (mark : List ℕ) (num den : List ℤ) → PlacesFound p mark num den → (N : ℤ) (X Λ : ℕ → ℤ) → pos 0 <ℤ N → StateAt (numbers_of p) (marks_of mark) 0 0 N (pos 0) X Λ → Lawful (numbers_of p) (marks_of mark) Λ → Settled (numbers_of p) (marks_of mark) (int num) (int den)
settled mark num den found N X Λ above state lawful =
    record { N = N; X = X; Λ = Λ; above = above; state = state; lawful = lawful; places = λ i l. (found i l).placed N X Λ above state }

-- the start of the loop
pub standing : {p : Problem} {mark : List ℕ} (num den load over : List ℤ) → Startable p mark → Balanced (plain p) mark num den load over → Standing p mark num den load over
standing {p} {mark} num den load over s b =
    let found : PlacesFound p mark num den = places_kind p [] mark num den b.found in
    record {
      forest = s.forest;
      bytes = s.bytes;
      settled = settled mark num den found s.N s.X s.Λ s.above s.state s.lawful;
      found = found;
      balanced = b;
    }
