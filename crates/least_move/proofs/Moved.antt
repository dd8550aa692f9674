-- The laws of moved wants (specs/Moved) hold of the least moves of any two proper sheets that differ in wants only.
-- Each is brought to a common scale (Bridge) and shown in whole numbers (Stationary); no multipliers are needed.
use mathlib.Core.Path.{◌≡◌, refl, sym, ◌∙◌, ap, subst}
use mathlib.Core.List.{List, [], ◌∷◌}
use Prim.Native.Nat.{ℕ, ◌<◌}
use native.Mathlib.Omega.{arith}
use lib.IntN.{ℤ, pos, ◌+ℤ◌, ◌-ℤ◌, ◌*ℤ◌}
use lib.Signed.{◌≤ℤ◌, ◌<ℤ◌}
use Rattle.exact.specs.declared.Fraction.{Fraction}
use Rattle.exact.specs.Fraction.{IsFraction, ◌⊖◌, ◌≼◌, ◌⊛◌, whole, square}
use Rattle.algebra.proofs.Whole.{le_of_eq, le_of_lt, le_antisym, *ℤ-nonneg, *ℤ-above, square_nonneg}
use Rattle.algebra.proofs.Ring.{ring, quotes, le_given, le_goal, lt_goal}
use Rattle.algebra.proofs.Sum.{sum_cong, sum_nonneg}
use Rattle.exact.proofs.Divisor.{lowest_unique}
use Rattle.exact.proofs.Fractions.{AtScale, CommonScale₂, common₂, rescale, rescale', scale_self, ≼-scale, ⊖-≼-scale, ⊖-scale, ⊛-scale, whole_scale, square_scale, total_scale}
use Rattle.exact.proofs.Fractions.{total_above, whole_above, ⊖-above, square_above}
use Rattle.ground.specs.declared.Label.{Label}
use Rattle.least_move.specs.Sheet.{Sheet, Gap, Proper, label, gap_number}
use Rattle.least_move.specs.Placement.{Placement, Feasible, LeastMove, cost}
use Rattle.least_move.specs.States.{cost_z}
use Rattle.least_move.specs.Moved.{EachLabel, SameButWants, NoWantDown, NoPlaceDown, want_change, place_change, sum_of_squares, sum_of_products, LeastMoveLaws}
use Rattle.least_move.proofs.Scaled.{slack, Meets-at, apart}
use Rattle.least_move.proofs.Bridge.{lefts, rights, weights, kinds, distances, wants, Meets-all, Places-at, meets_back, cost_scale, cost_fraction, feasible_at}
use Rattle.least_move.proofs.Stationary.{slope, Stationary, on_the_way, meets_on_the_way, cost_on_the_way, no_descent, moved_bound, moved_squares}

-- ---- sheets that are the same but for their wants

-- taken the other way round
pub same_sym : (s t : Sheet) → SameButWants s t → SameButWants t s
same_sym s t same =
    record {
      labels = sym same.labels;
      gaps = sym same.gaps;
      weight = λ i h. sym (same.weight i (omega (arith, same.labels)));
      gap = λ e h. sym (same.gap e (omega (arith, same.gaps)));
    }

-- a placement that is feasible for the one is so for the other
pub feasible_same : (s t : Sheet) → SameButWants s t → (p : Placement) → Feasible s p → Feasible t p
feasible_same s t same p f =
    record {
      fractions = λ i h. f.fractions i (omega (arith, same.labels));
      meets = λ e h. let below : e.0 < s.gaps = omega (arith, same.gaps) in rw (same.gap e below) (f.meets e below);
    }

pub proper_same : (s t : Sheet) → SameButWants s t → Proper s → Proper t
proper_same s t same c =
    record {
      heavy = λ i h. let k : i.0 < s.labels = omega (arith, same.labels) in rw (same.weight i k) (c.heavy i k);
      left_in = λ e h. let k : e.0 < s.gaps = omega (arith, same.gaps) in rw (same.gap e k, same.labels) (c.left_in e k);
      right_in = λ e h. let k : e.0 < s.gaps = omega (arith, same.gaps) in rw (same.gap e k, same.labels) (c.right_in e k);
    }

-- ---- least moves are stationary

-- the places of a sheet at a scale are so, with wants of their own
abbrev Stationary-at : Sheet → ℤ → (ℕ → ℤ) → (ℕ → ℤ) → Type 0
Stationary-at s N D X = Stationary s.labels s.gaps (lefts s) (rights s) (weights s) (distances N s) (kinds s) D X

module _ (s : Sheet) (proper : Proper s) (p : Placement) (l : LeastMove s p) {N : ℤ} (h_n : pos 0 <ℤ N) {X : ℕ → ℤ} (placed : Places-at s N X p) where
  module _ (Y : ℕ → ℤ) (met : Meets-all s N Y) (M : ℤ) (M-above : pos 0 <ℤ M) where
    MN-above : pos 0 <ℤ (M *ℤ N)
    MN-above = *ℤ-above M-above h_n

    -- one part in M of the way to other places that meet the gaps
    abbrev near : Placement
    near i = record { num = on_the_way M (X i.0) (Y i.0); den = M *ℤ N }

    near_placed : Places-at s (M *ℤ N) (λ i. on_the_way M (X i) (Y i)) near
    near_placed i h = record { cross = refl }

    near_feasible : Feasible s near
    near_feasible =
        record {
          fractions = λ i h. MN-above;
          meets = λ e h.
              meets_back s proper MN-above near (λ i k. MN-above) near_placed e.0 h
              (subst (Meets-at (kinds s e.0)) (slack_near e.0)
              (meets_on_the_way (kinds s e.0) M (slack (lefts s) (rights s) (distances N s) X e.0) (slack (lefts s) (rights s) (distances N s) Y e.0)
              M-above (feasible_at s proper h_n p l.feasible placed e.0 h) (met e.0 h)));
        }
      where
        slack_near : (e : ℕ) → on_the_way M (slack (lefts s) (rights s) (distances N s) X e) (slack (lefts s) (rights s) (distances N s) Y e)
            ≡ slack (lefts s) (rights s) (distances (M *ℤ N) s) (λ i. on_the_way M (X i) (Y i)) e
        slack_near e =
            ring (M ∷ N ∷ (s.gap (gap_number e)).distance ∷ X (lefts s e) ∷ X (rights s e) ∷ Y (lefts s e) ∷ Y (rights s e) ∷ [])
            (search quotes depth 12) (search quotes depth 12) refl

    -- the cost at M times the scale, where the wants are M times theirs
    cost_near : (Z : ℕ → ℤ) (q : Placement) → Places-at s (M *ℤ N) Z q → AtScale ((M *ℤ N) *ℤ (M *ℤ N)) (cost_z s.labels (weights s) (λ i. M *ℤ wants N s i) Z) (cost s q)
    cost_near Z q at =
        subst (λ x. AtScale ((M *ℤ N) *ℤ (M *ℤ N)) x (cost s q))
        (sum_cong s.labels (λ i. weights s i *ℤ ((Z i -ℤ wants (M *ℤ N) s i) *ℤ (Z i -ℤ wants (M *ℤ N) s i))) (λ i. weights s i *ℤ ((Z i -ℤ M *ℤ wants N s i) *ℤ (Z i -ℤ M *ℤ wants N s i)))
        (λ i h. ring (M ∷ N ∷ Z i ∷ s.wanted (label i) ∷ weights s i ∷ []) (search quotes depth 12) (search quotes depth 12) refl))
        (cost_scale s q at)

    no_cheaper : cost_z s.labels (weights s) (λ i. M *ℤ wants N s i) (λ i. M *ℤ X i) ≤ℤ cost_z s.labels (weights s) (λ i. M *ℤ wants N s i) (λ i. on_the_way M (X i) (Y i))
    no_cheaper =
        (≼-scale (*ℤ-above MN-above MN-above) (cost_fraction s p l.feasible.fractions) (cost_fraction s near near_feasible.fractions)
        (cost_near (λ i. M *ℤ X i) p (λ i h. rescale M (placed i h))) (cost_near (λ i. on_the_way M (X i) (Y i)) near near_placed)
        ).0 (l.least near near_feasible)

  -- the part is so small that a slope below zero would outweigh the squares
  uphill : (Y : ℕ → ℤ) → Meets-all s N Y → pos 0 ≤ℤ slope s.labels (weights s) (wants N s) X Y
  uphill Y met =
      no_descent squares (slope s.labels (weights s) (wants N s) X Y) _ _ squares_nonneg
      (cost_on_the_way s.labels (weights s) (wants N s) X Y (squares +ℤ pos 1))
      (no_cheaper Y met (squares +ℤ pos 1) (one_more squares squares_nonneg))
    where
      squares : ℤ
      squares = apart s.labels (weights s) X Y

      squares_nonneg : pos 0 ≤ℤ squares
      squares_nonneg =
          sum_nonneg s.labels (λ i. weights s i *ℤ ((Y i -ℤ X i) *ℤ (Y i -ℤ X i)))
          (λ i h. *ℤ-nonneg (le_of_lt (proper.heavy (label i) h)) (square_nonneg (Y i -ℤ X i)))

      one_more : (a : ℤ) → pos 0 ≤ℤ a → pos 0 <ℤ (a +ℤ pos 1)
      one_more a h =
          let ρ : List ℤ = a ∷ [] in
          lt_goal ρ (search quotes depth 12) (search quotes depth 12) (omega (arith, le_given ρ (search quotes depth 12) (search quotes depth 12) h))

  stationary : Stationary-at s N (wants N s) X
  stationary =
      record {
        heavy = λ i h. proper.heavy (label i) h;
        meets = feasible_at s proper h_n p l.feasible placed;
        uphill = uphill;
      }

-- and so in the other sheet's terms
stationary_same : (s t : Sheet) → SameButWants s t → (N : ℤ) {D X : ℕ → ℤ} → Stationary-at t N D X → Stationary-at s N D X
stationary_same s t same N {D} {X} c =
    record {
      heavy = λ i h. rw (same.weight (label i) h) at (c.heavy i (omega (arith, same.labels)));
      meets = λ e h. subst (At X e) (same.gap (gap_number e) h) (c.meets e (omega (arith, same.gaps)));
      uphill = λ Y met.
          subst (λ x. pos 0 ≤ℤ x) (slopes Y)
          (c.uphill Y (λ e h. subst (At Y e) (sym (same.gap (gap_number e) (omega (arith, same.gaps)))) (met e (omega (arith, same.gaps)))));
    }
  where
    At : (ℕ → ℤ) → ℕ → Gap → Type 0
    At Y e g = Meets-at g.kind (Y g.right.0 -ℤ Y g.left.0 -ℤ N *ℤ g.distance)

    slopes : (Y : ℕ → ℤ) → slope t.labels (weights t) D X Y ≡ slope s.labels (weights s) D X Y
    slopes Y =
        ap (λ n. slope n (weights t) D X Y) same.labels
        ∙ sum_cong s.labels (λ i. weights t i *ℤ ((X i -ℤ D i) *ℤ (Y i -ℤ X i))) (λ i. weights s i *ℤ ((X i -ℤ D i) *ℤ (Y i -ℤ X i)))
        (λ i h. ap (λ x. x *ℤ ((X i -ℤ D i) *ℤ (Y i -ℤ X i))) (same.weight (label i) h))

-- ---- a difference of at most zero

to_zero : {x y : ℤ} → x ≤ℤ y → whole x ⊖ whole y ≼ whole (pos 0)
to_zero {x} {y} h =
    let ρ : List ℤ = x ∷ y ∷ [] in
    le_goal ρ (search quotes depth 12) (search quotes depth 12) (omega (arith, le_given ρ (search quotes depth 12) (search quotes depth 12) h))

from_zero : (a b : Fraction) → a ⊖ b ≼ whole (pos 0) → a ≼ b
from_zero a b h =
    let ρ : List ℤ = a.num ∷ a.den ∷ b.num ∷ b.den ∷ [] in
    le_goal ρ (search quotes depth 12) (search quotes depth 12) (omega (arith, le_given ρ (search quotes depth 12) (search quotes depth 12) h))

-- ---- the laws

-- one scale for two placements and for a distance
record Scales (s t : Sheet) (p q : Placement) (r : Fraction) : Type 0 where
  N : ℤ
  above : pos 0 <ℤ N
  X : ℕ → ℤ
  X' : ℕ → ℤ
  R : ℤ
  places : Places-at s N X p
  places' : Places-at t N X' q
  distance : AtScale N R r

module _ (s t : Sheet) (p q : Placement) (proper : Proper s) (same : SameButWants s t) (least : LeastMove s p) (least' : LeastMove t q) where
  common_scale : (r : Fraction) → IsFraction r → Scales s t p q r
  common_scale r hr =
      let a : CommonScale₂ s.labels t.labels (λ i. p (label i)) (λ i. q (label i)) =
      common₂ s.labels t.labels (λ i. p (label i)) (λ i. q (label i))
      (λ i h. least.feasible.fractions (label i) h) (λ i h. least'.feasible.fractions (label i) h) in
      record {
        N = a.N *ℤ r.den;
        above = *ℤ-above a.above hr;
        X = λ i. r.den *ℤ a.first i;
        X' = λ i. r.den *ℤ a.second i;
        R = a.N *ℤ r.num;
        places = λ i h. rescale' r.den (a.first_scaled i h);
        places' = λ i h. rescale' r.den (a.second_scaled i h);
        distance = rescale a.N (scale_self r);
      }

  module _ {r : Fraction} (z : Scales s t p q r) where
    first_at : Stationary-at s z.N (wants z.N s) z.X
    first_at = stationary s proper p least z.above z.places

    second_at : Stationary-at s z.N (wants z.N t) z.X'
    second_at = stationary_same s t same z.N (stationary t (proper_same s t same proper) q least' z.above z.places')

  in_t : (i : Label) → i.0 < s.labels → i.0 < t.labels
  in_t i h = omega (arith, same.labels)

  -- no place falls by more than a distance if no want does
  not_further : (r : Fraction) → IsFraction r → EachLabel s (λ i. whole (s.wanted i) ⊖ whole (t.wanted i) ≼ r) → EachLabel s (λ i. p i ⊖ q i ≼ r)
  not_further r hr near i h =
      let z : Scales s t p q r = common_scale r hr in
      (⊖-≼-scale z.above (least.feasible.fractions i h) (least'.feasible.fractions i (in_t i h)) hr (z.places i.0 h) (z.places' i.0 (in_t i h)) z.distance
      ).1 (moved_bound (first_at z) (second_at z) z.R (wants_at z) i.0 h)
    where
      wants_at : (z : Scales s t p q r) (j : ℕ) → j < s.labels → (wants z.N s j -ℤ wants z.N t j) ≤ℤ z.R
      wants_at z j l =
          let one : ℤ = s.wanted (label j) in
          let other : ℤ = t.wanted (label j) in
          (⊖-≼-scale z.above (whole_above one) (whole_above other) hr (whole_scale z.N one) (whole_scale z.N other) z.distance).0 (near (label j) l)

  -- if no want goes down, no place goes down
  no_place_down : NoWantDown s t → NoPlaceDown s p q
  no_place_down up i h = from_zero (p i) (q i) (not_further (whole (pos 0)) (whole_above (pos 0)) (λ j l. to_zero (up j l)) i h)

  -- the sum of weight times squared change of place is at most the sum of weight times change of place times change of want
  squares_at_most : sum_of_squares s p q ≼ sum_of_products s t p q
  unfolding sum_of_squares sum_of_products
  squares_at_most =
      (≼-scale (*ℤ-above z.above z.above)
      (total_above s.labels squares (λ i h. square_above (place_change p q (label i)) (change_above i h)))
      (total_above s.labels products change_above)
      (total_scale s.labels squares (λ i. weights s i *ℤ (change i *ℤ change i)) (λ i h. ⊛-scale (weights s i) (square_scale (change_scale i h))))
      (total_scale s.labels products (λ i. weights s i *ℤ (change i *ℤ (wants z.N t i -ℤ wants z.N s i)))
      (λ i h. subst (λ (x : ℤ). AtScale (z.N *ℤ z.N) (weights s i *ℤ x) (products i))
      (ring (z.N ∷ change i ∷ t.wanted (label i) ∷ s.wanted (label i) ∷ []) (search quotes depth 12) (search quotes depth 12) refl)
      (⊛-scale (weights s i) (rescale z.N (⊛-scale (want_change s t (label i)) (change_scale i h))))))
      ).1 (moved_squares (second_at z) (first_at z))
    where
      z : Scales s t p q (whole (pos 0))
      z = common_scale (whole (pos 0)) (whole_above (pos 0))

      squares : ℕ → Fraction
      squares i = s.weight (label i) ⊛ square (place_change p q (label i))

      products : ℕ → Fraction
      products i = s.weight (label i) ⊛ (want_change s t (label i) ⊛ place_change p q (label i))

      change : ℕ → ℤ
      change i = z.X' i -ℤ z.X i

      change_above : (i : ℕ) → i < s.labels → IsFraction (place_change p q (label i))
      change_above i h = ⊖-above (q (label i)) (p (label i)) (least'.feasible.fractions (label i) (in_t (label i) h)) (least.feasible.fractions (label i) h)

      change_scale : (i : ℕ) → i < s.labels → AtScale z.N (change i) (place_change p q (label i))
      change_scale i h = ⊖-scale (z.places' i (in_t (label i) h)) (z.places i h)

-- ---- what specs/ says of them

pub least_move_laws : LeastMoveLaws
least_move_laws s t p q proper same least least' =
    record {
      largest_move = λ r hr _ near i h. (
        not_further s t p q proper same least least' r hr (λ j l. (near j l).0) i h,
        not_further t s q p (proper_same s t same proper) (same_sym s t same) least' least r hr (λ j l. (near j (in_s j l)).1) i (omega (arith, same.labels)),
      );
      moved_wants = record { rising = up; falling = down; squares = squares_at_most s t p q proper same least least' };
      same_numbers = λ lowest lowest' wants i h.
          lowest_unique (q i) (p i) (lowest' i h) (lowest i h)
          (le_antisym (down (λ j l. le_of_eq (wants j (in_s j l))) i (omega (arith, same.labels))) (up (λ j l. le_of_eq (sym (wants j l))) i h));
    }
  where
    in_s : (i : Label) → i.0 < t.labels → i.0 < s.labels
    in_s i h = omega (arith, same.labels)

    up : NoWantDown s t → NoPlaceDown s p q
    up = no_place_down s t p q proper same least least'

    down : NoWantDown t s → NoPlaceDown t q p
    down = no_place_down t s q p (proper_same s t same proper) (same_sym s t same) least' least
