-- From fractions to whole numbers at a common scale N above zero:
-- what specs/ says of a sheet, its placement and its multipliers is what Scaled says.
use mathlib.Core.Path.{◌≡◌, refl}
use mathlib.Core.Logic.{◌↔◌, inl, inr, ⊎_elim}
use mathlib.Core.Bool.{Bool, true, false, cond}
use mathlib.Core.List.{List, [], ◌∷◌}
use Prim.Native.Nat.{ℕ, ◌<◌}
use native.Mathlib.Omega.{arith}
use lib.IntN.{ℤ, pos, ◌+ℤ◌, ◌-ℤ◌, ◌*ℤ◌}
use lib.Signed.{◌≤ℤ◌, ◌<ℤ◌}
use lib.Dec.{eqb}
use Rattle.exact.specs.declared.Fraction.{Fraction}
use Rattle.exact.specs.Fraction.{IsFraction, ◌≃◌, ◌≼◌, ◌⊖◌, ◌⊛◌, whole, square}
use Rattle.algebra.specs.Sum.{sum, ind}
use Rattle.exact.specs.Total.{total}
use Rattle.algebra.proofs.Whole.{le_antisym, le_of_eq, not_le_of_lt, le_or_lt, one_*ℤ}
use Rattle.algebra.proofs.Ring.{ring, quotes, le_given, eq_given, le_goal, eq_goal}
use Rattle.exact.proofs.Fractions.{AtScale, ≼-scale, ≃-scale, ⊕-scale, ⊖-scale, ⊛-scale, whole_scale, square_scale, total_scale, total_above, whole_above, ⊕-above, ⊖-above, square_above}
use Rattle.ground.specs.declared.Label.{Label}
use Rattle.ground.specs.declared.GapNumber.{GapNumber}
use Rattle.least_move.specs.Sheet.{Sheet, Gap, Kind, at_least, exactly, ignored, Proper, label, gap_number}
use Rattle.least_move.specs.Placement.{Placement, Asks, reach, Holds, Tight, Feasible, move, cost}
use Rattle.least_move.specs.Multipliers.{Multipliers, Lawful, counted, as_right, as_left, Conditions}
use Rattle.least_move.specs.States.{flow, cost_z}
use Rattle.least_move.proofs.Scaled.{slack, Meets-at, Lawful-at, ScaledConditions}
use Rattle.least_move.proofs.Slack.{holds_asked, holds_asked_back, tight_asked, tight_asked_back}

-- ---- a sheet as plain functions of numbers

abbrev pub lefts : Sheet → ℕ → ℕ
lefts s e = (s.gap (gap_number e)).left.0

abbrev pub rights : Sheet → ℕ → ℕ
rights s e = (s.gap (gap_number e)).right.0

abbrev pub weights : Sheet → ℕ → ℤ
weights s i = s.weight (label i)

abbrev pub kinds : Sheet → ℕ → Kind
kinds s e = (s.gap (gap_number e)).kind

abbrev pub distances : ℤ → Sheet → ℕ → ℤ
distances N s e = N *ℤ (s.gap (gap_number e)).distance

abbrev pub wants : ℤ → Sheet → ℕ → ℤ
wants N s i = N *ℤ s.wanted (label i)

-- the scaled conditions of a sheet, with wants of their own
abbrev pub Conditions-at : Sheet → ℤ → (ℕ → ℤ) → (ℕ → ℤ) → (ℕ → ℤ) → Type 0
Conditions-at s N D X Λ = ScaledConditions s.labels s.gaps (lefts s) (rights s) (weights s) (distances N s) (kinds s) D X Λ

-- every gap is met
abbrev pub Meets-all : Sheet → ℤ → (ℕ → ℤ) → Type 0
Meets-all s N X = (e : ℕ) → e < s.gaps → Meets-at (kinds s e) (slack (lefts s) (rights s) (distances N s) X e)

-- a placement's and the multipliers' numbers at the scale
abbrev pub Places-at : Sheet → ℤ → (ℕ → ℤ) → Placement → Type 0
Places-at s N X p = (i : ℕ) → i < s.labels → AtScale N (X i) (p (label i))

abbrev pub Multipliers-at : Sheet → ℤ → (ℕ → ℤ) → Multipliers → Type 0
Multipliers-at s N Λ m = (e : ℕ) → e < s.gaps → AtScale N (Λ e) (m (gap_number e))

-- ---- cost

-- the cost at the square of the scale
pub cost_scale : (s : Sheet) (p : Placement) {N : ℤ} {X : ℕ → ℤ} → Places-at s N X p → AtScale (N *ℤ N) (cost_z s.labels (weights s) (wants N s) X) (cost s p)
unfolding cost
cost_scale s p {N} {X} placed =
    total_scale s.labels (λ k. s.weight (label k) ⊛ square (move s p (label k))) (λ i. weights s i *ℤ ((X i -ℤ wants N s i) *ℤ (X i -ℤ wants N s i)))
    (λ i h. ⊛-scale (s.weight (label i)) (square_scale (⊖-scale (placed i h) (whole_scale N (s.wanted (label i))))))

pub cost_fraction : (s : Sheet) (p : Placement) → ((i : Label) → i.0 < s.labels → IsFraction (p i)) → IsFraction (cost s p)
unfolding cost
cost_fraction s p fractions =
    total_above s.labels (λ k. s.weight (label k) ⊛ square (move s p (label k)))
    (λ i h. square_above (move s p (label i)) (⊖-above (p (label i)) (whole (s.wanted (label i))) (fractions (label i) h) (whole_above (s.wanted (label i)))))

-- ---- slack

le_slack : (x g y : ℤ) → (x +ℤ g) ≤ℤ y → pos 0 ≤ℤ (y -ℤ x -ℤ g)
le_slack x g y h =
    let ρ : List ℤ = x ∷ g ∷ y ∷ [] in
    le_goal ρ (search quotes depth 12) (search quotes depth 12) (omega (arith, le_given ρ (search quotes depth 12) (search quotes depth 12) h))

slack_le : (x g y : ℤ) → pos 0 ≤ℤ (y -ℤ x -ℤ g) → (x +ℤ g) ≤ℤ y
slack_le x g y h =
    let ρ : List ℤ = x ∷ g ∷ y ∷ [] in
    le_goal ρ (search quotes depth 12) (search quotes depth 12) (omega (arith, le_given ρ (search quotes depth 12) (search quotes depth 12) h))

eq_slack : (x g y : ℤ) → x +ℤ g ≡ y → y -ℤ x -ℤ g ≡ pos 0
eq_slack x g y h =
    let ρ : List ℤ = x ∷ g ∷ y ∷ [] in
    eq_goal ρ (search quotes depth 12) (search quotes depth 12) (omega (arith, eq_given ρ (search quotes depth 12) (search quotes depth 12) h))

slack_eq : (x g y : ℤ) → y -ℤ x -ℤ g ≡ pos 0 → x +ℤ g ≡ y
slack_eq x g y h =
    let ρ : List ℤ = x ∷ g ∷ y ∷ [] in
    eq_goal ρ (search quotes depth 12) (search quotes depth 12) (omega (arith, eq_given ρ (search quotes depth 12) (search quotes depth 12) h))

-- ---- places

module _ (s : Sheet) (proper : Proper s) {N : ℤ} (h_n : pos 0 <ℤ N) (p : Placement) (fractions : (i : Label) → i.0 < s.labels → IsFraction (p i)) {X : ℕ → ℤ} (placed : Places-at s N X p) where
  module _ (e : ℕ) (h : e < s.gaps) where
    left_above : IsFraction (p (s.gap (gap_number e)).left)
    left_above = fractions (s.gap (gap_number e)).left (proper.left_in (gap_number e) h)

    reach_above : IsFraction (reach p (s.gap (gap_number e)))
    reach_above =
        let c : Gap = s.gap (gap_number e) in
        ⊕-above (p c.left) (whole c.distance) left_above (whole_above c.distance)

    reach_scale : AtScale N (X (lefts s e) +ℤ distances N s e) (reach p (s.gap (gap_number e)))
    reach_scale = ⊕-scale (placed (lefts s e) (proper.left_in (gap_number e) h)) (whole_scale N (s.gap (gap_number e)).distance)

    right_above : IsFraction (p (s.gap (gap_number e)).right)
    right_above = fractions (s.gap (gap_number e)).right (proper.right_in (gap_number e) h)

    right_scale : AtScale N (X (rights s e)) (p (s.gap (gap_number e)).right)
    right_scale = placed (rights s e) (proper.right_in (gap_number e) h)

    -- a gap that is reached has slack, and one that is tight has none
    reached : reach p (s.gap (gap_number e)) ≼ p (s.gap (gap_number e)).right → pos 0 ≤ℤ slack (lefts s) (rights s) (distances N s) X e
    reached k = le_slack (X (lefts s e)) (distances N s e) (X (rights s e)) ((≼-scale h_n reach_above right_above reach_scale right_scale).0 k)

    reached_back : pos 0 ≤ℤ slack (lefts s) (rights s) (distances N s) X e → reach p (s.gap (gap_number e)) ≼ p (s.gap (gap_number e)).right
    reached_back k = (≼-scale h_n reach_above right_above reach_scale right_scale).1 (slack_le (X (lefts s e)) (distances N s e) (X (rights s e)) k)

    equal : reach p (s.gap (gap_number e)) ≃ p (s.gap (gap_number e)).right → slack (lefts s) (rights s) (distances N s) X e ≡ pos 0
    equal k = eq_slack (X (lefts s e)) (distances N s e) (X (rights s e)) ((≃-scale h_n reach_above right_above reach_scale right_scale).0 k)

    equal_back : slack (lefts s) (rights s) (distances N s) X e ≡ pos 0 → reach p (s.gap (gap_number e)) ≃ p (s.gap (gap_number e)).right
    equal_back k = (≃-scale h_n reach_above right_above reach_scale right_scale).1 (slack_eq (X (lefts s e)) (distances N s e) (X (rights s e)) k)

    pub tight : Tight p (s.gap (gap_number e)) → slack (lefts s) (rights s) (distances N s) X e ≡ pos 0
    tight k = equal (tight_asked p (s.gap (gap_number e)) left_above right_above k)

    pub tight_back : slack (lefts s) (rights s) (distances N s) X e ≡ pos 0 → Tight p (s.gap (gap_number e))
    tight_back k = tight_asked_back p (s.gap (gap_number e)) left_above right_above (equal_back k)

    pub meets_at : Holds p (s.gap (gap_number e)) → Meets-at (kinds s e) (slack (lefts s) (rights s) (distances N s) X e)
    meets_at k = go (kinds s e) (holds_asked p (s.gap (gap_number e)) left_above right_above k)
      where
        go : (k : Kind) → Asks k (reach p (s.gap (gap_number e))) (p (s.gap (gap_number e)).right) → Meets-at k (slack (lefts s) (rights s) (distances N s) X e)
        go at_least a = reached a
        go exactly a = equal a
        go ignored a = tt

    pub meets_back : Meets-at (kinds s e) (slack (lefts s) (rights s) (distances N s) X e) → Holds p (s.gap (gap_number e))
    meets_back k = holds_asked_back p (s.gap (gap_number e)) left_above right_above (go (kinds s e) k)
      where
        go : (k : Kind) → Meets-at k (slack (lefts s) (rights s) (distances N s) X e) → Asks k (reach p (s.gap (gap_number e))) (p (s.gap (gap_number e)).right)
        go at_least a = reached_back a
        go exactly a = equal_back a
        go ignored a = tt

-- a feasible placement meets every gap at the scale
pub feasible_at : (s : Sheet) → Proper s → {N : ℤ} → pos 0 <ℤ N → (p : Placement) → Feasible s p → {X : ℕ → ℤ} → Places-at s N X p → Meets-all s N X
feasible_at s proper h_n p f placed e h = meets_at s proper h_n p f.fractions placed e h (f.meets (gap_number e) h)

-- ---- multipliers

counted_above : (b : Bool) (q : Fraction) → IsFraction q → IsFraction (cond b q (whole (pos 0)))
counted_above true q h = h
counted_above false q h = whole_above (pos 0)

counted_scale : {N l : ℤ} (b : Bool) (q : Fraction) → AtScale N l q → AtScale N (ind b *ℤ l) (cond b q (whole (pos 0)))
counted_scale {l} true q a = rw (one_*ℤ l) a
counted_scale {N} {l} false q a = record { cross = ring (N ∷ l ∷ []) (search quotes depth 12) (search quotes depth 12) refl }

module _ (s : Sheet) {N : ℤ} (h_n : pos 0 <ℤ N) (p : Placement) (m : Multipliers) (pf : (i : Label) → i.0 < s.labels → IsFraction (p i)) (mf : (e : GapNumber) → e.0 < s.gaps → IsFraction (m e)) {X Λ : ℕ → ℤ} (placed : Places-at s N X p) (carried : Multipliers-at s N Λ m) where
  -- one end's sum of multipliers
  module _ (end : ℕ → Label) (i : Label) where
    end_scale : AtScale N (sum s.gaps (λ e. ind (eqb (end e).0 i.0) *ℤ Λ e)) (total s.gaps (λ k. counted i (end k) (m (gap_number k))))
    end_scale =
        total_scale s.gaps (λ k. counted i (end k) (m (gap_number k))) (λ e. ind (eqb (end e).0 i.0) *ℤ Λ e)
        (λ e h. counted_scale (eqb (end e).0 i.0) (m (gap_number e)) (carried e h))

    end_above : IsFraction (total s.gaps (λ k. counted i (end k) (m (gap_number k))))
    end_above =
        total_above s.gaps (λ k. counted i (end k) (m (gap_number k)))
        (λ e h. counted_above (eqb (end e).0 i.0) (m (gap_number e)) (mf (gap_number e) h))

  -- a label's balance is that of its numbers
  pub balance_scale : (i : ℕ) → i < s.labels → (pos 2 ⊛ (s.weight (label i) ⊛ move s p (label i)) ≃ (as_right s m (label i) ⊖ as_left s m (label i))) ↔ (pos 2 *ℤ (weights s i *ℤ (X i -ℤ wants N s i)) ≡ flow s.gaps (lefts s) (rights s) Λ i)
  balance_scale i h =
      ≃-scale h_n (⊖-above (p (label i)) (whole (s.wanted (label i))) (pf (label i) h) (whole_above (s.wanted (label i))))
      (⊖-above (as_right s m (label i)) (as_left s m (label i)) (end_above right_end (label i)) (end_above left_end (label i)))
      (⊛-scale (pos 2) (⊛-scale (s.weight (label i)) (⊖-scale (placed i h) (whole_scale N (s.wanted (label i))))))
      (⊖-scale (end_scale right_end (label i)) (end_scale left_end (label i)))
    where
      right_end : ℕ → Label
      right_end k = (s.gap (gap_number k)).right

      left_end : ℕ → Label
      left_end k = (s.gap (gap_number k)).left

  zero_scale : AtScale N (pos 0) (whole (pos 0))
  zero_scale = record { cross = ring (N ∷ []) (search quotes depth 12) (search quotes depth 12) refl }

  -- and so are a multiplier of zero, and one not below it
  pub none_scale : (e : ℕ) → e < s.gaps → (m (gap_number e) ≃ whole (pos 0)) ↔ (Λ e ≡ pos 0)
  none_scale e h = ≃-scale h_n (mf (gap_number e) h) (whole_above (pos 0)) (carried e h) zero_scale

  pub some_scale : (e : ℕ) → e < s.gaps → (whole (pos 0) ≼ m (gap_number e)) ↔ (pos 0 ≤ℤ Λ e)
  some_scale e h = ≼-scale h_n (whole_above (pos 0)) (mf (gap_number e) h) zero_scale (carried e h)

module _ (s : Sheet) (proper : Proper s) {N : ℤ} (h_n : pos 0 <ℤ N) (p : Placement) (m : Multipliers) (c : Conditions s p m) {X Λ : ℕ → ℤ} (placed : Places-at s N X p) (carried : Multipliers-at s N Λ m) where
  balance_at : (i : ℕ) → i < s.labels → pos 2 *ℤ (weights s i *ℤ (X i -ℤ wants N s i)) ≡ flow s.gaps (lefts s) (rights s) Λ i
  balance_at i h = (balance_scale s h_n p m c.feasible.fractions c.fractions placed carried i h).0 (c.balance (label i) h)

  module _ (e : ℕ) (h : e < s.gaps) where
    none : m (gap_number e) ≃ whole (pos 0) → Λ e ≡ pos 0
    none = (none_scale s h_n p m c.feasible.fractions c.fractions placed carried e h).0

    some : whole (pos 0) ≼ m (gap_number e) → pos 0 ≤ℤ Λ e
    some = (some_scale s h_n p m c.feasible.fractions c.fractions placed carried e h).0

    lawful_at : Lawful-at (kinds s e) (Λ e) (slack (lefts s) (rights s) (distances N s) X e)
    lawful_at =
        go (kinds s e) (c.lawful (gap_number e) h)
        (meets_at s proper h_n p c.feasible.fractions placed e h (c.feasible.meets (gap_number e) h))
      where
        room : ℤ
        room = slack (lefts s) (rights s) (distances N s) X e

        go : (k : Kind) → Lawful k (m (gap_number e)) → Meets-at k room → Lawful-at k (Λ e) room
        go at_least l meets =
            record {
              meets = meets;
              carries = some l;
              one = ⊎_elim (λ (k : room ≤ℤ pos 0). inr (le_antisym k meets))
                  (λ (k : pos 0 <ℤ room).
                  inl (none (c.loose (gap_number e) h (λ (t : Tight p (s.gap (gap_number e))). not_le_of_lt k (le_of_eq (tight s proper h_n p c.feasible.fractions placed e h t))))))
                  (le_or_lt room (pos 0));
            }
        go exactly l meets = meets
        go ignored l meets = none l

  -- the conditions at the scale
  pub conditions_at : Conditions-at s N (wants N s) X Λ
  conditions_at =
      record {
        heavy = λ i h. proper.heavy (label i) h;
        left_in = λ e h. proper.left_in (gap_number e) h;
        right_in = λ e h. proper.right_in (gap_number e) h;
        lawful = lawful_at;
        balance = balance_at;
      }
