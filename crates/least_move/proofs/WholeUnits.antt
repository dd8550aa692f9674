-- The whole units of a feasible placement, halves to the larger number, meet every gap.
use Prim.Native.Nat.{◌<◌}
use mathlib.Core.List.{List, [], ◌∷◌}
use native.Mathlib.Omega.{arith}
use lib.IntN.{ℤ, ◌+ℤ◌}
use Rattle.algebra.proofs.Ring.{quotes, le_given, le_goal, eq_given, eq_goal}
use Rattle.exact.specs.declared.Fraction.{Fraction}
use Rattle.exact.specs.Fraction.{IsFraction, ◌⊕◌, whole}
use Rattle.exact.specs.Nearest.{HalfUp}
use Rattle.exact.proofs.Fractions.{whole_above}
use Rattle.exact.proofs.Nearest.{round_half_up_lem, units_apart, units_same}
use Rattle.ground.specs.declared.Label.{Label}
use Rattle.least_move.specs.Sheet.{Sheet, Kind, at_least, exactly, ignored, Proper}
use Rattle.least_move.specs.Placement.{Placement, Asks, Feasible}
use Rattle.least_move.specs.WholeUnits.{Units, whole_units, AsksWhole, MeetsWhole, UnitsMeet, RoundedMeet}
use Rattle.least_move.proofs.Slack.{holds_asked, holds_asked_back}

-- ---- what a gap asks

-- what it asks of whole numbers it asks of them as fractions
asks_fractions : (k : Kind) (a b g : ℤ) → AsksWhole k (a +ℤ g) b → Asks k (whole a ⊕ whole g) (whole b)
asks_fractions at_least a b g h =
    let ρ : List ℤ = a ∷ b ∷ g ∷ [] in
    le_goal ρ (search quotes depth 12) (search quotes depth 12)
    (omega (arith, le_given ρ (search quotes depth 12) (search quotes depth 12) h))
asks_fractions exactly a b g h =
    let ρ : List ℤ = a ∷ b ∷ g ∷ [] in
    eq_goal ρ (search quotes depth 12) (search quotes depth 12)
    (omega (arith, eq_given ρ (search quotes depth 12) (search quotes depth 12) h))
asks_fractions ignored a b g h = tt

-- where two fractions have it so do their whole units, halves to the larger number
asks_units : (k : Kind) (p q : Fraction) (g z y : ℤ) → IsFraction p → IsFraction q → HalfUp p.num p.den z → HalfUp q.num q.den y → Asks k (p ⊕ whole g) q → AsksWhole k (z +ℤ g) y
asks_units at_least p q g z y hp hq of_p of_q h = units_apart p q g z y hp hq of_p of_q h
asks_units exactly p q g z y hp hq of_p of_q h = units_same p q g z y hp hq of_p of_q h
asks_units ignored p q g z y hp hq of_p of_q h = tt

-- ---- the gaps of a sheet

module _ (s : Sheet) (unit : Units) where
  -- whole units that meet every gap in whole numbers are a feasible placement
  pub whole_feasible : MeetsWhole s unit → Feasible s (λ i. whole (unit i))
  whole_feasible meets =
      record {
        fractions = λ i h. whole_above (unit i);
        meets = λ e h.
            holds_asked_back (λ i. whole (unit i)) (s.gap e) (whole_above (unit (s.gap e).left)) (whole_above (unit (s.gap e).right))
            (asks_fractions (s.gap e).kind (unit (s.gap e).left) (unit (s.gap e).right) (s.gap e).distance (meets e h));
      }

  pub whole_meet : MeetsWhole s unit → UnitsMeet s unit
  whole_meet meets = record { meets = meets; feasible = whole_feasible meets }

-- whole units of a feasible placement, halves to the larger number, meet every gap
pub half_up_meet : (s : Sheet) (p : Placement) (unit : Units) → Proper s → Feasible s p → ((i : Label) → i.0 < s.labels → HalfUp (p i).num (p i).den (unit i)) → UnitsMeet s unit
half_up_meet s p unit proper feasible rounded = whole_meet s unit meets
  where
    meets : MeetsWhole s unit
    meets e h =
        let left_above : IsFraction (p (s.gap e).left) = feasible.fractions (s.gap e).left (proper.left_in e h) in
        let right_above : IsFraction (p (s.gap e).right) = feasible.fractions (s.gap e).right (proper.right_in e h) in
        asks_units (s.gap e).kind (p (s.gap e).left) (p (s.gap e).right) (s.gap e).distance (unit (s.gap e).left) (unit (s.gap e).right)
        left_above right_above (rounded (s.gap e).left (proper.left_in e h)) (rounded (s.gap e).right (proper.right_in e h))
        (holds_asked p (s.gap e) left_above right_above (feasible.meets e h))

-- so those of a feasible placement by `round_half_up`
pub units_meet : RoundedMeet
units_meet s p proper feasible =
    half_up_meet s p (whole_units p) proper feasible (λ i h. round_half_up_lem (p i).num (p i).den (feasible.fractions i h))
