-- The conditions speak of the places of the sheet's labels alone.
use mathlib.Core.Path.{◌≡◌, subst}
use Prim.Native.Nat.{◌<◌}
use lib.IntN.{pos}
use Rattle.exact.specs.declared.Fraction.{Fraction}
use Rattle.exact.specs.Fraction.{IsFraction, ◌≃◌, ◌⊖◌, ◌⊛◌, whole}
use Rattle.exact.specs.Slack.{slack_between}
use Rattle.ground.specs.declared.Label.{Label}
use Rattle.ground.specs.declared.GapNumber.{GapNumber}
use Rattle.least_move.specs.Sheet.{Sheet, Proper}
use Rattle.least_move.specs.Placement.{Placement, HoldsWith}
use Rattle.least_move.specs.Multipliers.{Multipliers, as_right, as_left, Conditions}

module _ {s : Sheet} (proper : Proper s) {p q : Placement} (same : (i : Label) → i.0 < s.labels → p i ≡ q i) where
  -- what holds of the places at a gap's two ends
  at_ends : (P : Fraction → Fraction → Type 0) (e : GapNumber) → e.0 < s.gaps → P (p (s.gap e).left) (p (s.gap e).right) → P (q (s.gap e).left) (q (s.gap e).right)
  at_ends P e h x =
      subst (λ (a : Fraction). P a (q (s.gap e).right)) (same (s.gap e).left (proper.left_in e h))
      (subst (λ (b : Fraction). P (p (s.gap e).left) b) (same (s.gap e).right (proper.right_in e h)) x)

  pub conditions_places : {m : Multipliers} → Conditions s p m → Conditions s q m
  conditions_places {m} c =
      record {
        feasible = record {
          fractions = λ i h. subst IsFraction (same i h) (c.feasible.fractions i h);
          meets = λ e h. at_ends (λ a b. HoldsWith (s.gap e).kind (slack_between a b (s.gap e).distance)) e h (c.feasible.meets e h);
        };
        fractions = c.fractions;
        lawful = c.lawful;
        loose = λ e h loose. c.loose e h (λ tight. loose (at_ends (λ a b. (slack_between a b (s.gap e).distance).num ≡ pos 0) e h tight));
        balance = λ i h. subst (λ (x : Fraction). pos 2 ⊛ (s.weight i ⊛ (x ⊖ whole (s.wanted i))) ≃ (as_right s m i ⊖ as_left s m i)) (same i h) (c.balance i h);
        self = c.self;
      }
