-- The slack of a gap of a placement: that it holds or is tight is what document 01 asks, and where the slack is 0/1.
use mathlib.Core.Path.{◌≡◌, refl, sym, subst}
use mathlib.Core.Logic.{◌≢◌, ⊎_elim}
use mathlib.Core.Bool.{Bool, true}
use Prim.Native.Nat.{◌<◌}
use lib.IntN.{ℤ, pos}
use lib.Signed.{◌≤ℤ◌}
use Rattle.algebra.proofs.Whole.{le_antisym, le_of_eq, not_le_of_lt, le_or_lt}
use Rattle.exact.specs.declared.Fraction.{Fraction}
use Rattle.exact.specs.Fraction.{IsFraction, ◌≃◌, whole}
use Rattle.exact.specs.Slack.{difference}
use Rattle.exact.proofs.Slacks.{slack_asked, slack_asked_back, slack_tight, slack_tight_back, sign_none_back, zero_lowest, difference_above}
use Rattle.ground.specs.declared.GapNumber.{GapNumber}
use Rattle.least_move.specs.Sheet.{Sheet, Gap, Kind, at_least, exactly, ignored, Proper}
use Rattle.least_move.specs.Placement.{Placement, slack_of, HoldsWith, Holds, Tight, Asks, reach, AsAsked, Feasible}
use Rattle.least_move.specs.Multipliers.{Multipliers, Conditions}
use Rattle.least_move.specs.Marks.{Marks}

-- ---- document 01's form

module _ (p : Placement) (c : Gap) (left_above : IsFraction (p c.left)) (right_above : IsFraction (p c.right)) where
  pub holds_asked : Holds p c → Asks c.kind (reach p c) (p c.right)
  holds_asked = go c.kind
    where
      go : (k : Kind) → HoldsWith k (slack_of p c) → Asks k (reach p c) (p c.right)
      go at_least h = slack_asked (p c.left) (p c.right) c.distance left_above right_above h
      go exactly h = slack_tight (p c.left) (p c.right) c.distance left_above right_above h
      go ignored h = tt

  pub holds_asked_back : Asks c.kind (reach p c) (p c.right) → Holds p c
  holds_asked_back = go c.kind
    where
      go : (k : Kind) → Asks k (reach p c) (p c.right) → HoldsWith k (slack_of p c)
      go at_least h = slack_asked_back (p c.left) (p c.right) c.distance left_above right_above h
      go exactly h = slack_tight_back (p c.left) (p c.right) c.distance left_above right_above h
      go ignored h = tt

  pub tight_asked : Tight p c → reach p c ≃ p c.right
  tight_asked = slack_tight (p c.left) (p c.right) c.distance left_above right_above

  pub tight_asked_back : reach p c ≃ p c.right → Tight p c
  tight_asked_back = slack_tight_back (p c.left) (p c.right) c.distance left_above right_above

  pub as_asked : AsAsked p c
  as_asked = record { holds = (holds_asked, holds_asked_back); tight = (tight_asked, tight_asked_back) }

  -- the slack of a tight gap is 0/1
  pub tight_slack : Tight p c → slack_of p c ≡ whole (pos 0)
  tight_slack h =
      let apart : Fraction = difference (p c.left) (p c.right) c.distance in
      let above : IsFraction apart = difference_above (p c.left) (p c.right) c.distance left_above right_above in
      zero_lowest apart above (sign_none_back apart above h)

-- ---- the gaps of a sheet

-- a whole number that is not other than zero is zero
not_other : (z : ℤ) → ¬ (¬ (z ≡ pos 0)) → z ≡ pos 0
not_other z n =
    ⊎_elim
    (λ low. ⊎_elim (λ high. le_antisym low high) (λ below. absurd (n (λ e. not_le_of_lt below (le_of_eq (sym e))))) (le_or_lt (pos 0) z))
    (λ above. absurd (n (λ e. not_le_of_lt above (le_of_eq e))))
    (le_or_lt z (pos 0))

-- an exact gap "is always tight" (document 02, Item 6)
pub exact_tight : {s : Sheet} {p : Placement} → Feasible s p → (e : GapNumber) → e.0 < s.gaps → (s.gap e).kind ≡ exactly → Tight p (s.gap e)
exact_tight {s} {p} f e h is = subst (λ (k : Kind). HoldsWith k (slack_of p (s.gap e))) is (f.meets e h)

module _ {s : Sheet} (proper : Proper s) {p : Placement} (feasible : Feasible s p) where
  -- a tight gap of the sheet
  tight_in : (e : GapNumber) → e.0 < s.gaps → Tight p (s.gap e) → slack_of p (s.gap e) ≡ whole (pos 0)
  tight_in e h =
      tight_slack p (s.gap e)
      (feasible.fractions (s.gap e).left (proper.left_in e h))
      (feasible.fractions (s.gap e).right (proper.right_in e h))

  -- an exact one
  pub exact_slack : (e : GapNumber) → e.0 < s.gaps → (s.gap e).kind ≡ exactly → slack_of p (s.gap e) ≡ whole (pos 0)
  exact_slack e h is = tight_in e h (exact_tight feasible e h is)

  -- a marked one
  pub marked_slack : {m : Multipliers} {marked : GapNumber → Bool} → Marks s p m marked → (e : GapNumber) → e.0 < s.gaps → marked e ≡ true → slack_of p (s.gap e) ≡ whole (pos 0)
  marked_slack marks e h is = tight_in e h (marks.tight e h is)

-- and so is that of a gap with a multiplier other than zero
pub loaded_slack : {s : Sheet} → Proper s → {p : Placement} {m : Multipliers} → Conditions s p m → (e : GapNumber) → e.0 < s.gaps → ¬ (m e ≃ whole (pos 0)) → slack_of p (s.gap e) ≡ whole (pos 0)
loaded_slack {s} proper {p} c e h loaded =
    tight_in proper c.feasible e h (not_other (slack_of p (s.gap e)).num (λ loose. loaded (c.loose e h loose)))

-- the slack of a gap of either kind is not below zero where the gap holds
held_above : (k : Kind) (q : Fraction) → k ≢ ignored → HoldsWith k q → pos 0 ≤ℤ q.num
held_above at_least q asks holds = holds
held_above exactly q asks holds = subst (λ (z : ℤ). pos 0 ≤ℤ z) (sym holds) (le_of_eq refl)
held_above ignored q asks holds = absurd (asks refl)

pub held_slack : {s : Sheet} {p : Placement} → Feasible s p → (e : GapNumber) → e.0 < s.gaps → (s.gap e).kind ≢ ignored → pos 0 ≤ℤ (slack_of p (s.gap e)).num
held_slack {s} {p} f e h asks = held_above (s.gap e).kind (slack_of p (s.gap e)) asks (f.meets e h)
