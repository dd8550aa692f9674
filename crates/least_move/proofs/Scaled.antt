-- The theory of the least move in whole numbers, at a scale:
-- places X, wants D, multipliers Λ and distances G are all multiplied by one number above zero.
-- Gap e goes from label u e to label v e. All rests on summation by parts (Flow) and on `pull`,
-- what one gap contributes.
use mathlib.Core.Path.{◌≡◌, refl, sym, ◌∙◌, ap, ap₂}
use mathlib.Core.Logic.{◌⊎◌, ⊎_elim}
use mathlib.Core.List.{List, [], ◌∷◌}
use Prim.Native.Nat.{ℕ, ◌<◌}
use native.Mathlib.Omega.{arith}
use lib.IntN.{ℤ, pos, ◌+ℤ◌, ◌-ℤ◌, ◌*ℤ◌}
use lib.Signed.{◌≤ℤ◌, ◌<ℤ◌}
use Rattle.algebra.specs.Sum.{sum}
use Rattle.algebra.proofs.Whole.{le_trans, le_antisym, le_of_eq, le_of_lt, not_le_of_lt, le_or_lt, *ℤ-nonneg, *ℤ-above, square_nonneg, sub_nonneg, sub_above}
use Rattle.algebra.proofs.Ring.{ring, quotes, le_given, eq_given, le_goal, eq_goal, le_by}
use Rattle.algebra.proofs.Sum.{sum_cong, sum-+, sum_nonneg, sum_nonneg_zero}
use Rattle.least_move.specs.Sheet.{Kind, at_least, exactly, ignored}
use Rattle.least_move.specs.States.{flow, cost_z}
use Rattle.least_move.proofs.Flow.{by_parts}

-- ---- the conditions at a scale

-- what a placement has to spare at a gap
abbrev pub slack : (u v : ℕ → ℕ) (G X : ℕ → ℤ) → ℕ → ℤ
slack u v G X e = X (v e) -ℤ X (u e) -ℤ G e

-- a gap's slack is as its kind asks
abbrev pub Meets-at : Kind → ℤ → Type 0
Meets-at at_least s = pos 0 ≤ℤ s
Meets-at exactly s = s ≡ pos 0
Meets-at ignored s = Unit {0}

-- an at-least gap: it is met, its multiplier is not below zero, and one of the two is zero
pub record Pressed (l s : ℤ) : Type 0 where
  pub meets : pos 0 ≤ℤ s
  pub carries : pos 0 ≤ℤ l
  pub one : (l ≡ pos 0) ⊎ (s ≡ pos 0)

-- a gap's multiplier and slack are as its kind asks
abbrev pub Lawful-at : Kind → ℤ → ℤ → Type 0
Lawful-at at_least l s = Pressed l s
Lawful-at exactly l s = s ≡ pos 0
Lawful-at ignored l s = l ≡ pos 0

-- the conditions of specs/Multipliers, of n labels and m gaps
pub record ScaledConditions (n m : ℕ) (u v : ℕ → ℕ) (w G : ℕ → ℤ) (kind : ℕ → Kind) (D X Λ : ℕ → ℤ) : Type 0 where
  pub heavy : (i : ℕ) → i < n → pos 0 <ℤ w i
  pub left_in : (e : ℕ) → e < m → u e < n
  pub right_in : (e : ℕ) → e < m → v e < n
  pub lawful : (e : ℕ) → e < m → Lawful-at (kind e) (Λ e) (slack u v G X e)
  pub balance : (i : ℕ) → i < n → pos 2 *ℤ (w i *ℤ (X i -ℤ D i)) ≡ flow m u v Λ i

-- the weighted squares between two placements
abbrev pub apart : (n : ℕ) (w X Y : ℕ → ℤ) → ℤ
apart n w X Y = sum n (λ i. w i *ℤ ((Y i -ℤ X i) *ℤ (Y i -ℤ X i)))

-- what the gaps add to the cost between two placements
abbrev pub pulls : (m : ℕ) (u v : ℕ → ℕ) (Λ X Y : ℕ → ℤ) → ℤ
pulls m u v Λ X Y = sum m (λ e. Λ e *ℤ ((Y (v e) -ℤ X (v e)) -ℤ (Y (u e) -ℤ X (u e))))

-- ---- one gap

pub zero_times : {l : ℤ} (x : ℤ) → l ≡ pos 0 → pos 0 ≤ℤ (l *ℤ x)
zero_times {l} x e = le_of_eq (sym (ap (λ t. t *ℤ x) e ∙ ring (x ∷ []) (search quotes depth 12) (search quotes depth 12) refl))

-- slack that meets, against slack that is none
met_above : (s t c d : ℤ) → s ≡ pos 0 → pos 0 ≤ℤ t → t -ℤ s ≡ c -ℤ d → d ≤ℤ c
met_above s t c d z h e =
    let ρ : List ℤ = s ∷ t ∷ c ∷ d ∷ [] in
    le_goal ρ (search quotes depth 12) (search quotes depth 12)
    (omega
    (arith, eq_given ρ (search quotes depth 12) (search quotes depth 12) z, le_given ρ (search quotes depth 12) (search quotes depth 12) h, eq_given ρ (search quotes depth 12) (search quotes depth 12) e))

-- no slack in both
both_none : (s t c d : ℤ) → s ≡ pos 0 → t ≡ pos 0 → t -ℤ s ≡ c -ℤ d → c ≡ d
both_none s t c d z y e =
    let ρ : List ℤ = s ∷ t ∷ c ∷ d ∷ [] in
    eq_goal ρ (search quotes depth 12) (search quotes depth 12)
    (omega
    (arith, eq_given ρ (search quotes depth 12) (search quotes depth 12) z, eq_given ρ (search quotes depth 12) (search quotes depth 12) y, eq_given ρ (search quotes depth 12) (search quotes depth 12) e))

times_same : (l a b : ℤ) → a ≡ b → pos 0 ≤ℤ (l *ℤ (a -ℤ b))
times_same l a b e = le_of_eq (sym (ap (λ x. l *ℤ (x -ℤ b)) e ∙ ring (l ∷ b ∷ []) (search quotes depth 12) (search quotes depth 12) refl))

-- A gap with a multiplier l and slack s, against a placement that meets it with slack t:
-- the gap pulls the way that t is above s.
pub pull : (k : Kind) (l s t c d : ℤ) → Lawful-at k l s → Meets-at k t → t -ℤ s ≡ c -ℤ d → pos 0 ≤ℤ (l *ℤ (c -ℤ d))
pull at_least l s t c d h k e =
    ⊎_elim (zero_times (c -ℤ d)) (λ (z : s ≡ pos 0). *ℤ-nonneg h.carries (sub_nonneg (met_above s t c d z k e))) h.one
pull exactly l s t c d h k e = times_same l c d (both_none s t c d h k e)
pull ignored l s t c d h k e = zero_times (c -ℤ d) h

-- ---- numbers above zero

-- a number above zero is not zero
pub not_zero : {a : ℤ} → pos 0 <ℤ a → a ≡ pos 0 → ⊥
not_zero h e = not_le_of_lt h (le_of_eq e)

-- numbers whose weighted square difference is zero are the same
square_none : (a y x : ℤ) → pos 0 <ℤ a → a *ℤ ((y -ℤ x) *ℤ (y -ℤ x)) ≡ pos 0 → y ≡ x
square_none a y x h e =
    le_antisym
    (⊎_elim (λ (k : y ≤ℤ x). k) (λ (k : x <ℤ y). absurd (not_zero (*ℤ-above h (*ℤ-above (sub_above k) (sub_above k))) e)) (le_or_lt y x))
    (⊎_elim (λ (k : x ≤ℤ y). k) (λ (k : y <ℤ x). absurd (not_zero (*ℤ-above h (*ℤ-above (sub_above k) (sub_above k))) (turned ∙ e))) (le_or_lt x y))
  where
    turned : a *ℤ ((x -ℤ y) *ℤ (x -ℤ y)) ≡ a *ℤ ((y -ℤ x) *ℤ (y -ℤ x))
    turned = ring (a ∷ x ∷ y ∷ []) (search quotes depth 12) (search quotes depth 12) refl

-- ---- least and unique

module _ {n m : ℕ} {u v : ℕ → ℕ} {w G : ℕ → ℤ} {kind : ℕ → Kind} {D X Λ : ℕ → ℤ} (c : ScaledConditions n m u v w G kind D X Λ) (Y : ℕ → ℤ) where
  pub cost_change : cost_z n w D Y ≡ cost_z n w D X +ℤ apart n w X Y +ℤ pulls m u v Λ X Y
  cost_change =
      sum_cong n (λ i. w i *ℤ ((Y i -ℤ D i) *ℤ (Y i -ℤ D i))) (λ i. cost i +ℤ square i +ℤ (Y i -ℤ X i) *ℤ flow m u v Λ i)
      (λ i h. ring (Y i ∷ D i ∷ X i ∷ w i ∷ []) (search quotes depth 12) (search quotes depth 12) refl ∙ ap (λ x. cost i +ℤ square i +ℤ (Y i -ℤ X i) *ℤ x) (c.balance i h))
      ∙ sum-+ n (λ i. cost i +ℤ square i) (λ i. (Y i -ℤ X i) *ℤ flow m u v Λ i)
      ∙ ap₂ ◌+ℤ◌ (sum-+ n cost square) (by_parts n m u v Λ (λ i. Y i -ℤ X i) c.left_in c.right_in)
    where
      cost : ℕ → ℤ
      cost i = w i *ℤ ((X i -ℤ D i) *ℤ (X i -ℤ D i))

      square : ℕ → ℤ
      square i = w i *ℤ ((Y i -ℤ X i) *ℤ (Y i -ℤ X i))

  module _ (meets : (e : ℕ) → e < m → Meets-at (kind e) (slack u v G Y e)) where
    pulls_nonneg : pos 0 ≤ℤ pulls m u v Λ X Y
    pulls_nonneg =
        sum_nonneg m (λ e. Λ e *ℤ ((Y (v e) -ℤ X (v e)) -ℤ (Y (u e) -ℤ X (u e))))
        (λ e h. pull (kind e) (Λ e) (slack u v G X e) (slack u v G Y e) (Y (v e) -ℤ X (v e)) (Y (u e) -ℤ X (u e))
        (c.lawful e h) (meets e h)
        (ring (Y (v e) ∷ Y (u e) ∷ X (v e) ∷ X (u e) ∷ G e ∷ []) (search quotes depth 12) (search quotes depth 12) refl))

    apart_terms : (i : ℕ) → i < n → pos 0 ≤ℤ (w i *ℤ ((Y i -ℤ X i) *ℤ (Y i -ℤ X i)))
    apart_terms i h = *ℤ-nonneg (le_of_lt (c.heavy i h)) (square_nonneg (Y i -ℤ X i))

    -- a placement that meets every gap costs more by the weighted squares at least
    pub cost_above : (cost_z n w D X +ℤ apart n w X Y) ≤ℤ cost_z n w D Y
    cost_above = le_by pulls_nonneg cost_change

    pub cost_least : cost_z n w D X ≤ℤ cost_z n w D Y
    cost_least = le_trans (le_by (sum_nonneg n (λ i. w i *ℤ ((Y i -ℤ X i) *ℤ (Y i -ℤ X i))) apart_terms) refl) cost_above

    -- and one that costs no more is the same
    pub cost_unique : cost_z n w D Y ≤ℤ cost_z n w D X → (i : ℕ) → i < n → Y i ≡ X i
    cost_unique le i h =
        square_none (w i) (Y i) (X i) (c.heavy i h)
        (sum_nonneg_zero n (λ i. w i *ℤ ((Y i -ℤ X i) *ℤ (Y i -ℤ X i))) apart_terms (no_room (cost_z n w D X) (apart n w X Y) (le_trans cost_above le)) i h)
      where
        no_room : (a b : ℤ) → (a +ℤ b) ≤ℤ a → b ≤ℤ pos 0
        no_room a b k =
            let ρ : List ℤ = a ∷ b ∷ [] in
            le_goal ρ (search quotes depth 12) (search quotes depth 12) (omega (arith, le_given ρ (search quotes depth 12) (search quotes depth 12) k))
