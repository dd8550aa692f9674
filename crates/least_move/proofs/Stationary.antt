-- What moved wants do to least places, in whole numbers at a scale, as in Scaled.
-- All laws are instances of one, `moved_law`, which needs no multipliers: only that no way to other places that meet the
-- gaps begins downhill.
use mathlib.Core.Path.{◌≡◌, refl, sym, ◌∙◌, ap, ap₂, subst}
use mathlib.Core.Logic.{◌⊎◌, inl, inr, ⊎_elim}
use mathlib.Core.List.{List, [], ◌∷◌}
use Prim.Native.Nat.{ℕ, ◌<◌}
use native.Mathlib.Omega.{arith}
use lib.IntN.{ℤ, pos, ◌+ℤ◌, ◌-ℤ◌, ◌*ℤ◌}
use lib.Signed.{◌≤ℤ◌, ◌<ℤ◌}
use Rattle.algebra.specs.Sum.{sum}
use Rattle.algebra.proofs.Whole.{le_trans, le_antisym, le_of_eq, le_of_lt, lt_of_le_of_lt, not_le_of_lt, le_or_lt, *ℤ-le, *ℤ-nonneg, *ℤ-above, sub_nonneg, sub_above}
use Rattle.algebra.proofs.Ring.{ring, quotes, le_given, lt_given, eq_given, le_goal}
use Rattle.algebra.proofs.Sum.{sum_cong, sum-+, sum--, sum_*, sum_zero, sum_nonneg_zero}
use Rattle.least_move.specs.Sheet.{Kind, at_least, exactly, ignored}
use Rattle.least_move.specs.States.{cost_z}
use Rattle.least_move.proofs.Scaled.{slack, Meets-at, apart, not_zero, zero_times}

-- ---- slopes

-- half the slope of the cost at X, towards Y
abbrev pub slope : (n : ℕ) (w D X Y : ℕ → ℤ) → ℤ
slope n w D X Y = sum n (λ i. w i *ℤ ((X i -ℤ D i) *ℤ (Y i -ℤ X i)))

-- places that meet the gaps, and from which no way to others that do begins downhill
pub record Stationary (n m : ℕ) (u v : ℕ → ℕ) (w G : ℕ → ℤ) (kind : ℕ → Kind) (D X : ℕ → ℤ) : Type 0 where
  pub heavy : (i : ℕ) → i < n → pos 0 <ℤ w i
  pub meets : (e : ℕ) → e < m → Meets-at (kind e) (slack u v G X e)
  pub uphill : (Y : ℕ → ℤ) → ((e : ℕ) → e < m → Meets-at (kind e) (slack u v G Y e)) → pos 0 ≤ℤ slope n w D X Y

-- ---- least places are stationary

-- one part in M of the way from x to y, at M times the scale
abbrev pub on_the_way : (M x y : ℤ) → ℤ
on_the_way M x y = M *ℤ x +ℤ (y -ℤ x)

-- a gap that is met at both ends of the way is met on it
pub meets_on_the_way : (k : Kind) (M s t : ℤ) → pos 0 <ℤ M → Meets-at k s → Meets-at k t → Meets-at k (on_the_way M s t)
meets_on_the_way at_least M s t above h k =
    let ρ : List ℤ = M ∷ s ∷ t ∷ [] in
    le_goal ρ (search quotes depth 12) (search quotes depth 12)
    (omega
    (arith, le_given ρ (search quotes depth 12) (search quotes depth 12) (*ℤ-nonneg (one_less above) h), le_given ρ (search quotes depth 12) (search quotes depth 12) k))
  where
    one_less : {a : ℤ} → pos 0 <ℤ a → pos 0 ≤ℤ (a -ℤ pos 1)
    one_less {a} h = let ρ : List ℤ = a ∷ [] in le_goal ρ (search quotes depth 12) (search quotes depth 12) (omega (arith, lt_given ρ (search quotes depth 12) (search quotes depth 12) h))
meets_on_the_way exactly M s t above h k =
    ap₂ (on_the_way M) h k ∙ ring (M ∷ []) (search quotes depth 12) (search quotes depth 12) refl
meets_on_the_way ignored M s t above h k = tt

-- the cost there
pub cost_on_the_way : (n : ℕ) (w D X Y : ℕ → ℤ) (M : ℤ)
    → cost_z n w (λ i. M *ℤ D i) (λ i. on_the_way M (X i) (Y i))
    ≡ cost_z n w (λ i. M *ℤ D i) (λ i. M *ℤ X i) +ℤ (pos 2 *ℤ M *ℤ slope n w D X Y +ℤ apart n w X Y)
cost_on_the_way n w D X Y M =
    sum_cong n (λ i. w i *ℤ ((on_the_way M (X i) (Y i) -ℤ M *ℤ D i) *ℤ (on_the_way M (X i) (Y i) -ℤ M *ℤ D i))) (λ i. cost i +ℤ (pos 2 *ℤ M *ℤ falls i +ℤ squares i))
    (λ i h. ring (M ∷ X i ∷ Y i ∷ D i ∷ w i ∷ []) (search quotes depth 12) (search quotes depth 12) refl)
    ∙ sum-+ n cost (λ i. pos 2 *ℤ M *ℤ falls i +ℤ squares i)
    ∙ ap (λ x. sum n cost +ℤ x) (sum-+ n (λ i. pos 2 *ℤ M *ℤ falls i) squares ∙ ap (λ x. x +ℤ sum n squares) (sum_* n (pos 2 *ℤ M) falls))
  where
    cost : ℕ → ℤ
    cost i = w i *ℤ ((M *ℤ X i -ℤ M *ℤ D i) *ℤ (M *ℤ X i -ℤ M *ℤ D i))

    falls : ℕ → ℤ
    falls i = w i *ℤ ((X i -ℤ D i) *ℤ (Y i -ℤ X i))

    squares : ℕ → ℤ
    squares i = w i *ℤ ((Y i -ℤ X i) *ℤ (Y i -ℤ X i))

-- a slope below zero would bring the cost down, near enough to X
pub no_descent : (a v c d : ℤ) → pos 0 ≤ℤ a → d ≡ c +ℤ (pos 2 *ℤ (a +ℤ pos 1) *ℤ v +ℤ a) → c ≤ℤ d → pos 0 ≤ℤ v
no_descent a v c d above e h = ⊎_elim (λ (k : pos 0 ≤ℤ v). k) down (le_or_lt (pos 0) v)
  where
    down : v <ℤ pos 0 → pos 0 ≤ℤ v
    down k =
        let ρ : List ℤ = a ∷ v ∷ c ∷ d ∷ [] in
        let below : (v +ℤ pos 1) ≤ℤ pos 0 = le_goal ρ (search quotes depth 12) (search quotes depth 12) (omega (arith, lt_given ρ (search quotes depth 12) (search quotes depth 12) k)) in
        le_goal ρ (search quotes depth 12) (search quotes depth 12)
        (omega (
          arith,
          eq_given ρ (search quotes depth 12) (search quotes depth 12) e,
          le_given ρ (search quotes depth 12) (search quotes depth 12) h,
          le_given ρ (search quotes depth 12) (search quotes depth 12) above,
          le_given ρ (search quotes depth 12) (search quotes depth 12) (*ℤ-le above below),
          le_given ρ (search quotes depth 12) (search quotes depth 12) below,
        ))

-- ---- functions that rise, and no faster than their argument

pub record Gentle (φ : ℤ → ℤ) : Type 0 where
  pub rises : (a b : ℤ) → a ≤ℤ b → φ a ≤ℤ φ b
  pub no_faster : (a b : ℤ) → a ≤ℤ b → (φ b -ℤ φ a) ≤ℤ (b -ℤ a)

same_gentle : Gentle (λ a. a)
same_gentle = record { rises = λ a b h. h; no_faster = λ a b h. le_of_eq refl }

-- how far above B, else zero
abbrev excess : {a B : ℤ} → (a ≤ℤ B) ⊎ (B <ℤ a) → ℤ
excess (inl h) = pos 0
excess {a} {B} (inr h) = a -ℤ B

abbrev over : ℤ → ℤ → ℤ
over B a = excess (le_or_lt a B)

excess_rises : {a b B : ℤ} → a ≤ℤ b → (s : (a ≤ℤ B) ⊎ (B <ℤ a)) (t : (b ≤ℤ B) ⊎ (B <ℤ b)) → excess s ≤ℤ excess t
excess_rises h (inl k) (inl l) = le_of_eq refl
excess_rises h (inl k) (inr l) = le_of_lt (sub_above l)
excess_rises h (inr k) (inl l) = absurd (not_le_of_lt k (le_trans h l))
excess_rises {a} {b} {B} h (inr k) (inr l) =
    let ρ : List ℤ = a ∷ b ∷ B ∷ [] in
    le_goal ρ (search quotes depth 12) (search quotes depth 12) (omega (arith, le_given ρ (search quotes depth 12) (search quotes depth 12) h))

excess_no_faster : {a b B : ℤ} → a ≤ℤ b → (s : (a ≤ℤ B) ⊎ (B <ℤ a)) (t : (b ≤ℤ B) ⊎ (B <ℤ b)) → (excess t -ℤ excess s) ≤ℤ (b -ℤ a)
excess_no_faster h (inl k) (inl l) = sub_nonneg h
excess_no_faster {a} {b} {B} h (inl k) (inr l) =
    let ρ : List ℤ = a ∷ b ∷ B ∷ [] in
    le_goal ρ (search quotes depth 12) (search quotes depth 12) (omega (arith, le_given ρ (search quotes depth 12) (search quotes depth 12) k))
excess_no_faster h (inr k) (inl l) = absurd (not_le_of_lt k (le_trans h l))
excess_no_faster {a} {b} {B} h (inr k) (inr l) = le_of_eq (ring (a ∷ b ∷ B ∷ []) (search quotes depth 12) (search quotes depth 12) refl)

over_gentle : (B : ℤ) → Gentle (over B)
over_gentle B = record {
  rises = λ a b h. excess_rises h (le_or_lt a B) (le_or_lt b B);
  no_faster = λ a b h. excess_no_faster h (le_or_lt a B) (le_or_lt b B);
}

-- ---- one gap

-- a number between two others, whichever of them is larger
abbrev Between : ℤ → ℤ → ℤ → Type 0
Between s t y = ((t ≤ℤ y) × (y ≤ℤ s)) ⊎ ((s ≤ℤ y) × (y ≤ℤ t))

-- a gap is met by each slack between two that meet it
between_meets : (k : Kind) (s t y : ℤ) → Between s t y → Meets-at k s → Meets-at k t → Meets-at k y
between_meets at_least s t y b h k = ⊎_elim (λ p. le_trans k p.0) (λ p. le_trans h p.0) b
between_meets exactly s t y b h k =
    ⊎_elim (λ p. le_antisym (le_trans p.1 (le_of_eq h)) (le_trans (le_of_eq (sym k)) p.0))
    (λ p. le_antisym (le_trans p.1 (le_of_eq k)) (le_trans (le_of_eq (sym h)) p.0)) b
between_meets ignored s t y b h k = tt

-- a slack s that gives way by f towards t, and t that gives way by f towards s, f being above zero or below
up_between : (s t f : ℤ) → pos 0 ≤ℤ f → f ≤ℤ (s -ℤ t) → Between s t (s -ℤ f) × Between s t (t +ℤ f)
up_between s t f h k = (inl (one, two), inl (three, four))
  where
    ρ : List ℤ
    ρ = s ∷ t ∷ f ∷ []

    one : t ≤ℤ (s -ℤ f)
    one = le_goal ρ (search quotes depth 12) (search quotes depth 12) (omega (arith, le_given ρ (search quotes depth 12) (search quotes depth 12) k))

    two : (s -ℤ f) ≤ℤ s
    two = le_goal ρ (search quotes depth 12) (search quotes depth 12) (omega (arith, le_given ρ (search quotes depth 12) (search quotes depth 12) h))

    three : t ≤ℤ (t +ℤ f)
    three = le_goal ρ (search quotes depth 12) (search quotes depth 12) (omega (arith, le_given ρ (search quotes depth 12) (search quotes depth 12) h))

    four : (t +ℤ f) ≤ℤ s
    four = le_goal ρ (search quotes depth 12) (search quotes depth 12) (omega (arith, le_given ρ (search quotes depth 12) (search quotes depth 12) k))

down_between : (s t f : ℤ) → f ≤ℤ pos 0 → (s -ℤ t) ≤ℤ f → Between s t (s -ℤ f) × Between s t (t +ℤ f)
down_between s t f h k = (inr (one, two), inr (three, four))
  where
    ρ : List ℤ
    ρ = s ∷ t ∷ f ∷ []

    one : s ≤ℤ (s -ℤ f)
    one = le_goal ρ (search quotes depth 12) (search quotes depth 12) (omega (arith, le_given ρ (search quotes depth 12) (search quotes depth 12) h))

    two : (s -ℤ f) ≤ℤ t
    two = le_goal ρ (search quotes depth 12) (search quotes depth 12) (omega (arith, le_given ρ (search quotes depth 12) (search quotes depth 12) k))

    three : s ≤ℤ (t +ℤ f)
    three = le_goal ρ (search quotes depth 12) (search quotes depth 12) (omega (arith, le_given ρ (search quotes depth 12) (search quotes depth 12) k))

    four : (t +ℤ f) ≤ℤ t
    four = le_goal ρ (search quotes depth 12) (search quotes depth 12) (omega (arith, le_given ρ (search quotes depth 12) (search quotes depth 12) h))

-- so where c and d differ as the slacks do
steps_between : (φ : ℤ → ℤ) → Gentle φ → (s t c d : ℤ) → s -ℤ t ≡ c -ℤ d → Between s t (s -ℤ (φ c -ℤ φ d)) × Between s t (t +ℤ (φ c -ℤ φ d))
steps_between φ gentle s t c d e = ⊎_elim one (λ h. other (le_of_lt h)) (le_or_lt d c)
  where
    ρ : List ℤ
    ρ = s ∷ t ∷ c ∷ d ∷ φ c ∷ φ d ∷ []

    one : d ≤ℤ c → Between s t (s -ℤ (φ c -ℤ φ d)) × Between s t (t +ℤ (φ c -ℤ φ d))
    one h = up_between s t (φ c -ℤ φ d) (sub_nonneg (gentle.rises d c h)) (le_trans (gentle.no_faster d c h) (le_of_eq (sym e)))

    other : c ≤ℤ d → Between s t (s -ℤ (φ c -ℤ φ d)) × Between s t (t +ℤ (φ c -ℤ φ d))
    other h =
        down_between s t (φ c -ℤ φ d)
        (le_goal ρ (search quotes depth 12) (search quotes depth 12) (omega (arith, le_given ρ (search quotes depth 12) (search quotes depth 12) (gentle.rises c d h))))
        (le_goal ρ (search quotes depth 12) (search quotes depth 12)
        (omega
        (arith, eq_given ρ (search quotes depth 12) (search quotes depth 12) e, le_given ρ (search quotes depth 12) (search quotes depth 12) (gentle.no_faster c d h))))

-- ---- moved wants

-- one label's term of the law below
abbrev pub moved : (φ : ℤ → ℤ) (w D D' X X' : ℕ → ℤ) → ℕ → ℤ
moved φ w D D' X X' i = φ (X i -ℤ X' i) *ℤ (w i *ℤ ((X i -ℤ X' i) -ℤ (D i -ℤ D' i)))

-- a label that falls by more than B where its want does not: its term of the law is above zero
term_above : {a d w B : ℤ} → B <ℤ a → pos 0 <ℤ w → d ≤ℤ B → pos 0 <ℤ ((a -ℤ B) *ℤ (w *ℤ (a -ℤ d)))
term_above h k l = *ℤ-above (sub_above h) (*ℤ-above k (sub_above (lt_of_le_of_lt l h)))

over_nonneg : {a d w B : ℤ} (s : (a ≤ℤ B) ⊎ (B <ℤ a)) → pos 0 <ℤ w → d ≤ℤ B → pos 0 ≤ℤ (excess s *ℤ (w *ℤ (a -ℤ d)))
over_nonneg {a} {d} {w} (inl h) k l = zero_times {l = pos 0} (w *ℤ (a -ℤ d)) refl
over_nonneg (inr h) k l = le_of_lt (term_above h k l)

not_above : {d w B : ℤ} (a : ℤ) (s : (a ≤ℤ B) ⊎ (B <ℤ a)) → pos 0 <ℤ w → d ≤ℤ B → excess s *ℤ (w *ℤ (a -ℤ d)) ≡ pos 0 → a ≤ℤ B
not_above a (inl h) k l e = h
not_above a (inr h) k l e = absurd (not_zero (term_above h k l) e)

from_bound : (a b : ℤ) → (a -ℤ b) ≤ℤ pos 0 → a ≤ℤ b
from_bound a b h = let ρ : List ℤ = a ∷ b ∷ [] in le_goal ρ (search quotes depth 12) (search quotes depth 12) (omega (arith, le_given ρ (search quotes depth 12) (search quotes depth 12) h))

-- two sheets that differ in their wants alone, with stationary places of each
module _ {n m : ℕ} {u v : ℕ → ℕ} {w G : ℕ → ℤ} {kind : ℕ → Kind} {D X D' X' : ℕ → ℤ} (c : Stationary n m u v w G kind D X) (c' : Stationary n m u v w G kind D' X') where
  -- The law that all laws of moved wants are instances of: let X give way to X' by φ of their difference, and X' to X.
  -- Neither begins downhill, and the two slopes come to this sum turned round.
  pub moved_law : (φ : ℤ → ℤ) → Gentle φ → sum n (moved φ w D D' X X') ≤ℤ pos 0
  moved_law φ gentle =
      below (sum n (moved φ w D D' X X')) (slope n w D X Y) (slope n w D' X' Y')
      (sym (sum-+ n first second)
      ∙ sum_cong n (λ i. first i +ℤ second i) (λ i. pos 0 -ℤ moved φ w D D' X X' i)
      (λ i h. ring (ψ i ∷ w i ∷ X i ∷ X' i ∷ D i ∷ D' i ∷ []) (search quotes depth 12) (search quotes depth 12) refl)
      ∙ sum-- n (λ _. pos 0) (moved φ w D D' X X') ∙ ap (λ x. x -ℤ sum n (moved φ w D D' X X')) (sum_zero n (λ _. pos 0) (λ _ _. refl)))
      (c.uphill Y (λ e h. subst (Meets-at (kind e)) (away e) (between_meets (kind e) (slack u v G X e) (slack u v G X' e) _ (both e).0 (c.meets e h) (c'.meets e h))))
      (c'.uphill Y' (λ e h. subst (Meets-at (kind e)) (back e) (between_meets (kind e) (slack u v G X e) (slack u v G X' e) _ (both e).1 (c.meets e h) (c'.meets e h))))
    where
      ψ : ℕ → ℤ
      ψ i = φ (X i -ℤ X' i)

      Y : ℕ → ℤ
      Y i = X i -ℤ ψ i

      Y' : ℕ → ℤ
      Y' i = X' i +ℤ ψ i

      first : ℕ → ℤ
      first i = w i *ℤ ((X i -ℤ D i) *ℤ (Y i -ℤ X i))

      second : ℕ → ℤ
      second i = w i *ℤ ((X' i -ℤ D' i) *ℤ (Y' i -ℤ X' i))

      both : (e : ℕ) → Between (slack u v G X e) (slack u v G X' e) (slack u v G X e -ℤ (ψ (v e) -ℤ ψ (u e))) × Between (slack u v G X e) (slack u v G X' e) (slack u v G X' e +ℤ (ψ (v e) -ℤ ψ (u e)))
      both e =
          steps_between φ gentle (slack u v G X e) (slack u v G X' e) (X (v e) -ℤ X' (v e)) (X (u e) -ℤ X' (u e))
          (ring (X (v e) ∷ X (u e) ∷ X' (v e) ∷ X' (u e) ∷ G e ∷ []) (search quotes depth 12) (search quotes depth 12) refl)

      away : (e : ℕ) → slack u v G X e -ℤ (ψ (v e) -ℤ ψ (u e)) ≡ slack u v G Y e
      away e = ring (X (v e) ∷ X (u e) ∷ ψ (v e) ∷ ψ (u e) ∷ G e ∷ []) (search quotes depth 12) (search quotes depth 12) refl

      back : (e : ℕ) → slack u v G X' e +ℤ (ψ (v e) -ℤ ψ (u e)) ≡ slack u v G Y' e
      back e = ring (X' (v e) ∷ X' (u e) ∷ ψ (v e) ∷ ψ (u e) ∷ G e ∷ []) (search quotes depth 12) (search quotes depth 12) refl

      below : (s a b : ℤ) → a +ℤ b ≡ pos 0 -ℤ s → pos 0 ≤ℤ a → pos 0 ≤ℤ b → s ≤ℤ pos 0
      below s a b e h k =
          let ρ : List ℤ = s ∷ a ∷ b ∷ [] in
          le_goal ρ (search quotes depth 12) (search quotes depth 12)
          (omega (
            arith,
            eq_given ρ (search quotes depth 12) (search quotes depth 12) e,
            le_given ρ (search quotes depth 12) (search quotes depth 12) h,
            le_given ρ (search quotes depth 12) (search quotes depth 12) k,
          ))

  -- no place falls by more than B if no want does
  pub moved_bound : (B : ℤ) → ((i : ℕ) → i < n → (D i -ℤ D' i) ≤ℤ B) → (i : ℕ) → i < n → (X i -ℤ X' i) ≤ℤ B
  moved_bound B wants i h =
      not_above (X i -ℤ X' i) (le_or_lt (X i -ℤ X' i) B) (c.heavy i h) (wants i h)
      (sum_nonneg_zero n (moved (over B) w D D' X X')
      (λ i h. over_nonneg (le_or_lt (X i -ℤ X' i) B) (c.heavy i h) (wants i h)) (moved_law (over B) (over_gentle B)) i h)

  -- the weighted squares of the moves are at most the products with the moves of the wants
  pub moved_squares : apart n w X' X ≤ℤ sum n (λ i. w i *ℤ ((X i -ℤ X' i) *ℤ (D i -ℤ D' i)))
  moved_squares =
      from_bound (sum n squares) (sum n products)
      (le_trans
      (le_of_eq
      (sym (sum_cong n (moved (λ x. x) w D D' X X') (λ i. squares i -ℤ products i)
      (λ i _. ring (X i ∷ X' i ∷ D i ∷ D' i ∷ w i ∷ []) (search quotes depth 12) (search quotes depth 12) refl)
      ∙ sum-- n squares products)))
      (moved_law (λ x. x) same_gentle))
    where
      squares : ℕ → ℤ
      squares i = w i *ℤ ((X i -ℤ X' i) *ℤ (X i -ℤ X' i))

      products : ℕ → ℤ
      products i = w i *ℤ ((X i -ℤ X' i) *ℤ (D i -ℤ D' i))
