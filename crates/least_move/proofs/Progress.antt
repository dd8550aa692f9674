-- Progress of one outer step (the dual active set over forests):
-- a gap c from label a to label b pushes with force s, the marked gaps are tight, and every label is balanced.
-- Two such states with the same marks differ in cost by what the push has done.
use mathlib.Core.Path.{◌≡◌, refl, sym, ◌∙◌, ap, ap₂}
use mathlib.Core.Bool.{Bool, true}
use mathlib.Core.List.{List, [], ◌∷◌}
use Prim.Native.Nat.{ℕ, zero, suc, ◌*◌, ◌≤◌, ◌<◌}
use native.Mathlib.Omega.{arith}
use native.Mathlib.Nat.{mul-le-mul}
use lib.IntN.{ℤ, pos, negsuc, nat_abs, ◌+ℤ◌, ◌-ℤ◌, ◌*ℤ◌, +ℤ_idl, *ℤ-zero, zero-*ℤ}
use lib.Signed.{◌≤ℤ◌, ◌<ℤ◌}
use lib.Dec.{eqb}
use Rattle.algebra.specs.Sum.{sum, ind}
use Rattle.algebra.proofs.Whole.{parts-+, le_parts, parts_le, lt_parts, parts_lt, le_trans, le_of_eq, le_of_lt, +ℤ-le, *ℤ-le_cancel, *ℤ-+ℤ, *ℤ-nonneg, *ℤ-above, *ℤ-cancel, square_nonneg, sub_nonneg, sub_above}
use Rattle.algebra.proofs.Quotient.{nat_abs-*}
use Rattle.algebra.proofs.Ring.{ring, quotes, le_given, lt_given, eq_given, le_goal, lt_goal}
use Rattle.algebra.proofs.Sum.{sum_cong, sum-+, sum--, sum_*, sum_zero, sum_nonneg, sum_nonneg_zero, sum_bound}
use Rattle.least_move.specs.States.{flow, OnlyOn, push, State, cost_z, viol, dual}
use Rattle.least_move.proofs.Flow.{at_label, by_parts}
use Rattle.least_move.proofs.Forest.{apart_zero, by_mark, no_load}

-- a tight gap keeps its length
kept : (l x x' y y' g : ℤ) → y ≡ x +ℤ g → y' ≡ x' +ℤ g → l *ℤ (y' -ℤ y -ℤ (x' -ℤ x)) ≡ pos 0
kept l x x' y y' g p q =
    ap₂ (λ r r'. l *ℤ (r' -ℤ r -ℤ (x' -ℤ x))) p q ∙ ring (l ∷ x ∷ x' ∷ g ∷ []) (search quotes depth 12) (search quotes depth 12) refl

-- a sum over the labels with the push
push_sum : (n a b : ℕ) (s : ℤ) (φ : ℕ → ℤ) → a < n → b < n → sum n (λ i. φ i *ℤ push a b s i) ≡ s *ℤ (φ b -ℤ φ a)
push_sum n a b s φ la lb =
    sum_cong n (λ i. φ i *ℤ push a b s i) (λ i. φ i *ℤ (ind (eqb b i) *ℤ s) -ℤ φ i *ℤ (ind (eqb a i) *ℤ s))
    (λ i _. ring (φ i ∷ s ∷ ind (eqb b i) ∷ ind (eqb a i) ∷ []) (search quotes depth 12) (search quotes depth 12) refl)
    ∙ sum-- n (λ i. φ i *ℤ (ind (eqb b i) *ℤ s)) (λ i. φ i *ℤ (ind (eqb a i) *ℤ s))
    ∙ ap₂ (λ x y. x -ℤ y) (at_label n φ b lb s) (at_label n φ a la s)
    ∙ ring (s ∷ φ b ∷ φ a ∷ []) (search quotes depth 12) (search quotes depth 12) refl

-- a move that keeps every marked gap tight has nothing to do with the marked gaps' load, only with the push
pub work : {n m : ℕ} {u v : ℕ → ℕ} {F : ℕ → Bool} (f Λ φ : ℕ → ℤ) (a b : ℕ) (s : ℤ) → ((e : ℕ) → e < m → u e < n) → ((e : ℕ) → e < m → v e < n) → a < n → b < n → OnlyOn m F Λ → ((e : ℕ) → e < m → F e ≡ true → Λ e *ℤ (φ (v e) -ℤ φ (u e)) ≡ pos 0) → ((i : ℕ) → i < n → f i ≡ flow m u v Λ i +ℤ push a b s i) → sum n (λ i. φ i *ℤ f i) ≡ s *ℤ (φ b -ℤ φ a)
work {n} {m} {u} {v} {F} f Λ φ a b s lu lv la lb off still bal =
    sum_cong n (λ i. φ i *ℤ f i) (λ i. φ i *ℤ flow m u v Λ i +ℤ φ i *ℤ push a b s i)
    (λ i h. ap (λ x. φ i *ℤ x) (bal i h) ∙ *ℤ-+ℤ (φ i) (flow m u v Λ i) (push a b s i))
    ∙ sum-+ n (λ i. φ i *ℤ flow m u v Λ i) (λ i. φ i *ℤ push a b s i)
    ∙ ap₂ ◌+ℤ◌
    (by_parts n m u v Λ φ lu lv
    ∙ sum_zero m (λ e. Λ e *ℤ (φ (v e) -ℤ φ (u e))) (λ e h. by_mark (F e) (still e h) (λ t. no_load (Λ e) (φ (v e) -ℤ φ (u e)) (off e h t))))
    (push_sum n a b s φ la lb)
    ∙ +ℤ_idl (s *ℤ (φ b -ℤ φ a))

square_zero : (x : ℤ) → x *ℤ x ≡ pos 0 → x ≡ pos 0
square_zero (pos zero) e = refl
square_zero (pos (suc k)) e = absurd (omega (arith, ap nat_abs e))
square_zero (negsuc k) e = absurd (omega (arith, ap nat_abs e))

-- the identities of one label
cost_term : (w d x x' : ℤ) → pos 2 *ℤ (w *ℤ ((x' -ℤ d) *ℤ (x' -ℤ d)) -ℤ w *ℤ ((x -ℤ d) *ℤ (x -ℤ d))) ≡ (x' -ℤ x) *ℤ (pos 2 *ℤ (w *ℤ (x' -ℤ d))) +ℤ (x' -ℤ x) *ℤ (pos 2 *ℤ (w *ℤ (x -ℤ d)))
cost_term w d x x' = ring (w ∷ d ∷ x ∷ x' ∷ []) (search quotes depth 12) (search quotes depth 12) refl

apart_term : (w d x x' : ℤ) → pos 2 *ℤ (w *ℤ ((x' -ℤ x) *ℤ (x' -ℤ x))) ≡ (x' -ℤ x) *ℤ (pos 2 *ℤ (w *ℤ (x' -ℤ d))) -ℤ (x' -ℤ x) *ℤ (pos 2 *ℤ (w *ℤ (x -ℤ d)))
apart_term w d x x' = ring (w ∷ d ∷ x ∷ x' ∷ []) (search quotes depth 12) (search quotes depth 12) refl

grown : (c c' s s' x x' : ℤ) → pos 2 *ℤ (c' -ℤ c) ≡ (s' +ℤ s) *ℤ (x -ℤ x') → pos 2 *ℤ c' +ℤ pos 2 *ℤ s' *ℤ x' -ℤ (pos 2 *ℤ c +ℤ pos 2 *ℤ s *ℤ x) ≡ (s' -ℤ s) *ℤ (x +ℤ x')
grown c c' s s' x x' e =
    ring (c ∷ c' ∷ s ∷ s' ∷ x ∷ x' ∷ []) (search quotes depth 12) (search quotes depth 12) refl ∙ ap (λ y. y +ℤ (pos 2 *ℤ s' *ℤ x' -ℤ pos 2 *ℤ s *ℤ x)) e
    ∙ ring (s ∷ s' ∷ x ∷ x' ∷ []) (search quotes depth 12) (search quotes depth 12) refl

-- orders of the two states from that of the forces
+ℤ-above : {x y : ℤ} → pos 0 <ℤ x → pos 0 ≤ℤ y → pos 0 <ℤ (x +ℤ y)
+ℤ-above {x} {y} h k = parts_lt (omega (arith, lt_parts h, le_parts k, parts-+ x y))

gap_le : (x y d : ℤ) → y -ℤ x ≡ d → pos 0 ≤ℤ d → x ≤ℤ y
gap_le x y d e h =
    let ρ : List ℤ = x ∷ y ∷ d ∷ [] in
    le_goal ρ (search quotes depth 12) (search quotes depth 12)
    (omega (arith, eq_given ρ (search quotes depth 12) (search quotes depth 12) e, le_given ρ (search quotes depth 12) (search quotes depth 12) h))

gap_lt : (x y d : ℤ) → y -ℤ x ≡ d → pos 0 <ℤ d → x <ℤ y
gap_lt x y d e h =
    let ρ : List ℤ = x ∷ y ∷ d ∷ [] in
    lt_goal ρ (search quotes depth 12) (search quotes depth 12)
    (omega (arith, eq_given ρ (search quotes depth 12) (search quotes depth 12) e, lt_given ρ (search quotes depth 12) (search quotes depth 12) h))

gap_below : (x x' r d : ℤ) → pos 0 <ℤ r → pos 0 ≤ℤ d → pos 2 *ℤ d ≡ r *ℤ (x -ℤ x') → x' ≤ℤ x
gap_below x x' r d h k e =
    gap_le x' x (x -ℤ x') refl
    (*ℤ-le_cancel h (le_trans (le_of_eq (*ℤ-zero r)) (le_trans (*ℤ-nonneg two k) (le_of_eq e))))
  where
    two : pos 0 ≤ℤ pos 2
    two = parts_le (omega arith)

no_force : (d s s' x : ℤ) → s' ≡ s → pos 2 *ℤ d ≡ (s' -ℤ s) *ℤ x → d ≡ pos 0
no_force d s s' x p e =
    *ℤ-cancel two (e ∙ ap (λ y. (y -ℤ s) *ℤ x) p ∙ ring (s ∷ x ∷ []) (search quotes depth 12) (search quotes depth 12) refl)
  where
    two : pos 0 <ℤ pos 2
    two = parts_lt (omega arith)

-- two states with the same marks
module _ {n m : ℕ} {u v : ℕ → ℕ} {w D G : ℕ → ℤ} {F : ℕ → Bool} {a b : ℕ} {s s' : ℤ} {X Λ X' Λ' : ℕ → ℤ}
    (lu : (e : ℕ) → e < m → u e < n) (lv : (e : ℕ) → e < m → v e < n) (la : a < n) (lb : b < n)
    (st : State n m u v w D G F a b s X Λ) (st' : State n m u v w D G F a b s' X' Λ') where
  still : (l : ℕ → ℤ) (e : ℕ) → e < m → F e ≡ true → l e *ℤ (X' (v e) -ℤ X (v e) -ℤ (X' (u e) -ℤ X (u e))) ≡ pos 0
  still l e h t = kept (l e) (X (u e)) (X' (u e)) (X (v e)) (X' (v e)) (G e) (st.tight e h t) (st'.tight e h t)

  -- the work of either state's forces on the way between them
  before : sum n (λ i. (X' i -ℤ X i) *ℤ (pos 2 *ℤ (w i *ℤ (X i -ℤ D i)))) ≡ s *ℤ (X' b -ℤ X b -ℤ (X' a -ℤ X a))
  before = work (λ i. pos 2 *ℤ (w i *ℤ (X i -ℤ D i))) Λ (λ i. X' i -ℤ X i) a b s lu lv la lb st.off (still Λ) st.balance

  after : sum n (λ i. (X' i -ℤ X i) *ℤ (pos 2 *ℤ (w i *ℤ (X' i -ℤ D i)))) ≡ s' *ℤ (X' b -ℤ X b -ℤ (X' a -ℤ X a))
  after = work (λ i. pos 2 *ℤ (w i *ℤ (X' i -ℤ D i))) Λ' (λ i. X' i -ℤ X i) a b s' lu lv la lb st'.off (still Λ') st'.balance

  -- the cost grows by the work done against the violation
  pub progress : (g : ℤ) → pos 2 *ℤ (cost_z n w D X' -ℤ cost_z n w D X) ≡ (s' +ℤ s) *ℤ (viol a b g X -ℤ viol a b g X')
  progress g =
      let f : (ℕ → ℤ) → ℕ → ℤ = λ Y i. w i *ℤ ((Y i -ℤ D i) *ℤ (Y i -ℤ D i)) in
      let p : (ℕ → ℤ) → ℕ → ℤ = λ Y i. (X' i -ℤ X i) *ℤ (pos 2 *ℤ (w i *ℤ (Y i -ℤ D i))) in
      ap (λ x. pos 2 *ℤ x) (sym (sum-- n (f X') (f X))) ∙ sym (sum_* n (pos 2) (λ i. f X' i -ℤ f X i))
      ∙ sum_cong n (λ i. pos 2 *ℤ (f X' i -ℤ f X i)) (λ i. p X' i +ℤ p X i) (λ i _. cost_term (w i) (D i) (X i) (X' i))
      ∙ sum-+ n (p X') (p X) ∙ ap₂ ◌+ℤ◌ after before
      ∙ ring (s ∷ s' ∷ X a ∷ X b ∷ X' a ∷ X' b ∷ g ∷ []) (search quotes depth 12) (search quotes depth 12) refl

  -- how far the places of the two states are apart: a larger force, a smaller violation
  pub places_apart : (g : ℤ) → pos 2 *ℤ sum n (λ i. w i *ℤ ((X' i -ℤ X i) *ℤ (X' i -ℤ X i))) ≡ (s' -ℤ s) *ℤ (viol a b g X -ℤ viol a b g X')
  places_apart g =
      let f : ℕ → ℤ = λ i. w i *ℤ ((X' i -ℤ X i) *ℤ (X' i -ℤ X i)) in
      let p : (ℕ → ℤ) → ℕ → ℤ = λ Y i. (X' i -ℤ X i) *ℤ (pos 2 *ℤ (w i *ℤ (Y i -ℤ D i))) in
      sym (sum_* n (pos 2) f)
      ∙ sum_cong n (λ i. pos 2 *ℤ f i) (λ i. p X' i -ℤ p X i) (λ i _. apart_term (w i) (D i) (X i) (X' i))
      ∙ sum-- n (p X') (p X) ∙ ap₂ ◌-ℤ◌ after before
      ∙ ring (s ∷ s' ∷ X a ∷ X b ∷ X' a ∷ X' b ∷ g ∷ []) (search quotes depth 12) (search quotes depth 12) refl

  pub progress_Q : (g : ℤ) → dual n w D a b g s' X' -ℤ dual n w D a b g s X ≡ (s' -ℤ s) *ℤ (viol a b g X +ℤ viol a b g X')
  progress_Q g = grown (cost_z n w D X) (cost_z n w D X') s s' (viol a b g X) (viol a b g X') (progress g)

  -- while gap c does not hold, a larger force makes it larger
  pub progress_grows : (g : ℤ) → s ≤ℤ s' → pos 0 ≤ℤ viol a b g X → pos 0 ≤ℤ viol a b g X' → dual n w D a b g s X ≤ℤ dual n w D a b g s' X'
  progress_grows g h k k' = gap_le (dual n w D a b g s X) (dual n w D a b g s' X') _ (progress_Q g) (*ℤ-nonneg (sub_nonneg h) (+ℤ-le k k'))

  pub progress_grows_lt : (g : ℤ) → s <ℤ s' → pos 0 <ℤ viol a b g X → pos 0 ≤ℤ viol a b g X' → dual n w D a b g s X <ℤ dual n w D a b g s' X'
  progress_grows_lt g h k k' = gap_lt (dual n w D a b g s X) (dual n w D a b g s' X') _ (progress_Q g) (*ℤ-above (sub_above h) (+ℤ-above k k'))

  -- and the violation never grows with the force
  pub viol_falls : (g : ℤ) → ((i : ℕ) → i < n → pos 0 ≤ℤ w i) → s <ℤ s' → viol a b g X' ≤ℤ viol a b g X
  viol_falls g heavy h =
      let d : ℤ = sum n (λ i. w i *ℤ ((X' i -ℤ X i) *ℤ (X' i -ℤ X i))) in
      let k : pos 0 ≤ℤ d = sum_nonneg n (λ i. w i *ℤ ((X' i -ℤ X i) *ℤ (X' i -ℤ X i))) (λ i l. *ℤ-nonneg (heavy i l) (square_nonneg (X' i -ℤ X i))) in
      gap_below (viol a b g X) (viol a b g X') (s' -ℤ s) d (sub_above h) k (places_apart g)

  -- the marks and the force say where the labels stand
  pub places_unique : ((i : ℕ) → i < n → pos 0 <ℤ w i) → s' ≡ s → (i : ℕ) → i < n → X i ≡ X' i
  places_unique heavy same i l =
      let f : ℕ → ℤ = λ k. w k *ℤ ((X' k -ℤ X k) *ℤ (X' k -ℤ X k)) in
      let none : sum n f ≡ pos 0 = no_force (sum n f) s s' (viol a b (pos 0) X -ℤ viol a b (pos 0) X') same (places_apart (pos 0)) in
      apart_zero (X i) (X' i)
      (square_zero (X' i -ℤ X i)
      (*ℤ-cancel (heavy i l)
      (sum_nonneg_zero n f (λ k h. *ℤ-nonneg (le_of_lt (heavy k h)) (square_nonneg (X' k -ℤ X k))) (le_of_eq none) i l ∙ sym (*ℤ-zero (w i)))))

-- ---- the size of the cost

pub cost_nonneg : (n : ℕ) (w D X : ℕ → ℤ) → ((i : ℕ) → i < n → pos 0 ≤ℤ w i) → pos 0 ≤ℤ cost_z n w D X
cost_nonneg n w D X heavy =
    sum_nonneg n (λ i. w i *ℤ ((X i -ℤ D i) *ℤ (X i -ℤ D i))) (λ i h. *ℤ-nonneg (heavy i h) (square_nonneg (X i -ℤ D i)))

pub cost_bound : (n : ℕ) (w D X : ℕ → ℤ) (W B : ℕ) → ((i : ℕ) → i < n → nat_abs (w i) ≤ W) → ((i : ℕ) → i < n → nat_abs (X i -ℤ D i) ≤ B) → nat_abs (cost_z n w D X) ≤ n * (W * (B * B))
cost_bound n w D X W B light near =
    sum_bound n (λ i. w i *ℤ ((X i -ℤ D i) *ℤ (X i -ℤ D i))) (W * (B * B)) (λ i h. term (w i) (X i -ℤ D i) (light i h) (near i h))
  where
    term : (x y : ℤ) → nat_abs x ≤ W → nat_abs y ≤ B → nat_abs (x *ℤ (y *ℤ y)) ≤ W * (B * B)
    term x y h k = rw (nat_abs-* x (y *ℤ y), nat_abs-* y y) (mul-le-mul h (mul-le-mul k k))

-- ---- from one state to the next

-- without a push, or where gap c holds with nothing to spare, it is twice the cost
pub dual_cost : (n : ℕ) (w D : ℕ → ℤ) (a b : ℕ) (g s : ℤ) (X : ℕ → ℤ) → s *ℤ viol a b g X ≡ pos 0 → dual n w D a b g s X ≡ pos 2 *ℤ cost_z n w D X
dual_cost n w D a b g s X e =
    ring (cost_z n w D X ∷ s ∷ X a ∷ X b ∷ g ∷ []) (search quotes depth 12) (search quotes depth 12) refl ∙ ap (λ x. pos 2 *ℤ cost_z n w D X +ℤ pos 2 *ℤ x) e
    ∙ ring (cost_z n w D X ∷ []) (search quotes depth 12) (search quotes depth 12) refl

-- marks taken from gaps that carry nothing
pub state_drop : {n m : ℕ} {u v : ℕ → ℕ} {w D G : ℕ → ℤ} {F : ℕ → Bool} {a b : ℕ} {s : ℤ} {X Λ : ℕ → ℤ} (F' : ℕ → Bool) → ((e : ℕ) → e < m → F' e ≡ true → F e ≡ true) → OnlyOn m F' Λ → State n m u v w D G F a b s X Λ → State n m u v w D G F' a b s X Λ
state_drop F' fewer off st = record { off = off; tight = λ e h t. st.tight e h (fewer e h t); balance = st.balance }

-- a state with no push is one for every gap
pub state_unpushed : {n m : ℕ} {u v : ℕ → ℕ} {w D G : ℕ → ℤ} {F : ℕ → Bool} {a b : ℕ} {X Λ : ℕ → ℤ} (a' b' : ℕ) → State n m u v w D G F a b (pos 0) X Λ → State n m u v w D G F a' b' (pos 0) X Λ
state_unpushed {n} {m} {u} {v} {a = a} {b = b} {Λ = Λ} a' b' st =
    record { off = st.off; tight = st.tight; balance = λ i h. st.balance i h ∙ ap (λ x. flow m u v Λ i +ℤ x) (zero-*ℤ (ind (eqb b i) -ℤ ind (eqb a i)) ∙ sym (zero-*ℤ (ind (eqb b' i) -ℤ ind (eqb a' i)))) }
