-- One advance of an outer step: the push on a gap grows until a marked gap's multiplier comes to zero,
-- or until the gap is tight.
-- A drift says how places and loads change with the push.
-- All numbers are whole: a state is scaled by k before it moves.
use mathlib.Core.Path.{◌≡◌, refl, sym, ◌∙◌, ap, ap₂}
use mathlib.Core.Logic.{⊎_elim}
use mathlib.Core.Bool.{Bool, true}
use mathlib.Core.List.{[], ◌∷◌}
use Prim.Native.Nat.{ℕ, ◌<◌}
use lib.IntN.{ℤ, pos, ◌+ℤ◌, ◌-ℤ◌, ◌*ℤ◌}
use lib.Signed.{◌≤ℤ◌, ◌<ℤ◌}
use lib.Dec.{eqb}
use Rattle.algebra.specs.Sum.{ind}
use Rattle.algebra.proofs.Whole.{le_trans, le_of_eq, le_of_lt, le_or_lt, *ℤ-nonneg, *ℤ-le_cancel, *ℤ-cancel, +ℤ-le, sub_nonneg}
use Rattle.algebra.proofs.Ring.{ring, quotes, le_by}
use Rattle.least_move.specs.States.{flow, OnlyOn, push, State}
use Rattle.least_move.proofs.Flow.{flow_lin}

pub record Drift (n m : ℕ) (u v : ℕ → ℕ) (w : ℕ → ℤ) (F : ℕ → Bool) (a b : ℕ) (ds : ℤ) (d_x dΛ : ℕ → ℤ) : Type 0 where
  pub off : OnlyOn m F dΛ
  pub still : (e : ℕ) → e < m → F e ≡ true → d_x (v e) ≡ d_x (u e)
  pub balance : (i : ℕ) → i < n → pos 2 *ℤ (w i *ℤ d_x i) ≡ flow m u v dΛ i +ℤ push a b ds i

-- the algebra of one gap and of one label
tight_along : (k τ x y g dx dy g' : ℤ) → y ≡ x +ℤ g → dy ≡ dx → g' ≡ k *ℤ g → k *ℤ y +ℤ τ *ℤ dy ≡ k *ℤ x +ℤ τ *ℤ dx +ℤ g'
tight_along k τ x y g dx dy g' p q r =
    ap₂ (λ c e. k *ℤ c +ℤ τ *ℤ e) p q ∙ ring (k ∷ τ ∷ x ∷ g ∷ dx ∷ []) (search quotes depth 12) (search quotes depth 12) refl
    ∙ ap (λ c. k *ℤ x +ℤ τ *ℤ dx +ℤ c) (sym r)

balance_along : (k τ w x d dx d' f df s ds o : ℤ) → d' ≡ k *ℤ d → pos 2 *ℤ (w *ℤ (x -ℤ d)) ≡ f +ℤ s *ℤ o → pos 2 *ℤ (w *ℤ dx) ≡ df +ℤ ds *ℤ o → pos 2 *ℤ (w *ℤ (k *ℤ x +ℤ τ *ℤ dx -ℤ d')) ≡ k *ℤ f +ℤ τ *ℤ df +ℤ (k *ℤ s +ℤ τ *ℤ ds) *ℤ o
balance_along k τ w x d dx d' f df s ds o p q r =
    ap (λ c. pos 2 *ℤ (w *ℤ (k *ℤ x +ℤ τ *ℤ dx -ℤ c))) p
    ∙ ring (k ∷ τ ∷ w ∷ x ∷ d ∷ dx ∷ []) (search quotes depth 12) (search quotes depth 12) refl
    ∙ ap₂ (λ c e. k *ℤ c +ℤ τ *ℤ e) q r
    ∙ ring (k ∷ τ ∷ f ∷ df ∷ s ∷ ds ∷ o ∷ []) (search quotes depth 12) (search quotes depth 12) refl

module _ {n m : ℕ} {u v : ℕ → ℕ} {w D G D' G' : ℕ → ℤ} {F : ℕ → Bool} {a b : ℕ} {s ds : ℤ} {X Λ d_x dΛ : ℕ → ℤ} where
  -- a state, scaled and moved along a drift, is a state
  pub state_along : (k τ : ℤ) → ((i : ℕ) → i < n → D' i ≡ k *ℤ D i) → ((e : ℕ) → e < m → G' e ≡ k *ℤ G e) → State n m u v w D G F a b s X Λ → Drift n m u v w F a b ds d_x dΛ → State n m u v w D' G' F a b (k *ℤ s +ℤ τ *ℤ ds) (λ i. k *ℤ X i +ℤ τ *ℤ d_x i) (λ e. k *ℤ Λ e +ℤ τ *ℤ dΛ e)
  state_along k τ hD hG st dr =
      record {
        off = λ e h f. ap₂ (λ x y. k *ℤ x +ℤ τ *ℤ y) (st.off e h f) (dr.off e h f) ∙ ring (k ∷ τ ∷ []) (search quotes depth 12) (search quotes depth 12) refl;
        tight = λ e h t. tight_along k τ (X (u e)) (X (v e)) (G e) (d_x (u e)) (d_x (v e)) (G' e) (st.tight e h t) (dr.still e h t) (hG e h);
        balance =
            λ i h.
            balance_along k τ (w i) (X i) (D i) (d_x i) (D' i) (flow m u v Λ i) (flow m u v dΛ i) s ds (ind (eqb b i) -ℤ ind (eqb a i)) (hD i h) (st.balance i h) (dr.balance i h)
            ∙ ap (λ c. c +ℤ (k *ℤ s +ℤ τ *ℤ ds) *ℤ (ind (eqb b i) -ℤ ind (eqb a i))) (sym (flow_lin m u v k τ Λ dΛ i));
      }

-- ---- the sign of a load after the advance

-- What the code knows of a marked gap that the push acts on:
-- over the block's weight W its load is N·r − s·q, and it changes by −c·q.
-- r / q is its breaking point where q is above zero.
pub record Rate (N s c W r q load change : ℤ) : Type 0 where
  pub above : pos 0 <ℤ W
  pub loaded : W *ℤ load ≡ N *ℤ r -ℤ s *ℤ q
  pub changing : W *ℤ change ≡ pos 0 -ℤ c *ℤ q

-- The advance that a fraction R / P names: the state is scaled by c·P and moved by N·R − P·s.
rate_sum : (N s c W r q l h P R : ℤ) → W *ℤ l ≡ N *ℤ r -ℤ s *ℤ q → W *ℤ h ≡ pos 0 -ℤ c *ℤ q → W *ℤ (c *ℤ P *ℤ l +ℤ (N *ℤ R -ℤ P *ℤ s) *ℤ h) ≡ c *ℤ (N *ℤ (r *ℤ P -ℤ R *ℤ q))
rate_sum N s c W r q l h P R p e =
    ring (N ∷ s ∷ c ∷ W ∷ l ∷ h ∷ P ∷ R ∷ []) (search quotes depth 12) (search quotes depth 12) refl
    ∙ ap₂ (λ x y. c *ℤ P *ℤ x +ℤ (N *ℤ R -ℤ P *ℤ s) *ℤ y) p e
    ∙ ring (N ∷ s ∷ c ∷ r ∷ q ∷ P ∷ R ∷ []) (search quotes depth 12) (search quotes depth 12) refl

both_nonneg : {x y : ℤ} → pos 0 ≤ℤ x → pos 0 ≤ℤ y → pos 0 ≤ℤ (x +ℤ y)
both_nonneg {x} {y} h k = le_trans (le_of_eq refl) (+ℤ-le h k)

zero_times : (W : ℤ) → W *ℤ pos 0 ≡ pos 0
zero_times W = ring (W ∷ []) (search quotes depth 12) (search quotes depth 12) refl

-- a lawful load stays lawful up to its breaking point
pub rate_lawful : {N s c W r q l h : ℤ} (P R : ℤ) → Rate N s c W r q l h → pos 0 ≤ℤ N → pos 0 ≤ℤ c → pos 0 ≤ℤ P → pos 0 ≤ℤ (N *ℤ R -ℤ P *ℤ s) → pos 0 ≤ℤ l → (pos 0 <ℤ q → (R *ℤ q) ≤ℤ (r *ℤ P)) → pos 0 ≤ℤ (c *ℤ P *ℤ l +ℤ (N *ℤ R -ℤ P *ℤ s) *ℤ h)
rate_lawful {N} {s} {c} {W} {r} {q} {l} {h} P R rate h_n hc h_p hτ hl least = ⊎_elim down upw (le_or_lt q (pos 0))
  where
    upw : pos 0 <ℤ q → pos 0 ≤ℤ (c *ℤ P *ℤ l +ℤ (N *ℤ R -ℤ P *ℤ s) *ℤ h)
    upw hq =
        *ℤ-le_cancel rate.above
        (le_trans (le_of_eq (zero_times W))
        (le_trans (*ℤ-nonneg hc (*ℤ-nonneg h_n (sub_nonneg (least hq)))) (le_of_eq (sym (rate_sum N s c W r q l h P R rate.loaded rate.changing)))))

    change : q ≤ℤ pos 0 → pos 0 ≤ℤ h
    change hq =
        *ℤ-le_cancel rate.above
        (le_trans (le_of_eq (zero_times W)) (le_trans (*ℤ-nonneg hc (sub_nonneg hq)) (le_of_eq (ring (c ∷ q ∷ []) (search quotes depth 12) (search quotes depth 12) refl ∙ sym rate.changing))))

    down : q ≤ℤ pos 0 → pos 0 ≤ℤ (c *ℤ P *ℤ l +ℤ (N *ℤ R -ℤ P *ℤ s) *ℤ h)
    down hq =
        let A : ℤ = c *ℤ P *ℤ l in
        let B : ℤ = (N *ℤ R -ℤ P *ℤ s) *ℤ h in
        le_by {a = pos 0} {s = A +ℤ B} (both_nonneg (*ℤ-nonneg (*ℤ-nonneg hc h_p) hl) (*ℤ-nonneg hτ (change hq))) (ring (A ∷ B ∷ []) (search quotes depth 12) (search quotes depth 12) refl)

-- at its own breaking point a gap carries nothing, and the state has not passed that point before
pub rate_spent : {N s c W r q l h : ℤ} → Rate N s c W r q l h → c *ℤ q *ℤ l +ℤ (N *ℤ r -ℤ q *ℤ s) *ℤ h ≡ pos 0
rate_spent {N} {s} {c} {W} {r} {q} {l} {h} rate =
    *ℤ-cancel rate.above
    (rate_sum N s c W r q l h q r rate.loaded rate.changing ∙ ring (N ∷ c ∷ W ∷ r ∷ q ∷ []) (search quotes depth 12) (search quotes depth 12) refl)

pub rate_way : {N s c W r q l h : ℤ} → Rate N s c W r q l h → pos 0 ≤ℤ l → pos 0 ≤ℤ (N *ℤ r -ℤ q *ℤ s)
rate_way {N} {s} {c} {W} {r} {q} {l} {h} rate hl =
    le_trans (*ℤ-nonneg (le_of_lt rate.above) hl) (le_of_eq (rate.loaded ∙ ring (N ∷ s ∷ r ∷ q ∷ []) (search quotes depth 12) (search quotes depth 12) refl))
