-- What an advance of the push needs beside a sheet's numbers:
-- loads kept to one block, and the gap that is marked at the end.
use mathlib.Core.Path.{◌≡◌, refl, sym, ◌∙◌, ap, ap₂}
use mathlib.Core.Logic.{◌≢◌}
use mathlib.Core.Bool.{Bool, true, false, true≢false}
use mathlib.Core.List.{[], ◌∷◌}
use Prim.Native.Nat.{ℕ, ◌<◌}
use lib.IntN.{ℤ, pos, ◌+ℤ◌, ◌-ℤ◌, ◌*ℤ◌, *ℤ-zero}
use lib.Dec.{eqb}
use borrow.Author.Tests.{eqb-true, eqb-false, ne_eqb}
use Rattle.algebra.specs.Sum.{sum, ind}
use Rattle.algebra.proofs.Whole.{one_*ℤ}
use Rattle.algebra.proofs.Ring.{ring, quotes}
use Rattle.algebra.proofs.Sum.{sum_cong, sum_*}
use Rattle.least_move.specs.States.{flow, OnlyOn, push, State}
use Rattle.least_move.proofs.Flow.{flow_lin}
use Rattle.least_move.proofs.Forest.{by_mark, pass_flow}

-- at label j alone, a set's indicator is that of j
pub pick : (S : ℕ → Bool) (j i : ℕ) (x y : ℤ) → x ≡ ind (S j) *ℤ y → ind (eqb j i) *ℤ x ≡ ind (S i) *ℤ (ind (eqb j i) *ℤ y)
pick S j i x y e =
    by_mark (eqb j i)
    (λ (t : eqb j i ≡ true). ap₂ (λ (c : Bool) (l : ℤ). ind c *ℤ l) t (e ∙ ap (λ (l : ℕ). ind (S l) *ℤ y) (eqb-true j i t))
    ∙ ring (ind (S i) ∷ y ∷ []) (search quotes depth 12) (search quotes depth 12) refl ∙ ap (λ (c : Bool). ind (S i) *ℤ (ind c *ℤ y)) (sym t))
    (λ (t : eqb j i ≡ false). ap (λ (c : Bool). ind c *ℤ x) t ∙ ring (ind (S i) ∷ x ∷ y ∷ []) (search quotes depth 12) (search quotes depth 12) refl
    ∙ ap (λ (c : Bool). ind (S i) *ℤ (ind c *ℤ y)) (sym t))

-- a label of the set
pub pick_in : (S : ℕ → Bool) (j i : ℕ) (y : ℤ) → S j ≡ true → ind (S i) *ℤ (ind (eqb j i) *ℤ y) ≡ ind (eqb j i) *ℤ y
pick_in S j i y t = sym (pick S j i y y (sym (ap (λ (c : Bool). ind c *ℤ y) t ∙ one_*ℤ y)))

-- two labels that a set tells apart
pub not_label : (S : ℕ → Bool) (j i : ℕ) → S j ≢ S i → eqb j i ≡ false
not_label S j i d = ne_eqb j i (λ (e : j ≡ i). d (ap S e))

pub not-true : (x : Bool) → (x ≡ true → ⊥) → x ≡ false
not-true true d = absurd (d refl)
not-true false d = refl

-- a load kept to the gaps of one block has the load's flow in the block, and none elsewhere
pub restrict_flow : (m : ℕ) (u v : ℕ → ℕ) (F : ℕ → Bool) (Λ : ℕ → ℤ) (S : ℕ → Bool) → OnlyOn m F Λ → ((e : ℕ) → e < m → F e ≡ true → S (u e) ≡ S (v e)) → (i : ℕ) → flow m u v (λ e. ind (S (u e)) *ℤ Λ e) i ≡ ind (S i) *ℤ flow m u v Λ i
restrict_flow m u v F Λ S off inside i =
    ap₂ (λ x y. x -ℤ y) (side v ends) (side u (λ _ _. refl))
    ∙ ring (ind (S i) ∷ one v ∷ one u ∷ []) (search quotes depth 12) (search quotes depth 12) refl
  where
    one : (ℕ → ℕ) → ℤ
    one w = sum m (λ e. ind (eqb (w e) i) *ℤ Λ e)

    ends : (e : ℕ) → e < m → ind (S (u e)) *ℤ Λ e ≡ ind (S (v e)) *ℤ Λ e
    ends e h =
        by_mark (F e)
        (λ t. ap (λ (c : Bool). ind c *ℤ Λ e) (inside e h t))
        (λ t. ap (λ x. ind (S (u e)) *ℤ x) (off e h t) ∙ *ℤ-zero (ind (S (u e))) ∙ sym (*ℤ-zero (ind (S (v e)))) ∙ ap (λ x. ind (S (v e)) *ℤ x) (sym (off e h t)))

    side : (w : ℕ → ℕ) → ((e : ℕ) → e < m → ind (S (u e)) *ℤ Λ e ≡ ind (S (w e)) *ℤ Λ e) → sum m (λ e. ind (eqb (w e) i) *ℤ (ind (S (u e)) *ℤ Λ e)) ≡ ind (S i) *ℤ one w
    side w same =
        sum_cong m (λ e. ind (eqb (w e) i) *ℤ (ind (S (u e)) *ℤ Λ e)) (λ e. ind (S i) *ℤ (ind (eqb (w e) i) *ℤ Λ e))
        (λ e h. pick S (w e) i (ind (S (u e)) *ℤ Λ e) (Λ e) (same e h))
        ∙ sum_* m (ind (S i)) (λ e. ind (eqb (w e) i) *ℤ Λ e)

-- loads with t more on gap c
abbrev pub with_push : (c : ℕ) (t : ℤ) (Λ : ℕ → ℤ) → ℕ → ℤ
with_push c t Λ e = pos 1 *ℤ Λ e +ℤ pos 1 *ℤ (ind (eqb c e) *ℤ t)

-- gap c, tight at last, is marked and carries t, which brings what the push has brought
pub state_marked : {n m : ℕ} {u v : ℕ → ℕ} {w D G : ℕ → ℤ} {F : ℕ → Bool} {a b : ℕ} {s : ℤ} {X Λ : ℕ → ℤ} (F' : ℕ → Bool) (c : ℕ) (t : ℤ) → c < m → F' c ≡ true → ((e : ℕ) → e < m → e ≢ c → F' e ≡ F e) → X (v c) ≡ X (u c) +ℤ G c → ((i : ℕ) → i < n → ind (eqb (v c) i) *ℤ t -ℤ ind (eqb (u c) i) *ℤ t ≡ push a b s i) → State n m u v w D G F a b s X Λ → State n m u v w D G F' 0 0 (pos 0) X (with_push c t Λ)
state_marked {n} {m} {u} {v} {w} {D} {G} {F} {a} {b} {s} {X} {Λ} F' c t l is-marked same holds brings st = record { off = off'; tight = tight'; balance = balance' }
  where
    off' : OnlyOn m F' (with_push c t Λ)
    off' e h f =
        by_mark (eqb c e)
        (λ q. absurd (true≢false (sym is-marked ∙ ap F' (eqb-true c e q) ∙ f)))
        (λ q. ap₂ (λ (x : ℤ) (y : Bool). pos 1 *ℤ x +ℤ pos 1 *ℤ (ind y *ℤ t)) (st.off e h (sym (same e h (λ o. eqb-false c e q (sym o))) ∙ f)) q
        ∙ ring (t ∷ []) (search quotes depth 12) (search quotes depth 12) refl)

    tight' : (e : ℕ) → e < m → F' e ≡ true → X (v e) ≡ X (u e) +ℤ G e
    tight' e h k = by_mark (eqb e c) (λ q. rw (eqb-true e c q) holds) (λ q. st.tight e h (sym (same e h (eqb-false e c q)) ∙ k))

    balance' : (i : ℕ) → i < n → pos 2 *ℤ (w i *ℤ (X i -ℤ D i)) ≡ flow m u v (with_push c t Λ) i +ℤ push 0 0 (pos 0) i
    balance' i h =
        st.balance i h ∙ ap (λ x. flow m u v Λ i +ℤ x) (sym (brings i h) ∙ sym (pass_flow m u v c l t i))
        ∙ ring (flow m u v Λ i ∷ flow m u v (λ e. ind (eqb c e) *ℤ t) i ∷ ind (eqb 0 i) ∷ []) (search quotes depth 12) (search quotes depth 12) refl
        ∙ ap (λ x. x +ℤ push 0 0 (pos 0) i) (sym (flow_lin m u v (pos 1) (pos 1) Λ (λ e. ind (eqb c e) *ℤ t) i))
