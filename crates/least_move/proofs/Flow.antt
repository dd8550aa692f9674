-- Summation by parts over the gaps of a sheet, in plain whole numbers:
-- nearly every law of the least move is this one lemma.
-- Gap e goes from label u e to label v e and carries Λ e.
use mathlib.Core.Path.{◌≡◌, refl, sym, ◌∙◌, ap, ap₂}
use mathlib.Core.Logic.{◌⊎◌, inl, inr}
use mathlib.Core.Bool.{Bool, true, false}
use mathlib.Core.List.{[], ◌∷◌}
use Prim.Native.Nat.{ℕ, ◌<◌}
use lib.IntN.{ℤ, pos, ◌+ℤ◌, ◌-ℤ◌, ◌*ℤ◌, *ℤ-zero, zero-*ℤ}
use lib.Dec.{eqb}
use borrow.Author.Tests.{eqb-true, ne_eqb, eq-eqb}
use Rattle.algebra.specs.Sum.{sum, ind}
use Rattle.algebra.proofs.Ring.{ring, quotes}
use Rattle.algebra.proofs.Sum.{sum_cong, sum-+, sum--, sum_*, sum_swap, sum_one_term, sum_zero}
use Rattle.least_move.specs.States.{flow}

-- a sum over the labels that names one label
pub at_label : (n : ℕ) (φ : ℕ → ℤ) (k : ℕ) → k < n → (c : ℤ) → sum n (λ i. φ i *ℤ (ind (eqb k i) *ℤ c)) ≡ φ k *ℤ c
at_label n φ k h c =
    sum_one_term n (λ i. φ i *ℤ (ind (eqb k i) *ℤ c)) k h
    (λ i _ ne. ap (λ t. φ i *ℤ (ind t *ℤ c)) (ne_eqb k i (λ e. ne (sym e))) ∙ ring (φ i ∷ c ∷ []) (search quotes depth 12) (search quotes depth 12) refl)
    ∙ ap (λ t. φ k *ℤ (ind t *ℤ c)) (eq-eqb k k refl) ∙ ring (φ k ∷ c ∷ []) (search quotes depth 12) (search quotes depth 12) refl

-- one end of the gaps
by_end : (n m : ℕ) (φ : ℕ → ℤ) (v : ℕ → ℕ) (Λ : ℕ → ℤ) → ((e : ℕ) → e < m → v e < n) → sum n (λ i. φ i *ℤ sum m (λ e. ind (eqb (v e) i) *ℤ Λ e)) ≡ sum m (λ e. φ (v e) *ℤ Λ e)
by_end n m φ v Λ ends =
    sum_cong n (λ i. φ i *ℤ sum m (λ e. ind (eqb (v e) i) *ℤ Λ e)) (λ i. sum m (λ e. φ i *ℤ (ind (eqb (v e) i) *ℤ Λ e)))
    (λ i _. sym (sum_* m (φ i) (λ e. ind (eqb (v e) i) *ℤ Λ e)))
    ∙ sum_swap n m (λ i e. φ i *ℤ (ind (eqb (v e) i) *ℤ Λ e))
    ∙ sum_cong m (λ e. sum n (λ i. φ i *ℤ (ind (eqb (v e) i) *ℤ Λ e))) (λ e. φ (v e) *ℤ Λ e) (λ e h. at_label n φ (v e) (ends e h) (Λ e))

-- summation by parts
pub by_parts : (n m : ℕ) (u v : ℕ → ℕ) (Λ φ : ℕ → ℤ) → ((e : ℕ) → e < m → u e < n) → ((e : ℕ) → e < m → v e < n) → sum n (λ i. φ i *ℤ flow m u v Λ i) ≡ sum m (λ e. Λ e *ℤ (φ (v e) -ℤ φ (u e)))
by_parts n m u v Λ φ lu lv =
    sum_cong n (λ i. φ i *ℤ flow m u v Λ i) (λ i. φ i *ℤ into i -ℤ φ i *ℤ out i)
    (λ i _. ring (φ i ∷ into i ∷ out i ∷ []) (search quotes depth 12) (search quotes depth 12) refl)
    ∙ sum-- n (λ i. φ i *ℤ into i) (λ i. φ i *ℤ out i)
    ∙ ap₂ (λ a b. a -ℤ b) (by_end n m φ v Λ lv) (by_end n m φ u Λ lu)
    ∙ sym (sum-- m (λ e. φ (v e) *ℤ Λ e) (λ e. φ (u e) *ℤ Λ e))
    ∙ sum_cong m (λ e. φ (v e) *ℤ Λ e -ℤ φ (u e) *ℤ Λ e) (λ e. Λ e *ℤ (φ (v e) -ℤ φ (u e)))
    (λ e _. ring (φ (v e) ∷ φ (u e) ∷ Λ e ∷ []) (search quotes depth 12) (search quotes depth 12) refl)
  where
    into : ℕ → ℤ
    into i = sum m (λ e. ind (eqb (v e) i) *ℤ Λ e)

    out : ℕ → ℤ
    out i = sum m (λ e. ind (eqb (u e) i) *ℤ Λ e)

-- the flow is linear in what the gaps carry
pub flow_lin : (m : ℕ) (u v : ℕ → ℕ) (a b : ℤ) (Λ M : ℕ → ℤ) (i : ℕ) → flow m u v (λ e. a *ℤ Λ e +ℤ b *ℤ M e) i ≡ a *ℤ flow m u v Λ i +ℤ b *ℤ flow m u v M i
flow_lin m u v a b Λ M i =
    ap₂ (λ x y. x -ℤ y) (side v) (side u)
    ∙ ring (a ∷ b ∷ one v Λ ∷ one v M ∷ one u Λ ∷ one u M ∷ []) (search quotes depth 12) (search quotes depth 12) refl
  where
    one : (ℕ → ℕ) → (ℕ → ℤ) → ℤ
    one w K = sum m (λ e. ind (eqb (w e) i) *ℤ K e)

    side : (w : ℕ → ℕ) → one w (λ e. a *ℤ Λ e +ℤ b *ℤ M e) ≡ a *ℤ one w Λ +ℤ b *ℤ one w M
    side w =
        sum_cong m (λ e. ind (eqb (w e) i) *ℤ (a *ℤ Λ e +ℤ b *ℤ M e)) (λ e. a *ℤ (ind (eqb (w e) i) *ℤ Λ e) +ℤ b *ℤ (ind (eqb (w e) i) *ℤ M e))
        (λ e _. ring (a ∷ b ∷ ind (eqb (w e) i) ∷ Λ e ∷ M e ∷ []) (search quotes depth 12) (search quotes depth 12) refl)
        ∙ sum-+ m (λ e. a *ℤ (ind (eqb (w e) i) *ℤ Λ e)) (λ e. b *ℤ (ind (eqb (w e) i) *ℤ M e))
        ∙ ap₂ (λ x y. x +ℤ y) (sum_* m a (λ e. ind (eqb (w e) i) *ℤ Λ e)) (sum_* m b (λ e. ind (eqb (w e) i) *ℤ M e))

-- a label's flow is told by the gaps that end at it
pub flow_local : (m : ℕ) (u v : ℕ → ℕ) (Λ M : ℕ → ℤ) (i : ℕ) → ((e : ℕ) → e < m → (u e ≡ i) ⊎ (v e ≡ i) → Λ e ≡ M e) → flow m u v Λ i ≡ flow m u v M i
flow_local m u v Λ M i same = ap₂ (λ x y. x -ℤ y) (side v (λ e h q. same e h (inr q))) (side u (λ e h q. same e h (inl q)))
  where
    term : (b : Bool) (x y : ℤ) → (b ≡ true → x ≡ y) → ind b *ℤ x ≡ ind b *ℤ y
    term true x y h = ap (λ z. pos 1 *ℤ z) (h refl)
    term false x y h = zero-*ℤ x ∙ sym (zero-*ℤ y)

    side : (w : ℕ → ℕ) → ((e : ℕ) → e < m → w e ≡ i → Λ e ≡ M e) → sum m (λ e. ind (eqb (w e) i) *ℤ Λ e) ≡ sum m (λ e. ind (eqb (w e) i) *ℤ M e)
    side w s = sum_cong m (λ e. ind (eqb (w e) i) *ℤ Λ e) (λ e. ind (eqb (w e) i) *ℤ M e) (λ e h. term (eqb (w e) i) (Λ e) (M e) (λ t. s e h (eqb-true (w e) i t)))

-- where nothing is carried nothing flows
pub flow_zero : (m : ℕ) (u v : ℕ → ℕ) (Λ : ℕ → ℤ) (i : ℕ) → ((e : ℕ) → Λ e ≡ pos 0) → flow m u v Λ i ≡ pos 0
flow_zero m u v Λ i z = ap₂ (λ x y. x -ℤ y) (side v) (side u)
  where
    side : (w : ℕ → ℕ) → sum m (λ e. ind (eqb (w e) i) *ℤ Λ e) ≡ pos 0
    side w = sum_zero m (λ e. ind (eqb (w e) i) *ℤ Λ e) (λ e _. ap (λ x. ind (eqb (w e) i) *ℤ x) (z e) ∙ *ℤ-zero (ind (eqb (w e) i)))
