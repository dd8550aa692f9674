-- Multipliers that the places decide: one that is zero by the conditions, and that of a gap which is alone tight at one
-- of its ends, since it carries what balances that end.
use mathlib.Core.Path.{◌≡◌, refl, sym, ◌∙◌, ap, ap₂}
use mathlib.Core.Logic.{◌≢◌, ◌⊎◌, inl, inr, ⊎_elim}
use mathlib.Core.Bool.{Bool, true, false}
use mathlib.Core.List.{List, [], ◌∷◌}
use Prim.Native.Nat.{ℕ, ◌<◌}
use native.Mathlib.Omega.{arith}
use lib.Dec.{eqb}
use lib.IntN.{ℤ, pos, negsuc, ◌+ℤ◌, ◌-ℤ◌, ◌*ℤ◌}
use borrow.Author.Tests.{eqb-true, eq-eqb, ne_eqb}
use Rattle.algebra.specs.Sum.{ind}
use Rattle.algebra.proofs.Ring.{ring, quotes, eq_given, eq_goal}
use Rattle.exact.specs.Fraction.{◌≃◌, whole}
use Rattle.exact.proofs.Fractions.{CommonScale₃, common₃, ≃-scale}
use Rattle.least_move.specs.Sheet.{Sheet, Proper, label, gap_number}
use Rattle.least_move.specs.Placement.{Placement, Tight}
use Rattle.least_move.specs.Multipliers.{Multipliers, Conditions}
use Rattle.least_move.specs.States.{flow}
use Rattle.least_move.proofs.Flow.{flow_lin, flow_local}
use Rattle.least_move.proofs.Forest.{pass_flow, apart_zero}
use Rattle.least_move.proofs.Bridge.{lefts, rights, weights, wants, conditions_at, none_scale}

-- gap f is this one, does not end at the label, or is not tight
abbrev pub Idle : Sheet → Placement → (e f : ℕ) → ℕ → Type 0
Idle s p e f i = (f ≡ e) ⊎ (((lefts s f ≢ i) × (rights s f ≢ i)) ⊎ ¬ (Tight p (s.gap (gap_number f))))

-- gap e ends at label i and starts elsewhere, or the other way round, and no other gap at the label is tight
pub record Alone (s : Sheet) (p : Placement) (e : ℕ) (i : ℕ) : Type 0 where
  pub inside : i < s.labels
  pub once : ((lefts s e ≡ i) × (rights s e ≢ i)) ⊎ ((rights s e ≡ i) × (lefts s e ≢ i))
  pub idle : (f : ℕ) → f < s.gaps → Idle s p e f i

-- the places decide the multiplier of gap e
abbrev pub Decided : Sheet → Placement → ℕ → Type 0
Decided s p e =
    (¬ (Tight p (s.gap (gap_number e)))) ⊎ (((s.gap (gap_number e)).left ≡ (s.gap (gap_number e)).right)
    ⊎ (Alone s p e (lefts s e) ⊎ Alone s p e (rights s e)))

-- what one pass brings to a label at which the gap ends once is no zero unless it carries none
no_pass : (a b : Bool) (x : ℤ) → ((a ≡ true) × (b ≡ false)) ⊎ ((b ≡ true) × (a ≡ false)) → ind b *ℤ x -ℤ ind a *ℤ x ≡ pos 0 → x ≡ pos 0
no_pass a b x (inl q) e =
    let ρ : List ℤ = x ∷ [] in
    let told : ind false *ℤ x -ℤ ind true *ℤ x ≡ pos 0 = ap₂ (λ (c d : Bool). ind c *ℤ x -ℤ ind d *ℤ x) (sym q.1) (sym q.0) ∙ e in
    eq_goal ρ (search quotes depth 12) (search quotes depth 12) (omega (arith, eq_given ρ (search quotes depth 12) (search quotes depth 12) told))
no_pass a b x (inr q) e =
    let ρ : List ℤ = x ∷ [] in
    let told : ind true *ℤ x -ℤ ind false *ℤ x ≡ pos 0 = ap₂ (λ (c d : Bool). ind c *ℤ x -ℤ ind d *ℤ x) (sym q.0) (sym q.1) ∙ e in
    eq_goal ρ (search quotes depth 12) (search quotes depth 12) (omega (arith, eq_given ρ (search quotes depth 12) (search quotes depth 12) told))

module _ (s : Sheet) (p : Placement) (m k : Multipliers) (proper : Proper s) (c : Conditions s p m) (d : Conditions s p k) where
  -- one scale for the places and both sets of multipliers
  scales : CommonScale₃ s.labels s.gaps s.gaps (λ i. p (label i)) (λ e. m (gap_number e)) (λ e. k (gap_number e))
  scales =
      common₃ s.labels s.gaps s.gaps (λ i. p (label i)) (λ e. m (gap_number e)) (λ e. k (gap_number e))
      (λ i h. c.feasible.fractions (label i) h) (λ e h. c.fractions (gap_number e) h) (λ e h. d.fractions (gap_number e) h)

  abbrev Λ : ℕ → ℤ
  Λ = scales.second

  abbrev M : ℕ → ℤ
  M = scales.third

  -- how far they are apart
  abbrev apart : ℕ → ℤ
  apart f = pos 1 *ℤ M f +ℤ negsuc 0 *ℤ Λ f

  -- where both are zero they are not
  both_zero : (f : ℕ) → f < s.gaps → m (gap_number f) ≃ whole (pos 0) → k (gap_number f) ≃ whole (pos 0) → apart f ≡ pos 0
  both_zero f h a b =
      ap₂ (λ (x y : ℤ). pos 1 *ℤ x +ℤ negsuc 0 *ℤ y)
      ((none_scale s scales.above p k d.feasible.fractions d.fractions scales.first_scaled scales.third_scaled f h).0 b)
      ((none_scale s scales.above p m c.feasible.fractions c.fractions scales.first_scaled scales.second_scaled f h).0 a)

  -- they balance each label alike
  no_flow : (i : ℕ) → i < s.labels → flow s.gaps (lefts s) (rights s) apart i ≡ pos 0
  no_flow i h =
      flow_lin s.gaps (lefts s) (rights s) (pos 1) (negsuc 0) M Λ i
      ∙ ap₂ (λ (x y : ℤ). pos 1 *ℤ x +ℤ negsuc 0 *ℤ y)
      (sym ((conditions_at s proper scales.above p k d scales.first_scaled scales.third_scaled).balance i h))
      (sym ((conditions_at s proper scales.above p m c scales.first_scaled scales.second_scaled).balance i h))
      ∙ ring ((pos 2 *ℤ (weights s i *ℤ (scales.first i -ℤ wants scales.N s i))) ∷ []) (search quotes depth 12) (search quotes depth 12) refl

  module _ (e : ℕ) (below : e < s.gaps) where
    -- at a label where the gap is alone, the others are not apart
    alone_apart : (i : ℕ) → Alone s p e i → apart e ≡ pos 0
    alone_apart i a =
        no_pass (eqb (lefts s e) i) (eqb (rights s e) i) (apart e)
        (⊎_elim (λ q. inl (eq-eqb (lefts s e) i q.0, ne_eqb (rights s e) i q.1)) (λ q. inr (eq-eqb (rights s e) i q.0, ne_eqb (lefts s e) i q.1)) a.once)
        (sym (pass_flow s.gaps (lefts s) (rights s) e below (apart e) i)
        ∙ sym (flow_local s.gaps (lefts s) (rights s) apart (λ f. ind (eqb e f) *ℤ apart e) i local)
        ∙ no_flow i a.inside)
      where
        at_e : (f : ℕ) (b : Bool) → eqb e f ≡ b → (b ≡ false → apart f ≡ pos 0) → apart f ≡ ind b *ℤ apart e
        at_e f true same other = ap apart (sym (eqb-true e f same)) ∙ ring (apart e ∷ []) (search quotes depth 12) (search quotes depth 12) refl
        at_e f false same other = other refl ∙ ring (apart e ∷ []) (search quotes depth 12) (search quotes depth 12) refl

        local : (f : ℕ) → f < s.gaps → (lefts s f ≡ i) ⊎ (rights s f ≡ i) → apart f ≡ ind (eqb e f) *ℤ apart e
        local f h ends =
            at_e f (eqb e f) refl
            (λ other.
            ⊎_elim (λ q. absurd (differ (sym other ∙ eq-eqb e f (sym q))))
            (λ rest.
            ⊎_elim (λ none. absurd (⊎_elim none.0 none.1 ends))
            (λ loose. both_zero f h (c.loose (gap_number f) h loose) (d.loose (gap_number f) h loose))
            rest)
            (a.idle f h))
          where
            differ : false ≡ true → ⊥
            differ z = let n : ◌≡◌ {A = ℕ} 0 1 = cc in omega arith

    -- the multiplier is decided
    pub decided_same : Decided s p e → m (gap_number e) ≃ k (gap_number e)
    decided_same q =
        (≃-scale scales.above (c.fractions (gap_number e) below) (d.fractions (gap_number e) below)
        (scales.second_scaled e below) (scales.third_scaled e below)
        ).1
        (apart_zero (Λ e) (M e) (ring (Λ e ∷ M e ∷ []) (search quotes depth 12) (search quotes depth 12) refl ∙ none))
      where
        none : apart e ≡ pos 0
        none =
            ⊎_elim (λ loose. both_zero e below (c.loose (gap_number e) below loose) (d.loose (gap_number e) below loose))
            (λ rest.
            ⊎_elim (λ self. both_zero e below (c.self (gap_number e) below self) (d.self (gap_number e) below self))
            (λ alone. ⊎_elim (alone_apart (lefts s e)) (alone_apart (rights s e)) alone)
            rest)
            q
