-- From whole numbers at a scale back to fractions:
-- a settled state that meets every gap is a placement with multipliers that satisfy the conditions,
-- and its forest is a set of marks.
use mathlib.Core.Path.{◌≡◌, refl, sym, ◌∙◌, ap, ap₂}
use mathlib.Core.Bool.{Bool, true, false, true≢false}
use mathlib.Core.List.{[], ◌∷◌}
use Prim.Native.Nat.{ℕ, ◌<◌}
use native.Mathlib.Omega.{arith}
use lib.IntN.{ℤ, pos, nat_abs, ◌+ℤ◌, ◌-ℤ◌, ◌*ℤ◌, *ℤ_comm, *ℤ-zero}
use lib.Signed.{◌≤ℤ◌, ◌<ℤ◌}
use lib.Dec.{eqb}
use borrow.Author.Tests.{eqb-true, eq-eqb}
use Rattle.exact.specs.declared.Fraction.{Fraction}
use Rattle.exact.specs.Fraction.{IsFraction, ◌≃◌, whole, Reduced}
use Rattle.algebra.proofs.Whole.{le_trans, le_of_eq, le_of_lt, *ℤ-above, *ℤ-nonneg, *ℤ-le_cancel, *ℤ-cancel, sub_nonneg}
use Rattle.algebra.proofs.Ring.{ring, quotes}
use Rattle.algebra.specs.Sum.{ind}
use Rattle.exact.proofs.Fractions.{AtScale, scale_resp}
use Rattle.ground.specs.declared.Label.{Label}
use Rattle.ground.specs.declared.GapNumber.{GapNumber}
use Rattle.least_move.specs.Sheet.{Sheet, Kind, at_least, exactly, ignored, Proper, label, gap_number}
use Rattle.least_move.specs.Placement.{Placement, Tight}
use Rattle.least_move.specs.Multipliers.{Multipliers, Lawful, Conditions}
use Rattle.least_move.specs.Marks.{Marks}
use Rattle.least_move.proofs.Scaled.{slack, Meets-at}
use Rattle.least_move.proofs.Bridge.{lefts, rights, weights, kinds, distances, Meets-all, Places-at, Multipliers-at, tight_back, meets_back, balance_scale, none_scale, some_scale}
use Rattle.least_move.specs.States.{flow, OnlyOn, Independent, Numbers, Sound, StateAt, PlacedAt}
use Rattle.least_move.proofs.Forest.{by_mark, independent_drop, pass_flow, no_ring}
use Rattle.least_move.specs.States

-- ---- a sheet's numbers

abbrev pub numbers_from : Sheet → Numbers
numbers_from s =
    record {
      n = s.labels;
      m = s.gaps;
      u = lefts s;
      v = rights s;
      kind = kinds s;
      w = weights s;
      d = λ i. s.wanted (label i);
      g = λ e. (s.gap (gap_number e)).distance;
    }

pub sound_proper : (s : Sheet) → Sound (numbers_from s) → Proper s
sound_proper s z =
    record {
      heavy = λ i. z.heavy i.0;
      left_in = λ e. z.left_in e.0;
      right_in = λ e. z.right_in e.0;
    }

-- ---- gaps of a label to itself

-- a load of 1 on such a gap brings nothing to any label, so that independent marks do not hold it
pub self_unmarked : {n m : ℕ} {u v : ℕ → ℕ} {F : ℕ → Bool} → Independent n m u v F → (k : ℕ) → k < m → u k ≡ v k → F k ≡ true → ⊥
self_unmarked {n} {m} {u} {v} {F} indep k l same marked =
    let one : ind (eqb k k) *ℤ pos 1 ≡ pos 0 = indep.nothing (λ e. ind (eqb k e) *ℤ pos 1) off flat k l in
    let sure : pos 1 ≡ pos 0 = ap (λ (b : Bool). ind b *ℤ pos 1) (sym (eq-eqb k k refl)) ∙ one in
    omega (arith, ap nat_abs sure)
  where
    off : OnlyOn m F (λ e. ind (eqb k e) *ℤ pos 1)
    off e h f =
        by_mark (eqb k e)
        (λ (t : eqb k e ≡ true). absurd (true≢false (sym marked ∙ ap F (eqb-true k e t) ∙ f)))
        (λ (t : eqb k e ≡ false). ap (λ (b : Bool). ind b *ℤ pos 1) t)

    flat : (i : ℕ) → i < n → flow m u v (λ e. ind (eqb k e) *ℤ pos 1) i ≡ pos 0
    flat i _ =
        pass_flow m u v k l (pos 1) i ∙ ap (λ (x : ℕ). ind (eqb (v k) i) *ℤ pos 1 -ℤ ind (eqb x i) *ℤ pos 1) same
        ∙ ring (ind (eqb (v k) i) ∷ []) (search quotes depth 12) (search quotes depth 12) refl

-- ---- the conditions and the marks

no_slack : (x g y : ℤ) → y ≡ x +ℤ g → y -ℤ x -ℤ g ≡ pos 0
no_slack x g y e = ap (λ t. t -ℤ x -ℤ g) e ∙ ring (x ∷ g ∷ []) (search quotes depth 12) (search quotes depth 12) refl

module _ (s : Sheet) (proper : Proper s) (F : ℕ → Bool) (indep : Independent s.labels s.gaps (lefts s) (rights s) F)
    (N : ℤ) (X Λ : ℕ → ℤ) (above : pos 0 <ℤ N) (st : StateAt (numbers_from s) F 0 0 N (pos 0) X Λ) (law : States.Lawful (numbers_from s) F Λ) (meets : Meets-all s N X)
    (p : Placement) (k : Multipliers) (at : (i : Label) → i.0 < s.labels → IsFraction (p i) × AtScale N (X i.0) (p i)) (loads : (e : GapNumber) → e.0 < s.gaps → IsFraction (k e) × AtScale N (Λ e.0) (k e)) where
  placed : Places-at s N X p
  placed i h = (at (label i) h).1

  carried : Multipliers-at s N Λ k
  carried e h = (loads (gap_number e) h).1

  places : (i : Label) → i.0 < s.labels → IsFraction (p i)
  places i h = (at i h).0

  fractions : (e : GapNumber) → e.0 < s.gaps → IsFraction (k e)
  fractions e h = (loads e h).0

  -- an unmarked gap carries nothing, and a marked one is tight
  unloaded : (e : ℕ) → e < s.gaps → F e ≡ false → k (gap_number e) ≃ whole (pos 0)
  unloaded e h f = (none_scale s above p k places fractions placed carried e h).1 (st.off e h f)

  held : (e : ℕ) → e < s.gaps → F e ≡ true → Tight p (s.gap (gap_number e))
  held e h t = tight_back s proper above p places placed e h (no_slack (X (lefts s e)) (distances N s e) (X (rights s e)) (st.tight e h t))

  lawful_back : (e : ℕ) → e < s.gaps → (a : Kind) → kinds s e ≡ a → Lawful a (k (gap_number e))
  lawful_back e h at_least q =
      (some_scale s above p k places fractions placed carried e h).1
      (by_mark (F e) (λ (t : F e ≡ true). law.carries e h t q) (λ (f : F e ≡ false). le_of_eq (sym (st.off e h f))))
  lawful_back e h exactly q = tt
  lawful_back e h ignored q = by_mark (F e) (λ (t : F e ≡ true). absurd (law.asked e h t q)) (unloaded e h)

  balanced : (i : ℕ) → i < s.labels → pos 2 *ℤ (weights s i *ℤ (X i -ℤ N *ℤ s.wanted (label i))) ≡ flow s.gaps (lefts s) (rights s) Λ i
  balanced i h =
      st.balance i h
      ∙ ring (flow s.gaps (lefts s) (rights s) Λ i ∷ ind (eqb 0 i) ∷ []) (search quotes depth 12) (search quotes depth 12) refl

  pub conditions_of : Conditions s p k
  conditions_of =
      record {
        feasible = record { fractions = places; meets = λ e h. meets_back s proper above p places placed e.0 h (meets e.0 h) };
        fractions = fractions;
        lawful = λ e h. lawful_back e.0 h (s.gap e).kind refl;
        loose = λ e h loose. by_mark (F e.0) (λ (t : F e.0 ≡ true). absurd (loose (held e.0 h t))) (unloaded e.0 h);
        balance = λ i h. (balance_scale s above p k places fractions placed carried i.0 h).1 (balanced i.0 h);
        self =
            λ e h q.
            by_mark (F e.0) (λ (t : F e.0 ≡ true). absurd (self_unmarked indep e.0 h (ap (λ (i : Label). i.0) q) t)) (unloaded e.0 h);
      }

  pub marks_of_lem : (marked : GapNumber → Bool) → ((e : ℕ) → e < s.gaps → F e ≡ marked (gap_number e)) → Marks s p k marked
  marks_of_lem marked same =
      record {
        tight = λ e h t. held e.0 h (same e.0 h ∙ t);
        no_ring = no_ring s marked (independent_drop (λ e. marked (gap_number e)) (λ e h t. same e h ∙ t) indep);
        zero = λ e h f. unloaded e.0 h (same e.0 h ∙ f);
      }

-- ---- places as numerators and denominators

-- a gap that holds by crossed products has slack at the scale
crossed : (N g xa na da xb nb db : ℤ) → xa *ℤ da ≡ N *ℤ na → xb *ℤ db ≡ N *ℤ nb → da *ℤ db *ℤ (xb -ℤ xa -ℤ N *ℤ g) ≡ N *ℤ (nb *ℤ da -ℤ (na *ℤ db +ℤ g *ℤ (da *ℤ db)))
crossed N g xa na da xb nb db pa pb =
    ring (N ∷ g ∷ xa ∷ da ∷ xb ∷ db ∷ []) (search quotes depth 12) (search quotes depth 12) refl
    ∙ ap₂ (λ x y. da *ℤ y -ℤ db *ℤ x -ℤ N *ℤ g *ℤ (da *ℤ db)) pa pb
    ∙ ring (N ∷ g ∷ na ∷ da ∷ nb ∷ db ∷ []) (search quotes depth 12) (search quotes depth 12) refl

slack_least : (N g xa na da xb nb db : ℤ) → pos 0 <ℤ N → pos 0 <ℤ da → pos 0 <ℤ db → xa *ℤ da ≡ N *ℤ na → xb *ℤ db ≡ N *ℤ nb → (na *ℤ db +ℤ g *ℤ (da *ℤ db)) ≤ℤ (nb *ℤ da) → pos 0 ≤ℤ (xb -ℤ xa -ℤ N *ℤ g)
slack_least N g xa na da xb nb db h_n ha hb pa pb h =
    *ℤ-le_cancel {c = da *ℤ db} (*ℤ-above ha hb)
    (le_trans (le_of_eq (*ℤ-zero (da *ℤ db))) (le_trans (*ℤ-nonneg (le_of_lt h_n) (sub_nonneg h)) (le_of_eq (sym (crossed N g xa na da xb nb db pa pb)))))

slack_none : (N g xa na da xb nb db : ℤ) → pos 0 <ℤ da → pos 0 <ℤ db → xa *ℤ da ≡ N *ℤ na → xb *ℤ db ≡ N *ℤ nb → na *ℤ db +ℤ g *ℤ (da *ℤ db) ≡ nb *ℤ da → xb -ℤ xa -ℤ N *ℤ g ≡ pos 0
slack_none N g xa na da xb nb db ha hb pa pb h =
    *ℤ-cancel {c = da *ℤ db} (*ℤ-above ha hb)
    (crossed N g xa na da xb nb db pa pb ∙ ap (λ x. N *ℤ (nb *ℤ da -ℤ x)) h
    ∙ ring (N ∷ nb ∷ da ∷ db ∷ []) (search quotes depth 12) (search quotes depth 12) refl)

-- a gap that holds for the places num i / den i is met at the scale
pub meets_of_numbers : (z : Numbers) (N : ℤ) (X num den : ℕ → ℤ) → Sound z → pos 0 <ℤ N → ((i : ℕ) → i < z.n → pos 0 <ℤ den i) → PlacedAt z N X num den → (e : ℕ) → e < z.m → (z.kind e ≡ at_least → (num (z.u e) *ℤ den (z.v e) +ℤ z.g e *ℤ (den (z.u e) *ℤ den (z.v e))) ≤ℤ (num (z.v e) *ℤ den (z.u e))) → (z.kind e ≡ exactly → num (z.u e) *ℤ den (z.v e) +ℤ z.g e *ℤ (den (z.u e) *ℤ den (z.v e)) ≡ num (z.v e) *ℤ den (z.u e)) → Meets-at (z.kind e) (slack z.u z.v (λ k. N *ℤ z.g k) X e)
meets_of_numbers z N X num den ok h_n above placed e h least same = go (z.kind e) refl
  where
    a : ℕ
    a = z.u e

    b : ℕ
    b = z.v e

    la : z.u e < z.n
    la = ok.left_in e h

    lb : z.v e < z.n
    lb = ok.right_in e h

    go : (k : Kind) → z.kind e ≡ k → Meets-at k (slack z.u z.v (λ k. N *ℤ z.g k) X e)
    go at_least q = slack_least N (z.g e) (X a) (num a) (den a) (X b) (num b) (den b) h_n (above a la) (above b lb) (placed a la) (placed b lb) (least q)
    go exactly q = slack_none N (z.g e) (X a) (num a) (den a) (X b) (num b) (den b) (above a la) (above b lb) (placed a la) (placed b lb) (same q)
    go ignored q = tt

-- a place as a fraction at the scale, as it is and in lowest terms
pub placed_scale : (N x num den : ℤ) → x *ℤ den ≡ N *ℤ num → AtScale N x (record { num = num; den = den })
placed_scale N x num den e = record { cross = e ∙ *ℤ_comm N num }

pub reduced_scale : (N x num den : ℤ) (r : Fraction) → pos 0 <ℤ den → x *ℤ den ≡ N *ℤ num → Reduced (record { num = num; den = den }) r → IsFraction r × AtScale N x r
reduced_scale N x num den r above e same = (same.lowest.above, scale_resp r above (sym same.same) (placed_scale N x num den e))
