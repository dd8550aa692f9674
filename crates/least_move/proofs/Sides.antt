-- An outer step in whole numbers: what is known of the blocks at the two ends of a pushing gap,
-- and what each advance comes to.
-- Labels and gaps are plain numbers: gap e goes from u e to v e over the distance g e;
-- label i wants d i and weighs w i; F marks gaps.
use mathlib.Core.Path.{◌≡◌, refl, sym, ◌∙◌, ap, ap₂}
use mathlib.Core.Logic.{◌≢◌, ⊎_elim}
use mathlib.Core.Bool.{Bool, true, false, true≢false}
use mathlib.Core.List.{List, [], ◌∷◌}
use Prim.Native.Nat.{ℕ, ◌<◌}
use native.Mathlib.Omega.{arith}
use lib.IntN.{ℤ, pos, negsuc, ◌+ℤ◌, ◌-ℤ◌, ◌*ℤ◌, *ℤ-zero, zero-*ℤ}
use lib.Signed.{◌≤ℤ◌, ◌<ℤ◌}
use lib.Dec.{eqb}
use borrow.Author.Tests.{eqb-true, eqb-false}
use Rattle.algebra.specs.Sum.{sum, ind}
use Rattle.algebra.proofs.Whole.{le_trans, le_of_eq, le_of_lt, lt_of_le_of_lt, *ℤ-nonneg, *ℤ-above, *ℤ-le, *ℤ-lt, *ℤ-lt_cancel, sub_above}
use Rattle.algebra.proofs.Ring.{ring, quotes, lt_given, lt_goal, le_by}
use Rattle.algebra.proofs.Sum.{sum_cong, sum_*}
use Rattle.least_move.specs.Sheet.{at_least, exactly, ignored}
use Rattle.least_move.specs.States.{flow, OnlyOn, Independent, push, viol, dual, Numbers, Sound, StateAt, cost_at, PlacedAt, Settled, Pushed, Reached, Without, With, Pushes}
use Rattle.least_move.proofs.Flow.{flow_lin}
use Rattle.least_move.proofs.Forest.{by_mark, multipliers_unique}
use Rattle.least_move.proofs.Progress.{work, state_drop, state_unpushed, dual_cost, progress_grows, progress_grows_lt, places_unique}
use Rattle.least_move.proofs.Blocks.{with_push, pick_in, not_label, not-true, restrict_flow, state_marked}
use Rattle.least_move.proofs.Advance.{Drift, Rate, state_along, rate_lawful, rate_spent, rate_way}

-- The block S of a root, of weight W: label i of it stands at num i / W, but for a force on the block;
-- r and q are the loads that eliminate what the labels lack of their balance, and their shares of the block's weight,
-- towards the root.
pub record BlockSide (z : Numbers) (F : ℕ → Bool) (root : ℕ) (S : ℕ → Bool) (W : ℤ) (num share r q : ℕ → ℤ) : Type 0 where
  pub root_in : S root ≡ true
  pub above : pos 0 <ℤ W
  pub inside : (e : ℕ) → e < z.m → F e ≡ true → S (z.u e) ≡ S (z.v e)
  pub r_only : OnlyOn z.m F r
  pub q_only : OnlyOn z.m F q
  pub r_flow : (i : ℕ) → i < z.n → flow z.m z.u z.v r i ≡ ind (S i) *ℤ (pos 2 *ℤ (z.w i *ℤ (num i -ℤ z.d i *ℤ W)))
  pub q_flow : (i : ℕ) → i < z.n → flow z.m z.u z.v q i ≡ ind (S i) *ℤ share i -ℤ ind (eqb root i) *ℤ W
  pub mean : (N : ℤ) (X : ℕ → ℤ) (f : ℤ) → ((e : ℕ) → e < z.m → F e ≡ true → X (z.v e) ≡ X (z.u e) +ℤ N *ℤ z.g e) → sum z.n (λ i. ind (S i) *ℤ (pos 2 *ℤ (z.w i *ℤ (X i -ℤ N *ℤ z.d i)))) ≡ f → (i : ℕ) → i < z.n → S i ≡ true → pos 2 *ℤ (W *ℤ X i) ≡ pos 2 *ℤ (N *ℤ num i) +ℤ f

-- ---- plain numbers

lt_both : {x y x' y' : ℤ} → x ≡ x' → y ≡ y' → x' <ℤ y' → x <ℤ y
lt_both p q l = rw (p, q) l

le_both : {x y x' y' : ℤ} → x ≡ x' → y ≡ y' → x' ≤ℤ y' → x ≤ℤ y
le_both p q l = rw (p, q) l

-- a violation by crossed products, at the scale N
crossed : (N h xa na da xb nb db : ℤ) → pos 0 <ℤ N → pos 0 <ℤ da → pos 0 <ℤ db → xa *ℤ da ≡ N *ℤ na → xb *ℤ db ≡ N *ℤ nb → (nb *ℤ da) <ℤ (na *ℤ db +ℤ h *ℤ (da *ℤ db)) → pos 0 <ℤ (xa +ℤ N *ℤ h -ℤ xb)
crossed N h xa na da xb nb db h_n ha hb pa pb vi =
    sub_above {a = xb} {b = xa +ℤ N *ℤ h}
    (*ℤ-lt_cancel {c = da *ℤ db} (*ℤ-above ha hb)
    (lt_both
    (ring (da ∷ db ∷ xb ∷ []) (search quotes depth 12) (search quotes depth 12) refl ∙ ap (λ x. x *ℤ da) pb ∙ ring (N ∷ nb ∷ da ∷ []) (search quotes depth 12) (search quotes depth 12) refl)
    (ring (N ∷ h ∷ da ∷ db ∷ xa ∷ []) (search quotes depth 12) (search quotes depth 12) refl ∙ ap (λ x. x *ℤ db +ℤ N *ℤ (h *ℤ (da *ℤ db))) pa ∙ ring (N ∷ h ∷ na ∷ da ∷ db ∷ []) (search quotes depth 12) (search quotes depth 12) refl)
    (*ℤ-lt h_n vi)))

-- the start of an outer step at a gap that does not hold
pub push_start : (z : Numbers) (F : ℕ → Bool) (a b : ℕ) (h : ℤ) (num den : ℕ → ℤ) → a < z.n → b < z.n → pos 0 <ℤ den a → pos 0 <ℤ den b → Settled z F num den → (num b *ℤ den a) <ℤ (num a *ℤ den b +ℤ h *ℤ (den a *ℤ den b)) → Pushed z F a b h num den
push_start z F a b h num den la lb pa pb st vi =
    record {
      N = st.N;
      s = pos 0;
      X = st.X;
      Λ = st.Λ;
      X₀ = st.X;
      above = st.above;
      forward = le_of_eq refl;
      state = state_unpushed a b st.state;
      lawful = st.lawful;
      short = crossed st.N h (st.X a) (num a) (den a) (st.X b) (num b) (den b) st.above pa pb (st.places a la) (st.places b lb) vi;
      origin = st.places;
      grown = le_of_eq (sym (dual_cost z.n z.w (λ i. st.N *ℤ z.d i) a b (st.N *ℤ h) (pos 0) st.X (zero-*ℤ (viol a b (st.N *ℤ h) st.X))));
    }

-- ---- a state moved along a drift

-- the cost of scaled places
pub scaled_cost : (z : Numbers) (k N : ℤ) (X X' : ℕ → ℤ) → ((i : ℕ) → i < z.n → X' i ≡ k *ℤ X i) → cost_at z (k *ℤ N) X' ≡ k *ℤ k *ℤ cost_at z N X
scaled_cost z k N X X' same =
    sum_cong z.n (λ i. z.w i *ℤ ((X' i -ℤ k *ℤ N *ℤ z.d i) *ℤ (X' i -ℤ k *ℤ N *ℤ z.d i))) (λ i. k *ℤ k *ℤ (z.w i *ℤ ((X i -ℤ N *ℤ z.d i) *ℤ (X i -ℤ N *ℤ z.d i))))
    (λ i l. ap (λ x. z.w i *ℤ ((x -ℤ k *ℤ N *ℤ z.d i) *ℤ (x -ℤ k *ℤ N *ℤ z.d i))) (same i l) ∙ ring (k ∷ N ∷ X i ∷ z.w i ∷ z.d i ∷ []) (search quotes depth 12) (search quotes depth 12) refl)
    ∙ sum_* z.n (k *ℤ k) (λ i. z.w i *ℤ ((X i -ℤ N *ℤ z.d i) *ℤ (X i -ℤ N *ℤ z.d i)))

-- a mark that is left was there before
kept_marks : {m : ℕ} {F : ℕ → Bool} {k : ℕ} {F' : ℕ → Bool} → Without m F k F' → (e : ℕ) → e < m → F' e ≡ true → F e ≡ true
kept_marks {F = F} {k = k} {F' = F'} wo e l t =
    by_mark (eqb e k)
    (λ (q : eqb e k ≡ true). absurd (true≢false (sym t ∙ ap F' (eqb-true e k q) ∙ wo.gone)))
    (λ (q : eqb e k ≡ false). sym (wo.others e l (eqb-false e k q)) ∙ t)

-- what the marks that are left carry, where gap k carries nothing
only_kept : {m : ℕ} {F : ℕ → Bool} {k : ℕ} {F' : ℕ → Bool} {Λ : ℕ → ℤ} → Without m F k F' → OnlyOn m F Λ → Λ k ≡ pos 0 → OnlyOn m F' Λ
only_kept {k = k} {Λ = Λ} wo off none e l f =
    by_mark (eqb e k)
    (λ (q : eqb e k ≡ true). ap Λ (eqb-true e k q) ∙ none)
    (λ (q : eqb e k ≡ false). off e l (sym (wo.others e l (eqb-false e k q)) ∙ f))

-- what a pushing gap carries once it is marked, and that it then holds
record Taken (z : Numbers) (c a b : ℕ) (s N : ℤ) (X : ℕ → ℤ) : Type 0 where
  load : ℤ
  brings : (i : ℕ) → i < z.n → ind (eqb (z.v c) i) *ℤ load -ℤ ind (eqb (z.u c) i) *ℤ load ≡ push a b s i
  holds : X (z.v c) ≡ X (z.u c) +ℤ N *ℤ z.g c
  carries : z.kind c ≡ at_least → pos 0 ≤ℤ load
  asked : z.kind c ≢ ignored

met : (x y t : ℤ) → x +ℤ t -ℤ y ≡ pos 0 → y ≡ x +ℤ t
met x y t e = ring (x ∷ y ∷ t ∷ []) (search quotes depth 12) (search quotes depth 12) refl ∙ ap (λ o. x +ℤ t -ℤ o) e ∙ ring (x ∷ t ∷ []) (search quotes depth 12) (search quotes depth 12) refl

met_back : (x y N g : ℤ) → x +ℤ N *ℤ (pos 0 -ℤ g) -ℤ y ≡ pos 0 → x ≡ y +ℤ N *ℤ g
met_back x y N g e = ring (x ∷ y ∷ N ∷ g ∷ []) (search quotes depth 12) (search quotes depth 12) refl ∙ ap (λ o. o +ℤ (y +ℤ N *ℤ g)) e ∙ ring (y ∷ N ∷ g ∷ []) (search quotes depth 12) (search quotes depth 12) refl

at_least≢exactly : at_least ≢ exactly
at_least≢exactly e = let q : ◌≡◌ {A = ℕ} 0 1 = cc in omega arith

exactly≢ignored : exactly ≢ ignored
exactly≢ignored e = let q : ◌≡◌ {A = ℕ} 0 1 = cc in omega arith

taken : (z : Numbers) (c a b : ℕ) (h s N : ℤ) (X : ℕ → ℤ) → Pushes z c a b h → pos 0 ≤ℤ s → viol a b (N *ℤ h) X ≡ pos 0 → Taken z c a b s N X
taken z c a b h s N X pushes hs e = ⊎_elim (λ t. onward t.0 t.1 t.2 t.3) (λ t. back t.0 t.1 t.2 t.3) pushes
  where
    onward : z.u c ≡ a → z.v c ≡ b → z.g c ≡ h → z.kind c ≢ ignored → Taken z c a b s N X
    onward eu ev eg asked =
        record {
          load = s;
          brings = λ i _. ap₂ (λ (x y : ℕ). ind (eqb x i) *ℤ s -ℤ ind (eqb y i) *ℤ s) ev eu ∙ ring (s ∷ ind (eqb b i) ∷ ind (eqb a i) ∷ []) (search quotes depth 12) (search quotes depth 12) refl;
          holds = ap X ev ∙ met (X a) (X b) (N *ℤ h) e ∙ ap₂ (λ (x : ℕ) (y : ℤ). X x +ℤ N *ℤ y) (sym eu) (sym eg);
          carries = λ _. hs;
          asked = asked;
        }

    back : z.v c ≡ a → z.u c ≡ b → pos 0 -ℤ z.g c ≡ h → z.kind c ≡ exactly → Taken z c a b s N X
    back ev eu eg ek =
        record {
          load = pos 0 -ℤ s;
          brings = λ i _. ap₂ (λ (x y : ℕ). ind (eqb x i) *ℤ (pos 0 -ℤ s) -ℤ ind (eqb y i) *ℤ (pos 0 -ℤ s)) ev eu ∙ ring (s ∷ ind (eqb b i) ∷ ind (eqb a i) ∷ []) (search quotes depth 12) (search quotes depth 12) refl;
          holds = ap X ev ∙ met_back (X a) (X b) N (z.g c) (ap (λ y. X a +ℤ N *ℤ y -ℤ X b) eg ∙ e) ∙ ap (λ (x : ℕ). X x +ℤ N *ℤ z.g c) (sym eu);
          carries = λ k. absurd (at_least≢exactly (sym k ∙ ek));
          asked = λ k. exactly≢ignored (sym ek ∙ k);
        }

module _ (z : Numbers) (F : ℕ → Bool) (a b : ℕ) (h : ℤ) (num den : ℕ → ℤ) (la : a < z.n) (lb : b < z.n) (ok : Sound z) (p : Pushed z F a b h num den) {c : ℤ} {d_x dΛ : ℕ → ℤ} (dr : Drift z.n z.m z.u z.v z.w F a b c d_x dΛ) (hc : pos 0 <ℤ c) (P R : ℤ) (h_p : pos 0 <ℤ P) where
  -- the scale, and how far the state moves, for the advance that R / P names
  abbrev scale : ℤ
  scale = c *ℤ P

  abbrev way : ℤ
  way = p.N *ℤ R -ℤ P *ℤ p.s

  abbrev N' : ℤ
  N' = scale *ℤ p.N

  abbrev force_at : ℤ → ℤ
  force_at t = scale *ℤ p.s +ℤ t *ℤ c

  abbrev places_at : ℤ → ℕ → ℤ
  places_at t i = scale *ℤ p.X i +ℤ t *ℤ d_x i

  abbrev loads_at : ℤ → ℕ → ℤ
  loads_at t e = scale *ℤ p.Λ e +ℤ t *ℤ dΛ e

  abbrev start : ℕ → ℤ
  start i = scale *ℤ p.X₀ i

  hk : pos 0 <ℤ scale
  hk = *ℤ-above hc h_p

  moved : (t : ℤ) → StateAt z F a b N' (force_at t) (places_at t) (loads_at t)
  moved t =
      state_along scale t
      (λ i _. ring (scale ∷ p.N ∷ z.d i ∷ []) (search quotes depth 12) (search quotes depth 12) refl)
      (λ e _. ring (scale ∷ p.N ∷ z.g e ∷ []) (search quotes depth 12) (search quotes depth 12) refl)
      p.state dr

  origin' : PlacedAt z N' start num den
  origin' i l =
      ring (scale ∷ p.X₀ i ∷ den i ∷ []) (search quotes depth 12) (search quotes depth 12) refl ∙ ap (λ x. scale *ℤ x) (p.origin i l) ∙ ring (scale ∷ p.N ∷ num i ∷ []) (search quotes depth 12) (search quotes depth 12) refl

  abbrev dual_at : ℤ → ℤ
  dual_at t = dual z.n z.w (λ i. N' *ℤ z.d i) a b (N' *ℤ h) (force_at t) (places_at t)

  abbrev dual₀ : ℤ
  dual₀ = dual z.n z.w (λ i. p.N *ℤ z.d i) a b (p.N *ℤ h) p.s p.X

  scaled_dual : dual_at (pos 0) ≡ scale *ℤ scale *ℤ dual₀
  scaled_dual =
      ap (λ x. pos 2 *ℤ x +ℤ pos 2 *ℤ force_at (pos 0) *ℤ viol a b (N' *ℤ h) (places_at (pos 0)))
      (scaled_cost z scale p.N p.X (places_at (pos 0)) (λ i _. ring (scale ∷ p.X i ∷ d_x i ∷ []) (search quotes depth 12) (search quotes depth 12) refl))
      ∙ ring (scale ∷ c ∷ p.N ∷ h ∷ p.s ∷ p.X a ∷ p.X b ∷ d_x a ∷ d_x b ∷ cost_at z p.N p.X ∷ []) (search quotes depth 12) (search quotes depth 12) refl

  grown_before : (pos 2 *ℤ cost_at z N' start) ≤ℤ dual_at (pos 0)
  grown_before =
      le_both
      (ap (λ x. pos 2 *ℤ x) (scaled_cost z scale p.N p.X₀ start (λ _ _. refl)) ∙ ring (scale ∷ cost_at z p.N p.X₀ ∷ []) (search quotes depth 12) (search quotes depth 12) refl)
      scaled_dual (*ℤ-le (*ℤ-nonneg (le_of_lt hk) (le_of_lt hk)) p.grown)

  short_before : pos 0 <ℤ viol a b (N' *ℤ h) (places_at (pos 0))
  short_before = lt_both refl (ring (scale ∷ p.N ∷ h ∷ p.X a ∷ p.X b ∷ d_x a ∷ d_x b ∷ []) (search quotes depth 12) (search quotes depth 12) refl) (*ℤ-above hk p.short)

  force_grows : pos 0 ≤ℤ way → force_at (pos 0) ≤ℤ force_at way
  force_grows l = le_by (*ℤ-nonneg l (le_of_lt hc)) (ring (scale ∷ p.s ∷ way ∷ c ∷ []) (search quotes depth 12) (search quotes depth 12) refl)

  force_above : pos 0 ≤ℤ way → pos 0 ≤ℤ force_at way
  force_above l = le_trans (le_both refl (ring (scale ∷ p.s ∷ c ∷ []) (search quotes depth 12) (search quotes depth 12) refl) (*ℤ-nonneg (le_of_lt hk) p.forward)) (force_grows l)

  -- a marked gap that carries nothing any more is dropped
  dropped : pos 0 ≤ℤ way → pos 0 <ℤ viol a b (N' *ℤ h) (places_at way) → ((e : ℕ) → e < z.m → F e ≡ true → z.kind e ≡ at_least → pos 0 ≤ℤ loads_at way e) → (k : ℕ) → loads_at way k ≡ pos 0 → (F' : ℕ → Bool) → Without z.m F k F' → Pushed z F' a b h num den
  dropped hτ short lawful k none F' wo =
      record {
        N = N';
        s = force_at way;
        X = places_at way;
        Λ = loads_at way;
        X₀ = start;
        above = *ℤ-above hk p.above;
        forward = force_above hτ;
        state = state_drop F' (kept_marks wo) (only_kept wo (moved way).off none) (moved way);
        lawful = record { carries = λ e l t. lawful e l (kept_marks wo e l t); asked = λ e l t. p.lawful.asked e l (kept_marks wo e l t) };
        short = short;
        origin = origin';
        grown =
            le_trans grown_before
            (progress_grows ok.left_in ok.right_in la lb (moved (pos 0)) (moved way) (N' *ℤ h) (force_grows hτ) (le_of_lt short_before) (le_of_lt short));
      }

  force_grows_lt : pos 0 <ℤ way → force_at (pos 0) <ℤ force_at way
  force_grows_lt l =
      let ρ : List ℤ = (scale *ℤ p.s) ∷ (way *ℤ c) ∷ c ∷ [] in
      lt_goal ρ (search quotes depth 12) (search quotes depth 12) (omega (arith, lt_given ρ (search quotes depth 12) (search quotes depth 12) (*ℤ-above l hc)))

  -- the pushing gap, tight at last, is marked
  marked : pos 0 <ℤ way → viol a b (N' *ℤ h) (places_at way) ≡ pos 0 → ((e : ℕ) → e < z.m → F e ≡ true → z.kind e ≡ at_least → pos 0 ≤ℤ loads_at way e) → (k : ℕ) → k < z.m → Pushes z k a b h → F k ≡ false → (F' : ℕ → Bool) → With z.m F k F' → Reached z F' num den
  marked hτ tight lawful k lk pushes unmarked F' wi =
      record {
        N = N';
        X = places_at way;
        Λ = with_push k t.load (loads_at way);
        X₀ = start;
        above = *ℤ-above hk p.above;
        state = state_marked F' k t.load lk wi.there wi.others t.holds t.brings (moved way);
        lawful = record { carries = carries'; asked = asked' };
        origin = origin';
        more =
            *ℤ-lt_cancel {c = pos 2} (record { lt = tt })
            (lt_of_le_of_lt grown_before
            (lt_both refl (sym spent) (progress_grows_lt ok.left_in ok.right_in la lb (moved (pos 0)) (moved way) (N' *ℤ h) (force_grows_lt hτ) short_before (le_of_eq (sym tight)))));
      }
    where
      t : Taken z k a b (force_at way) N' (places_at way)
      t = taken z k a b h (force_at way) N' (places_at way) pushes (force_above (le_of_lt hτ)) tight

      spent : dual_at way ≡ pos 2 *ℤ cost_at z N' (places_at way)
      spent =
          dual_cost z.n z.w (λ i. N' *ℤ z.d i) a b (N' *ℤ h) (force_at way) (places_at way)
          (ap (λ x. force_at way *ℤ x) tight ∙ *ℤ-zero (force_at way))

      carries' : (e : ℕ) → e < z.m → F' e ≡ true → z.kind e ≡ at_least → pos 0 ≤ℤ with_push k t.load (loads_at way) e
      carries' e l m ka =
          by_mark (eqb k e)
          (λ (q : eqb k e ≡ true). le_both refl
          (ap₂ (λ (x : ℤ) (y : Bool). pos 1 *ℤ x +ℤ pos 1 *ℤ (ind y *ℤ t.load)) ((moved way).off e l (ap F (sym (eqb-true k e q)) ∙ unmarked)) q ∙ ring (t.load ∷ []) (search quotes depth 12) (search quotes depth 12) refl)
          (t.carries (ap z.kind (eqb-true k e q) ∙ ka)))
          (λ (q : eqb k e ≡ false). le_both refl
          (ap (λ (y : Bool). pos 1 *ℤ loads_at way e +ℤ pos 1 *ℤ (ind y *ℤ t.load)) q ∙ ring (loads_at way e ∷ t.load ∷ []) (search quotes depth 12) (search quotes depth 12) refl)
          (lawful e l (sym (wi.others e l (λ o. eqb-false k e q (sym o))) ∙ m) ka))

      asked' : (e : ℕ) → e < z.m → F' e ≡ true → z.kind e ≢ ignored
      asked' e l m =
          by_mark (eqb e k)
          (λ (q : eqb e k ≡ true) (i : z.kind e ≡ ignored). t.asked (ap z.kind (sym (eqb-true e k q)) ∙ i))
          (λ (q : eqb e k ≡ false). p.lawful.asked e l (sym (wi.others e l (eqb-false e k q)) ∙ m))

-- ---- the loads of a block

-- a label's balance, with the block's mean in place of the label's own place
load_term : (N s W w x d at f fl o : ℤ) → pos 2 *ℤ (W *ℤ x) ≡ pos 2 *ℤ (N *ℤ at) +ℤ f → pos 2 *ℤ (w *ℤ (x -ℤ N *ℤ d)) ≡ fl +ℤ s *ℤ o → W *ℤ fl ≡ N *ℤ (pos 2 *ℤ (w *ℤ (at -ℤ d *ℤ W))) +ℤ (f *ℤ w -ℤ W *ℤ (s *ℤ o))
load_term N s W w x d at f fl o mean bal =
    ring (W ∷ fl ∷ s ∷ o ∷ []) (search quotes depth 12) (search quotes depth 12) refl ∙ ap (λ y. W *ℤ y -ℤ W *ℤ (s *ℤ o)) (sym bal)
    ∙ ring (N ∷ s ∷ W ∷ w ∷ x ∷ d ∷ o ∷ []) (search quotes depth 12) (search quotes depth 12) refl ∙ ap (λ y. w *ℤ y -ℤ pos 2 *ℤ (w *ℤ (W *ℤ (N *ℤ d))) -ℤ W *ℤ (s *ℤ o)) mean
    ∙ ring (N ∷ s ∷ W ∷ w ∷ d ∷ at ∷ f ∷ o ∷ []) (search quotes depth 12) (search quotes depth 12) refl

-- a label of the block, and one that is not, in the flows of the two loads that are compared
flow_in : (W N β fl sur sh o : ℤ) → W *ℤ fl ≡ N *ℤ sur +ℤ β *ℤ (sh -ℤ o *ℤ W) → W *ℤ (pos 1 *ℤ fl) +ℤ pos 0 *ℤ (pos 1 *ℤ fl) ≡ N *ℤ (pos 1 *ℤ sur) +ℤ β *ℤ (pos 1 *ℤ sh -ℤ o *ℤ W)
flow_in W N β fl sur sh o e = ring (W ∷ fl ∷ []) (search quotes depth 12) (search quotes depth 12) refl ∙ e ∙ ring (W ∷ N ∷ β ∷ sur ∷ sh ∷ o ∷ []) (search quotes depth 12) (search quotes depth 12) refl

flow_out : (W N β fl sur sh : ℤ) → W *ℤ (pos 0 *ℤ fl) +ℤ pos 0 *ℤ (pos 0 *ℤ fl) ≡ N *ℤ (pos 0 *ℤ sur) +ℤ β *ℤ (pos 0 *ℤ sh -ℤ pos 0 *ℤ W)
flow_out W N β fl sur sh = ring (W ∷ N ∷ β ∷ fl ∷ sur ∷ sh ∷ []) (search quotes depth 12) (search quotes depth 12) refl

module _ (z : Numbers) (F : ℕ → Bool) (a b : ℕ) (h : ℤ) (num den : ℕ → ℤ) (la : a < z.n) (lb : b < z.n) (ok : Sound z) (indep : Independent z.n z.m z.u z.v F) (p : Pushed z F a b h num den) {root : ℕ} {S : ℕ → Bool} {W : ℤ} {at share r q : ℕ → ℤ} (side : BlockSide z F root S W at share r q) where
  -- the push is all the force on a block
  force : sum z.n (λ i. ind (S i) *ℤ (pos 2 *ℤ (z.w i *ℤ (p.X i -ℤ p.N *ℤ z.d i)))) ≡ p.s *ℤ (ind (S b) -ℤ ind (S a))
  force =
      work {F = F} (λ i. pos 2 *ℤ (z.w i *ℤ (p.X i -ℤ p.N *ℤ z.d i))) p.Λ (λ i. ind (S i)) a b p.s ok.left_in ok.right_in la lb p.state.off
      (λ e l t. ap (λ (x : Bool). p.Λ e *ℤ (ind (S (z.v e)) -ℤ ind x)) (side.inside e l t) ∙ ring (p.Λ e ∷ ind (S (z.v e)) ∷ []) (search quotes depth 12) (search quotes depth 12) refl)
      p.state.balance

  stands : (i : ℕ) → i < z.n → S i ≡ true → pos 2 *ℤ (W *ℤ p.X i) ≡ pos 2 *ℤ (p.N *ℤ at i) +ℤ p.s *ℤ (ind (S b) -ℤ ind (S a))
  stands = side.mean p.N p.X (p.s *ℤ (ind (S b) -ℤ ind (S a))) p.state.tight force

  abbrev own : ℕ → ℤ
  own e = ind (S (z.u e)) *ℤ p.Λ e

  abbrev surplus : ℕ → ℤ
  surplus i = pos 2 *ℤ (z.w i *ℤ (at i -ℤ z.d i *ℤ W))

  -- what a gap of the block carries, where the push acts on the labels by β times their shares
  loads : (β : ℤ) → ((i : ℕ) → i < z.n → S i ≡ true → p.s *ℤ (ind (S b) -ℤ ind (S a)) *ℤ z.w i -ℤ W *ℤ push a b p.s i ≡ β *ℤ (share i -ℤ ind (eqb root i) *ℤ W)) → (e : ℕ) → e < z.m → S (z.u e) ≡ true → W *ℤ p.Λ e ≡ p.N *ℤ r e +ℤ β *ℤ q e
  loads β acts e l t =
      sym (ap (λ (x : Bool). W *ℤ (ind x *ℤ p.Λ e) +ℤ pos 0 *ℤ (ind x *ℤ p.Λ e)) t ∙ ring (W ∷ p.Λ e ∷ []) (search quotes depth 12) (search quotes depth 12) refl)
      ∙ multipliers_unique indep (λ k. W *ℤ own k +ℤ pos 0 *ℤ own k) (λ k. p.N *ℤ r k +ℤ β *ℤ q k)
      (λ k lk f. ap (λ x. W *ℤ (ind (S (z.u k)) *ℤ x) +ℤ pos 0 *ℤ (ind (S (z.u k)) *ℤ x)) (p.state.off k lk f) ∙ ring (W ∷ ind (S (z.u k)) ∷ []) (search quotes depth 12) (search quotes depth 12) refl)
      (λ k lk f. ap₂ (λ x y. p.N *ℤ x +ℤ β *ℤ y) (side.r_only k lk f) (side.q_only k lk f) ∙ ring (p.N ∷ β ∷ []) (search quotes depth 12) (search quotes depth 12) refl)
      (λ i li.
      flow_lin z.m z.u z.v W (pos 0) own own i
      ∙ ap (λ x. W *ℤ x +ℤ pos 0 *ℤ x) (restrict_flow z.m z.u z.v F p.Λ S p.state.off side.inside i)
      ∙ by_mark (S i) (inner i li) (outer i)
      ∙ sym (flow_lin z.m z.u z.v p.N β r q i ∙ ap₂ (λ x y. p.N *ℤ x +ℤ β *ℤ y) (side.r_flow i li) (side.q_flow i li)))
      e l
    where
      Same : ℕ → Bool → Bool → Type 0
      Same i x y = W *ℤ (ind x *ℤ flow z.m z.u z.v p.Λ i) +ℤ pos 0 *ℤ (ind x *ℤ flow z.m z.u z.v p.Λ i) ≡ p.N *ℤ (ind x *ℤ surplus i) +ℤ β *ℤ (ind x *ℤ share i -ℤ ind y *ℤ W)

      inner : (i : ℕ) → i < z.n → S i ≡ true → Same i (S i) (eqb root i)
      inner i li t' =
          rw t'
          (flow_in W p.N β (flow z.m z.u z.v p.Λ i) (surplus i) (share i) (ind (eqb root i))
          (load_term p.N p.s W (z.w i) (p.X i) (z.d i) (at i) (p.s *ℤ (ind (S b) -ℤ ind (S a))) (flow z.m z.u z.v p.Λ i) (ind (eqb b i) -ℤ ind (eqb a i)) (stands i li t') (p.state.balance i li)
          ∙ ap (λ x. p.N *ℤ surplus i +ℤ x) (acts i li t')))

      outer : (i : ℕ) → S i ≡ false → Same i (S i) (eqb root i)
      outer i f = rw (f, not_label S root i (λ e. true≢false (sym side.root_in ∙ e ∙ f))) (flow_out W p.N β (flow z.m z.u z.v p.Λ i) (surplus i) (share i))

  -- gaps elsewhere have no part in the block's shares
  outside : (e : ℕ) → e < z.m → S (z.u e) ≡ false → q e ≡ pos 0
  outside e l f =
      sym (multipliers_unique indep (λ k. ind (S (z.u k)) *ℤ q k) q
      (λ k lk g. ap (λ x. ind (S (z.u k)) *ℤ x) (side.q_only k lk g) ∙ *ℤ-zero (ind (S (z.u k))))
      side.q_only
      (λ i li. restrict_flow z.m z.u z.v F q S side.q_only side.inside i ∙ ap (λ x. ind (S i) *ℤ x) (side.q_flow i li) ∙ twice i ∙ sym (side.q_flow i li))
      e l)
      ∙ ap (λ (x : Bool). ind x *ℤ q e) f ∙ zero-*ℤ (q e)
    where
      square : (x : Bool) → ind x *ℤ ind x ≡ ind x
      square true = refl
      square false = refl

      twice : (i : ℕ) → ind (S i) *ℤ (ind (S i) *ℤ share i -ℤ ind (eqb root i) *ℤ W) ≡ ind (S i) *ℤ share i -ℤ ind (eqb root i) *ℤ W
      twice i =
          ring (ind (S i) ∷ share i ∷ ind (eqb root i) ∷ W ∷ []) (search quotes depth 12) (search quotes depth 12) refl
          ∙ ap₂ (λ x y. x *ℤ share i -ℤ y) (square (S i)) (pick_in S root i W side.root_in)

-- ---- the violation between two blocks, after the advance that R / P names
viol_along : (W₁ W₂ N s P R h xa xb na nb : ℤ) → pos 2 *ℤ (W₁ *ℤ xa) ≡ pos 2 *ℤ (N *ℤ na) +ℤ s *ℤ (pos 0 -ℤ pos 1) → pos 2 *ℤ (W₂ *ℤ xb) ≡ pos 2 *ℤ (N *ℤ nb) +ℤ s *ℤ (pos 1 -ℤ pos 0) → pos 2 *ℤ (W₁ *ℤ W₂) *ℤ P *ℤ xa +ℤ (N *ℤ R -ℤ P *ℤ s) *ℤ (W₁ *ℤ pos 0 -ℤ W₂ *ℤ pos 1) +ℤ pos 2 *ℤ (W₁ *ℤ W₂) *ℤ P *ℤ N *ℤ h -ℤ (pos 2 *ℤ (W₁ *ℤ W₂) *ℤ P *ℤ xb +ℤ (N *ℤ R -ℤ P *ℤ s) *ℤ (W₁ *ℤ pos 1 -ℤ W₂ *ℤ pos 0)) ≡ N *ℤ (pos 2 *ℤ (na *ℤ W₂ +ℤ h *ℤ (W₁ *ℤ W₂) -ℤ nb *ℤ W₁) *ℤ P -ℤ R *ℤ (W₁ +ℤ W₂))
viol_along W₁ W₂ N s P R h xa xb na nb ea eb =
    ring (W₁ ∷ W₂ ∷ N ∷ s ∷ P ∷ R ∷ h ∷ xa ∷ xb ∷ []) (search quotes depth 12) (search quotes depth 12) refl
    ∙ ap₂ (λ x y. P *ℤ (W₂ *ℤ x) -ℤ P *ℤ (W₁ *ℤ y) +ℤ (pos 2 *ℤ (W₁ *ℤ W₂) *ℤ P *ℤ N *ℤ h -ℤ (N *ℤ R -ℤ P *ℤ s) *ℤ (W₁ +ℤ W₂))) ea eb
    ∙ ring (W₁ ∷ W₂ ∷ N ∷ s ∷ P ∷ R ∷ h ∷ na ∷ nb ∷ []) (search quotes depth 12) (search quotes depth 12) refl

-- ---- the two ends stand in one block

module _ (z : Numbers) (F : ℕ → Bool) (a b : ℕ) (h : ℤ) (num den : ℕ → ℤ) (la : a < z.n) (lb : b < z.n) (ok : Sound z) (indep : Independent z.n z.m z.u z.v F) (p : Pushed z F a b h num den) where
  module _ (S : ℕ → Bool) (W : ℤ) (at r q : ℕ → ℤ) (side : BlockSide z F a S W at (λ i. ind (eqb b i) *ℤ W) r q) (both : S b ≡ true) where
    drift_same : Drift z.n z.m z.u z.v z.w F a b W (λ _. pos 0) (λ e. negsuc 0 *ℤ q e +ℤ pos 0 *ℤ q e)
    drift_same =
        record {
          off = λ e l f. ap (λ x. negsuc 0 *ℤ x +ℤ pos 0 *ℤ x) (side.q_only e l f);
          still = λ _ _ _. refl;
          balance =
              λ i l.
              ring (z.w i ∷ W ∷ ind (eqb b i) ∷ ind (eqb a i) ∷ []) (search quotes depth 12) (search quotes depth 12) refl
              ∙ ap (λ x. negsuc 0 *ℤ x +ℤ pos 0 *ℤ x +ℤ push a b W i) (ap (λ x. x -ℤ ind (eqb a i) *ℤ W) (sym (pick_in S b i W both)) ∙ sym (side.q_flow i l))
              ∙ ap (λ x. x +ℤ push a b W i) (sym (flow_lin z.m z.u z.v (negsuc 0) (pos 0) q q i));
        }

    rate_same : (e : ℕ) → e < z.m → S (z.u e) ≡ true → Rate p.N p.s W W (r e) (q e) (p.Λ e) (negsuc 0 *ℤ q e +ℤ pos 0 *ℤ q e)
    rate_same e l t =
        record {
          above = side.above;
          loaded =
              loads z F a b h num den la lb ok indep p side (negsuc 0 *ℤ p.s)
              (λ i _ _. ap₂ (λ (x y : Bool). p.s *ℤ (ind x -ℤ ind y) *ℤ z.w i -ℤ W *ℤ push a b p.s i) both side.root_in ∙ ring (p.s ∷ W ∷ z.w i ∷ ind (eqb b i) ∷ ind (eqb a i) ∷ []) (search quotes depth 12) (search quotes depth 12) refl) e l t
              ∙ ring (p.N ∷ p.s ∷ r e ∷ q e ∷ []) (search quotes depth 12) (search quotes depth 12) refl;
          changing = ring (W ∷ q e ∷ []) (search quotes depth 12) (search quotes depth 12) refl;
        }

    -- a marked gap of the block whose load comes to zero first is dropped
    pub drop_same : (k : ℕ) → k < z.m → F k ≡ true → S (z.u k) ≡ true → z.kind k ≡ at_least → pos 0 <ℤ q k → ((e : ℕ) → e < z.m → F e ≡ true → S (z.u e) ≡ true → z.kind e ≡ at_least → pos 0 <ℤ q e → (r k *ℤ q e) ≤ℤ (r e *ℤ q k)) → (F' : ℕ → Bool) → Without z.m F k F' → Pushed z F' a b h num den
    drop_same k lk mk inside ka qa least F' wo =
        dropped z F a b h num den la lb ok p drift_same side.above (q k) (r k) qa way_k
        (lt_both refl (ring ((W *ℤ q k) ∷ (p.N *ℤ r k -ℤ q k *ℤ p.s) ∷ p.N ∷ h ∷ p.X a ∷ p.X b ∷ []) (search quotes depth 12) (search quotes depth 12) refl) (*ℤ-above (*ℤ-above side.above qa) p.short))
        lawful k (rate_spent (rate_same k lk inside)) F' wo
      where
        way_k : pos 0 ≤ℤ (p.N *ℤ r k -ℤ q k *ℤ p.s)
        way_k = rate_way (rate_same k lk inside) (p.lawful.carries k lk mk ka)

        lawful : (e : ℕ) → e < z.m → F e ≡ true → z.kind e ≡ at_least → pos 0 ≤ℤ (W *ℤ q k *ℤ p.Λ e +ℤ (p.N *ℤ r k -ℤ q k *ℤ p.s) *ℤ (negsuc 0 *ℤ q e +ℤ pos 0 *ℤ q e))
        lawful e l t kd =
            let carried : pos 0 ≤ℤ p.Λ e = p.lawful.carries e l t kd in
            by_mark (S (z.u e))
            (λ (i : S (z.u e) ≡ true). rate_lawful (q k) (r k) (rate_same e l i) (le_of_lt p.above) (le_of_lt side.above) (le_of_lt qa) way_k carried (least e l t i kd))
            (λ (o : S (z.u e) ≡ false). le_both refl
            (ap (λ x. W *ℤ q k *ℤ p.Λ e +ℤ (p.N *ℤ r k -ℤ q k *ℤ p.s) *ℤ (negsuc 0 *ℤ x +ℤ pos 0 *ℤ x)) (outside z F a b h num den la lb ok indep p side e l o)
            ∙ ring ((W *ℤ q k *ℤ p.Λ e) ∷ (p.N *ℤ r k -ℤ q k *ℤ p.s) ∷ []) (search quotes depth 12) (search quotes depth 12) refl)
            (*ℤ-nonneg (*ℤ-nonneg (le_of_lt side.above) (le_of_lt qa)) carried))

  -- ---- the two ends stand in different blocks
  module _ (S T : ℕ → Bool) (W₁ W₂ : ℤ) (at₁ at₂ r₁ q₁ r₂ q₂ : ℕ → ℤ) (side₁ : BlockSide z F a S W₁ at₁ z.w r₁ q₁) (side₂ : BlockSide z F b T W₂ at₂ z.w r₂ q₂) (apart : (i : ℕ) → i < z.n → S i ≡ true → T i ≡ true → ⊥) where
    -- the push at which the gap is tight is M / Z
    abbrev pub Z : ℤ
    Z = W₁ +ℤ W₂

    abbrev pub M : ℤ
    M = pos 2 *ℤ (at₁ a *ℤ W₂ +ℤ h *ℤ (W₁ *ℤ W₂) -ℤ at₂ b *ℤ W₁)

    -- No breaking point of either block lies below R / P.
    -- A gap of the left block carries (r₁ − s·q₁) / W₁, one of the right block (r₂ + s·q₂) / W₂,
    -- so that it breaks at r₁ / q₁ where q₁ is above zero, or at r₂ / −q₂ where q₂ is below.
    abbrev pub NoneBelow : ℤ → ℤ → Type 0
    NoneBelow R P =
        ((e : ℕ) → e < z.m → F e ≡ true → S (z.u e) ≡ true → z.kind e ≡ at_least → pos 0 <ℤ q₁ e → (R *ℤ q₁ e) ≤ℤ (r₁ e *ℤ P))
        × ((e : ℕ) → e < z.m → F e ≡ true → T (z.u e) ≡ true → z.kind e ≡ at_least → q₂ e <ℤ pos 0 → (R *ℤ (pos 0 -ℤ q₂ e)) ≤ℤ (r₂ e *ℤ P))

    -- which end is in which block
    a_left : S a ≡ true
    a_left = side₁.root_in

    b_right : T b ≡ true
    b_right = side₂.root_in

    a_not_right : T a ≡ false
    a_not_right = not-true (T a) (apart a la a_left)

    b_not_left : S b ≡ false
    b_not_left = not-true (S b) (λ t. apart b lb t b_right)

    abbrev rate_of : ℤ
    rate_of = pos 2 *ℤ (W₁ *ℤ W₂)

    rate_above : pos 0 <ℤ rate_of
    rate_above = *ℤ-above {a = pos 2} (record { lt = tt }) (*ℤ-above side₁.above side₂.above)

    -- the left block gives way to the left, the right one to the right
    abbrev moves : ℕ → ℤ
    moves i = W₁ *ℤ ind (T i) -ℤ W₂ *ℤ ind (S i)

    abbrev changes : ℕ → ℤ
    changes e = pos 2 *ℤ W₁ *ℤ q₂ e +ℤ negsuc 1 *ℤ W₂ *ℤ q₁ e

    drift_apart : Drift z.n z.m z.u z.v z.w F a b rate_of moves changes
    drift_apart =
        record {
          off = λ e l f. ap₂ (λ x y. pos 2 *ℤ W₁ *ℤ x +ℤ negsuc 1 *ℤ W₂ *ℤ y) (side₂.q_only e l f) (side₁.q_only e l f) ∙ ring (W₁ ∷ W₂ ∷ []) (search quotes depth 12) (search quotes depth 12) refl;
          still = λ e l t. ap₂ (λ (x y : Bool). W₁ *ℤ ind x -ℤ W₂ *ℤ ind y) (sym (side₂.inside e l t)) (sym (side₁.inside e l t));
          balance =
              λ i l.
              ring (z.w i ∷ W₁ ∷ W₂ ∷ ind (T i) ∷ ind (S i) ∷ ind (eqb b i) ∷ ind (eqb a i) ∷ []) (search quotes depth 12) (search quotes depth 12) refl
              ∙ ap₂ (λ x y. pos 2 *ℤ W₁ *ℤ x +ℤ negsuc 1 *ℤ W₂ *ℤ y +ℤ push a b rate_of i) (sym (side₂.q_flow i l)) (sym (side₁.q_flow i l))
              ∙ ap (λ x. x +ℤ push a b rate_of i) (sym (flow_lin z.m z.u z.v (pos 2 *ℤ W₁) (negsuc 1 *ℤ W₂) q₂ q₁ i));
        }

    none₁ : (e : ℕ) → e < z.m → S (z.u e) ≡ false → q₁ e ≡ pos 0
    none₁ = outside z F a b h num den la lb ok indep p side₁

    none₂ : (e : ℕ) → e < z.m → T (z.u e) ≡ false → q₂ e ≡ pos 0
    none₂ = outside z F a b h num den la lb ok indep p side₂

    rate_left : (e : ℕ) → e < z.m → S (z.u e) ≡ true → Rate p.N p.s rate_of W₁ (r₁ e) (q₁ e) (p.Λ e) (changes e)
    rate_left e l t =
        record {
          above = side₁.above;
          loaded =
              loads z F a b h num den la lb ok indep p side₁ (negsuc 0 *ℤ p.s)
              (λ i _ o. ap₂ (λ (x y : Bool). p.s *ℤ (ind x -ℤ ind y) *ℤ z.w i -ℤ W₁ *ℤ push a b p.s i) b_not_left a_left
              ∙ ap (λ (x : Bool). p.s *ℤ (pos 0 -ℤ pos 1) *ℤ z.w i -ℤ W₁ *ℤ (p.s *ℤ (ind x -ℤ ind (eqb a i)))) (not_label S b i (λ q. true≢false (sym o ∙ sym q ∙ b_not_left)))
              ∙ ring (p.s ∷ W₁ ∷ z.w i ∷ ind (eqb a i) ∷ []) (search quotes depth 12) (search quotes depth 12) refl) e l t
              ∙ ring (p.N ∷ p.s ∷ r₁ e ∷ q₁ e ∷ []) (search quotes depth 12) (search quotes depth 12) refl;
          changing =
              ap (λ x. W₁ *ℤ (pos 2 *ℤ W₁ *ℤ x +ℤ negsuc 1 *ℤ W₂ *ℤ q₁ e)) (none₂ e l (not-true (T (z.u e)) (apart (z.u e) (ok.left_in e l) t))) ∙ ring (W₁ ∷ W₂ ∷ q₁ e ∷ []) (search quotes depth 12) (search quotes depth 12) refl;
        }

    rate_right : (e : ℕ) → e < z.m → T (z.u e) ≡ true → Rate p.N p.s rate_of W₂ (r₂ e) (pos 0 -ℤ q₂ e) (p.Λ e) (changes e)
    rate_right e l t =
        record {
          above = side₂.above;
          loaded =
              loads z F a b h num den la lb ok indep p side₂ p.s
              (λ i _ o. ap₂ (λ (x y : Bool). p.s *ℤ (ind x -ℤ ind y) *ℤ z.w i -ℤ W₂ *ℤ push a b p.s i) b_right a_not_right
              ∙ ap (λ (x : Bool). p.s *ℤ (pos 1 -ℤ pos 0) *ℤ z.w i -ℤ W₂ *ℤ (p.s *ℤ (ind (eqb b i) -ℤ ind x))) (not_label T a i (λ q. true≢false (sym o ∙ sym q ∙ a_not_right)))
              ∙ ring (p.s ∷ W₂ ∷ z.w i ∷ ind (eqb b i) ∷ []) (search quotes depth 12) (search quotes depth 12) refl) e l t
              ∙ ring (p.N ∷ p.s ∷ r₂ e ∷ q₂ e ∷ []) (search quotes depth 12) (search quotes depth 12) refl;
          changing =
              ap (λ x. W₂ *ℤ (pos 2 *ℤ W₁ *ℤ q₂ e +ℤ negsuc 1 *ℤ W₂ *ℤ x))
              (none₁ e l (not-true (S (z.u e)) (λ o. apart (z.u e) (ok.left_in e l) o t)))
              ∙ ring (W₁ ∷ W₂ ∷ q₂ e ∷ []) (search quotes depth 12) (search quotes depth 12) refl;
        }

    lawful_apart : (R P : ℤ) → pos 0 ≤ℤ P → pos 0 ≤ℤ (p.N *ℤ R -ℤ P *ℤ p.s) → NoneBelow R P → (e : ℕ) → e < z.m → F e ≡ true → z.kind e ≡ at_least → pos 0 ≤ℤ (rate_of *ℤ P *ℤ p.Λ e +ℤ (p.N *ℤ R -ℤ P *ℤ p.s) *ℤ changes e)
    lawful_apart R P h_p hτ least e l t kd =
        let carried : pos 0 ≤ℤ p.Λ e = p.lawful.carries e l t kd in
        by_mark (S (z.u e))
        (λ (i : S (z.u e) ≡ true). rate_lawful P R (rate_left e l i) (le_of_lt p.above) (le_of_lt rate_above) h_p hτ carried (least.0 e l t i kd))
        (λ (o : S (z.u e) ≡ false). by_mark (T (z.u e))
        (λ (i : T (z.u e) ≡ true). rate_lawful P R (rate_right e l i) (le_of_lt p.above) (le_of_lt rate_above) h_p hτ carried (λ g. least.1 e l t i kd (below g)))
        (λ (i : T (z.u e) ≡ false). le_both refl
        (ap₂ (λ x y. rate_of *ℤ P *ℤ p.Λ e +ℤ (p.N *ℤ R -ℤ P *ℤ p.s) *ℤ (pos 2 *ℤ W₁ *ℤ x +ℤ negsuc 1 *ℤ W₂ *ℤ y)) (none₂ e l i) (none₁ e l o)
        ∙ ring ((rate_of *ℤ P *ℤ p.Λ e) ∷ (p.N *ℤ R -ℤ P *ℤ p.s) ∷ W₁ ∷ W₂ ∷ []) (search quotes depth 12) (search quotes depth 12) refl)
        (*ℤ-nonneg (*ℤ-nonneg (le_of_lt rate_above) h_p) carried)))
      where
        below : {x : ℤ} → pos 0 <ℤ (pos 0 -ℤ x) → x <ℤ pos 0
        below {x} g =
            let ρ : List ℤ = x ∷ [] in
            lt_goal ρ (search quotes depth 12) (search quotes depth 12) (omega (arith, lt_given ρ (search quotes depth 12) (search quotes depth 12) g))

    stands_a : pos 2 *ℤ (W₁ *ℤ p.X a) ≡ pos 2 *ℤ (p.N *ℤ at₁ a) +ℤ p.s *ℤ (pos 0 -ℤ pos 1)
    stands_a =
        stands z F a b h num den la lb ok indep p side₁ a la a_left
        ∙ ap₂ (λ (x y : Bool). pos 2 *ℤ (p.N *ℤ at₁ a) +ℤ p.s *ℤ (ind x -ℤ ind y)) b_not_left a_left

    stands_b : pos 2 *ℤ (W₂ *ℤ p.X b) ≡ pos 2 *ℤ (p.N *ℤ at₂ b) +ℤ p.s *ℤ (pos 1 -ℤ pos 0)
    stands_b =
        stands z F a b h num den la lb ok indep p side₂ b lb b_right
        ∙ ap₂ (λ (x y : Bool). pos 2 *ℤ (p.N *ℤ at₂ b) +ℤ p.s *ℤ (ind x -ℤ ind y)) b_right a_not_right

    viol_apart : (R P : ℤ) → viol a b (rate_of *ℤ P *ℤ p.N *ℤ h) (λ i. rate_of *ℤ P *ℤ p.X i +ℤ (p.N *ℤ R -ℤ P *ℤ p.s) *ℤ moves i) ≡ p.N *ℤ (M *ℤ P -ℤ R *ℤ Z)
    viol_apart R P =
        ap₂ (λ (x y : Bool). after (W₁ *ℤ ind x -ℤ W₂ *ℤ ind y) (moves b)) a_not_right a_left
        ∙ ap₂ (λ (x y : Bool). after (W₁ *ℤ pos 0 -ℤ W₂ *ℤ pos 1) (W₁ *ℤ ind x -ℤ W₂ *ℤ ind y)) b_right b_not_left
        ∙ viol_along W₁ W₂ p.N p.s P R h (p.X a) (p.X b) (at₁ a) (at₂ b) stands_a stands_b
      where
        after : ℤ → ℤ → ℤ
        after x y = rate_of *ℤ P *ℤ p.X a +ℤ (p.N *ℤ R -ℤ P *ℤ p.s) *ℤ x +ℤ rate_of *ℤ P *ℤ p.N *ℤ h -ℤ (rate_of *ℤ P *ℤ p.X b +ℤ (p.N *ℤ R -ℤ P *ℤ p.s) *ℤ y)

    -- an advance to a breaking point before the gap is tight
    drop_apart : {R P W : ℤ} (k : ℕ) → k < z.m → F k ≡ true → z.kind k ≡ at_least → Rate p.N p.s rate_of W R P (p.Λ k) (changes k) → pos 0 <ℤ P → NoneBelow R P → (R *ℤ Z) <ℤ (M *ℤ P) → (F' : ℕ → Bool) → Without z.m F k F' → Pushed z F' a b h num den
    drop_apart {R} {P} k lk mk ka rate h_p least before F' wo =
        let hτ : pos 0 ≤ℤ (p.N *ℤ R -ℤ P *ℤ p.s) = rate_way rate (p.lawful.carries k lk mk ka) in
        dropped z F a b h num den la lb ok p drift_apart rate_above P R h_p hτ
        (lt_both refl (viol_apart R P) (*ℤ-above p.above (sub_above before)))
        (lawful_apart R P (le_of_lt h_p) hτ least) k (rate_spent rate) F' wo

    -- a marked gap of the left block, or of the right one, whose load comes to zero first and before the gap is tight
    -- is dropped
    pub drop_left : (k : ℕ) → k < z.m → F k ≡ true → S (z.u k) ≡ true → z.kind k ≡ at_least → pos 0 <ℤ q₁ k → NoneBelow (r₁ k) (q₁ k) → (r₁ k *ℤ Z) <ℤ (M *ℤ q₁ k) → (F' : ℕ → Bool) → Without z.m F k F' → Pushed z F' a b h num den
    drop_left k lk mk inside ka qa least before F' wo = drop_apart k lk mk ka (rate_left k lk inside) qa least before F' wo

    pub drop_right : (k : ℕ) → k < z.m → F k ≡ true → T (z.u k) ≡ true → z.kind k ≡ at_least → q₂ k <ℤ pos 0 → NoneBelow (r₂ k) (pos 0 -ℤ q₂ k) → (r₂ k *ℤ Z) <ℤ (M *ℤ (pos 0 -ℤ q₂ k)) → (F' : ℕ → Bool) → Without z.m F k F' → Pushed z F' a b h num den
    drop_right k lk mk inside ka qa least before F' wo = drop_apart k lk mk ka (rate_right k lk inside) (sub_above qa) least before F' wo

    -- otherwise the gap becomes tight and is marked
    pub reach : NoneBelow M Z → (c : ℕ) → c < z.m → Pushes z c a b h → F c ≡ false → (F' : ℕ → Bool) → With z.m F c F' → Reached z F' num den
    reach least c lc pushes unmarked F' wi =
        marked z F a b h num den la lb ok p drift_apart rate_above Z M Z-above way_above (viol_apart M Z ∙ ring (p.N ∷ M ∷ Z ∷ []) (search quotes depth 12) (search quotes depth 12) refl)
        (lawful_apart M Z (le_of_lt Z-above) (le_of_lt way_above) least) c lc pushes unmarked F' wi
      where
        Z-above : pos 0 <ℤ Z
        Z-above =
            let ρ : List ℤ = W₁ ∷ W₂ ∷ [] in
            lt_goal ρ (search quotes depth 12) (search quotes depth 12)
            (omega (arith, lt_given ρ (search quotes depth 12) (search quotes depth 12) side₁.above, lt_given ρ (search quotes depth 12) (search quotes depth 12) side₂.above))

        -- the push grows by what the violation asks
        way_above : pos 0 <ℤ (p.N *ℤ M -ℤ Z *ℤ p.s)
        way_above =
            lt_both refl
            (ring (p.N ∷ M ∷ Z ∷ p.s ∷ []) (search quotes depth 12) (search quotes depth 12) refl ∙ ap (λ x. x -ℤ Z *ℤ p.s) (sym whole) ∙ ring (p.s ∷ rate_of ∷ viol a b (p.N *ℤ h) p.X ∷ Z ∷ []) (search quotes depth 12) (search quotes depth 12) refl)
            (*ℤ-above rate_above p.short)
          where
            whole : rate_of *ℤ viol a b (p.N *ℤ h) p.X +ℤ Z *ℤ p.s ≡ p.N *ℤ M
            whole =
                ring (W₁ ∷ W₂ ∷ p.N ∷ p.s ∷ h ∷ p.X a ∷ p.X b ∷ []) (search quotes depth 12) (search quotes depth 12) refl
                ∙ viol_along W₁ W₂ p.N p.s (pos 1) (pos 0) h (p.X a) (p.X b) (at₁ a) (at₂ b) stands_a stands_b
                ∙ ring (W₁ ∷ W₂ ∷ p.N ∷ h ∷ at₁ a ∷ at₂ b ∷ []) (search quotes depth 12) (search quotes depth 12) refl

-- ---- two states of the same marks

-- a state at k times its scale
scaled_tight : (k N L x y g : ℤ) → L ≡ k *ℤ N → x ≡ y +ℤ N *ℤ g → k *ℤ x ≡ k *ℤ y +ℤ L *ℤ g
scaled_tight k N L x y g s e = ap (λ t. k *ℤ t) e ∙ ring (k ∷ N ∷ y ∷ g ∷ []) (search quotes depth 12) (search quotes depth 12) refl ∙ ap (λ t. k *ℤ y +ℤ t *ℤ g) (sym s)

scaled_balance : (k N L w x d f o : ℤ) → L ≡ k *ℤ N → pos 2 *ℤ (w *ℤ (x -ℤ N *ℤ d)) ≡ f +ℤ pos 0 *ℤ o → pos 2 *ℤ (w *ℤ (k *ℤ x -ℤ L *ℤ d)) ≡ k *ℤ f +ℤ pos 0 *ℤ f +ℤ pos 0 *ℤ o
scaled_balance k N L w x d f o s e =
    ap (λ t. pos 2 *ℤ (w *ℤ (k *ℤ x -ℤ t *ℤ d))) s
    ∙ ring (k ∷ N ∷ w ∷ x ∷ d ∷ []) (search quotes depth 12) (search quotes depth 12) refl ∙ ap (λ t. k *ℤ t) e
    ∙ ring (k ∷ f ∷ o ∷ []) (search quotes depth 12) (search quotes depth 12) refl

scaled_state : (z : Numbers) (F : ℕ → Bool) (k N L : ℤ) (X Λ : ℕ → ℤ) → L ≡ k *ℤ N → StateAt z F 0 0 N (pos 0) X Λ → StateAt z F 0 0 L (pos 0) (λ i. k *ℤ X i) (λ e. k *ℤ Λ e +ℤ pos 0 *ℤ Λ e)
scaled_state z F k N L X Λ s st = record {
  off = λ e h f. ap (λ x. k *ℤ x +ℤ pos 0 *ℤ x) (st.off e h f) ∙ ring (k ∷ []) (search quotes depth 12) (search quotes depth 12) refl;
  tight = λ e h t. scaled_tight k N L (X (z.v e)) (X (z.u e)) (z.g e) s (st.tight e h t);
  balance = λ i h.
      scaled_balance k N L (z.w i) (X i) (z.d i) (flow z.m z.u z.v Λ i) (ind (eqb 0 i) -ℤ ind (eqb 0 i)) s (st.balance i h)
      ∙ ap (λ t. t +ℤ pos 0 *ℤ (ind (eqb 0 i) -ℤ ind (eqb 0 i))) (sym (flow_lin z.m z.u z.v k (pos 0) Λ Λ i));
}

-- the marks say where the labels stand, at any two scales
pub places_agree : (z : Numbers) (F : ℕ → Bool) (N M : ℤ) (X Y Λ Γ : ℕ → ℤ) → Sound z → StateAt z F 0 0 N (pos 0) X Λ → StateAt z F 0 0 M (pos 0) Y Γ → (i : ℕ) → i < z.n → M *ℤ X i ≡ N *ℤ Y i
places_agree z F N M X Y Λ Γ so one two i h =
    places_unique so.left_in so.right_in some some (scaled_state z F M N (M *ℤ N) X Λ refl one) (scaled_state z F N M (M *ℤ N) Y Γ (ring (N ∷ M ∷ []) (search quotes depth 12) (search quotes depth 12) refl) two) so.heavy refl i h
  where
    some : 0 < z.n
    some = omega arith
