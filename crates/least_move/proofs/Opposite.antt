-- Exact gaps and the two opposite gaps that they replace: the same placements are feasible, at the same cost, and so the
-- least move is the same.
use Prim.Native.Nat.{ℕ, zero, suc, ◌<◌}
use mathlib.Core.Path.{◌≡◌, refl, sym, ◌∙◌, ap, ap₂, subst, subst⁻¹}
use mathlib.Core.Logic.{◌⊎◌, inl, inr, ⊎_elim, ◌↔◌}
use mathlib.Core.Bool.{Bool, true, false}
use mathlib.Core.List.Memᴰ
use mathlib.Core.List.{List, [], ◌∷◌, ◌++◌, Memᴰ}
use native.Mathlib.Omega.{arith}
use lib.ListN.{length, get_or}
use lib.IntN.{ℤ, neg_ℤ}
use Rattle.algebra.proofs.Whole.{le_antisym, le_of_eq}
use Rattle.algebra.proofs.Ring.{quotes, le_given, le_goal}
use Rattle.exact.specs.declared.Fraction.{Fraction}
use Rattle.exact.specs.Fraction.{IsFraction, ◌≼◌, ◌⊕◌, ◌⊖◌, ◌⊛◌, whole, square}
use Rattle.exact.specs.Total.{total}
use Rattle.ground.specs.declared.Label.{Label}
use Rattle.ground.specs.declared.GapNumber.{GapNumber}
use Rattle.least_move.specs.Sheet.{Sheet, Gap, Kind, at_least, exactly, ignored, Proper, label, gap_number}
use Rattle.least_move.specs.Placement.{Placement, HoldsWith, Holds, slack_of, Feasible, cost, LeastMove, move}
use Rattle.least_move.specs.Opposite.{forth, back, Stands, Asked, Stems, Replaced, in_place, opposed, no_gap, with_gaps, OpposedReplaced}
use Rattle.least_move.proofs.Slack.{holds_asked, holds_asked_back, tight_asked, tight_asked_back}

-- ---- an exact gap holds exactly if both its opposite gaps do

-- b at most a + g, where b - g is at most a, and the other way round
turned : (a b : Fraction) (g : ℤ) → b ≼ a ⊕ whole g → b ⊕ whole (neg_ℤ g) ≼ a
turned a b g h =
    let ρ : List ℤ = a.num ∷ a.den ∷ b.num ∷ b.den ∷ g ∷ [] in
    le_goal ρ (search quotes depth 12) (search quotes depth 12) (omega (arith, le_given ρ (search quotes depth 12) (search quotes depth 12) h))

turned_back : (a b : Fraction) (g : ℤ) → b ⊕ whole (neg_ℤ g) ≼ a → b ≼ a ⊕ whole g
turned_back a b g h =
    let ρ : List ℤ = a.num ∷ a.den ∷ b.num ∷ b.den ∷ g ∷ [] in
    le_goal ρ (search quotes depth 12) (search quotes depth 12) (omega (arith, le_given ρ (search quotes depth 12) (search quotes depth 12) h))

module _ (p : Placement) (c : Gap) (left_above : IsFraction (p c.left)) (right_above : IsFraction (p c.right)) where
  exact_both : HoldsWith exactly (slack_of p c) → Holds p (forth c) × Holds p (back c)
  exact_both h = (
    le_of_eq (sym h),
    holds_asked_back p (back c) right_above left_above (turned (p c.left) (p c.right) c.distance (le_of_eq (sym (tight_asked p c left_above right_above h)))),
  )

  both_exact : Holds p (forth c) → Holds p (back c) → HoldsWith exactly (slack_of p c)
  both_exact f b =
      tight_asked_back p c left_above right_above
      (le_antisym (holds_asked p (forth c) left_above right_above f)
      (turned_back (p c.left) (p c.right) c.distance (holds_asked p (back c) right_above left_above b)))

-- ---- sheets of which one has opposite gaps for exact ones

total_same : (n : ℕ) (f g : ℕ → Fraction) → ((k : ℕ) → k < n → f k ≡ g k) → total n f ≡ total n g
unfolding total
total_same zero f g same = refl
total_same (suc n) f g same = ap₂ ◌⊕◌ (total_same n f g (λ k h. same k (omega arith))) (same n (omega arith))

module _ {s t : Sheet} (proper : Proper s) (replaced : Replaced s t) where
  module _ (p : Placement) (fractions : (i : Label) → i.0 < s.labels → IsFraction (p i)) where
    -- where the first sheet's gaps hold, so do those that stem from them
    stems_holds : ((e : GapNumber) → e.0 < s.gaps → Holds p (s.gap e)) → (c : Gap) → Stems s c → Holds p c
    stems_holds meets c (inl stands) = subst (Holds p) stands.same (meets stands.number stands.inside)
    stems_holds meets c (inr (d, exact, stands, is)) =
        ⊎_elim (λ same. subst⁻¹ (Holds p) same both.0) (λ same. subst⁻¹ (Holds p) same both.1) is
      where
        g : Gap
        g = s.gap stands.number

        both : Holds p (forth d) × Holds p (back d)
        both =
            subst (λ (x : Gap). Holds p (forth x) × Holds p (back x)) stands.same
            (exact_both p g (fractions g.left (proper.left_in stands.number stands.inside)) (fractions g.right (proper.right_in stands.number stands.inside))
            (subst (λ (k : Kind). HoldsWith k (slack_of p g)) (ap (λ (x : Gap). x.kind) stands.same ∙ exact) (meets stands.number stands.inside)))

    -- where the second sheet's hold, so does each that is asked of it
    asked_holds : ((e : GapNumber) → e.0 < t.gaps → Holds p (t.gap e)) → (e : GapNumber) → e.0 < s.gaps → Asked t (s.gap e) → Holds p (s.gap e)
    asked_holds meets e h (inl stands) = subst (Holds p) stands.same (meets stands.number stands.inside)
    asked_holds meets e h (inr (exact, f, b)) =
        subst⁻¹ (λ (k : Kind). HoldsWith k (slack_of p (s.gap e))) exact
        (both_exact p (s.gap e) (fractions (s.gap e).left (proper.left_in e h)) (fractions (s.gap e).right (proper.right_in e h))
        (subst (Holds p) f.same (meets f.number f.inside))
        (subst (Holds p) b.same (meets b.number b.inside)))

  -- the same placements are feasible
  pub replaced_feasible : (p : Placement) → Feasible s p ↔ Feasible t p
  replaced_feasible p = (
    (λ f. record {
      fractions = λ i h. f.fractions i (omega (arith, replaced.labels));
      meets = λ e h. stems_holds p f.fractions f.meets (t.gap e) (replaced.stems e h);
    }),
    λ f.
        let fractions : (i : Label) → i.0 < s.labels → IsFraction (p i) = λ i h. f.fractions i (omega (arith, replaced.labels)) in
        record { fractions = fractions; meets = λ e h. asked_holds p fractions f.meets e h (replaced.asked e h) },
  )

  -- at the same cost
  pub replaced_cost : (p : Placement) → cost t p ≡ cost s p
  unfolding cost
  replaced_cost p =
      ap (λ (n : ℕ). total n (moved t)) replaced.labels
      ∙ total_same s.labels (moved t) (moved s)
      (λ k h. ap₂ (λ (w d : ℤ). w ⊛ square (p (label k) ⊖ whole d)) (replaced.weight (label k) h) (replaced.wanted (label k) h))
    where
      moved : Sheet → ℕ → Fraction
      moved r k = r.weight (label k) ⊛ square (move r p (label k))

  -- so the least move is the same
  pub replaced_least : (p : Placement) → LeastMove s p ↔ LeastMove t p
  replaced_least p = (
    (λ l. record {
      feasible = (replaced_feasible p).0 l.feasible;
      least = λ q f. subst⁻¹ (λ (a : Fraction). a ≼ cost t q) (replaced_cost p) (subst⁻¹ (λ (b : Fraction). cost s p ≼ b) (replaced_cost q) (l.least q ((replaced_feasible q).1 f)));
    }),
    λ l. record {
      feasible = (replaced_feasible p).1 l.feasible;
      least = λ q f. subst (λ (a : Fraction). a ≼ cost s q) (replaced_cost p) (subst (λ (b : Fraction). cost t p ≼ b) (replaced_cost q) (l.least q ((replaced_feasible q).0 f)));
    },
  )

-- ---- lists of gaps

-- an entry of a list, and where it stands
pub entry : {A : Type 0} (xs : List A) (k : ℕ) (none : A) → k < length xs → Memᴰ (get_or xs k none) xs
entry [] k none h = absurd (omega arith)
entry (x ∷ xs) zero none h = Memᴰ.head refl
entry (x ∷ xs) (suc k) none h = Memᴰ.tail (entry xs k none (omega arith))

stands_in : (s : Sheet) (cs : List Gap) (c : Gap) → Memᴰ c cs → Stands (with_gaps s cs) c
stands_in s [] c m = absurd (Memᴰ.not-nil m)
stands_in s (d ∷ cs) c m =
    ⊎_elim (λ e. record { number = gap_number 0; inside = omega arith; same = sym e })
    (λ n. later (stands_in s cs c n))
    (Memᴰ.cases_cons m)
  where
    later : Stands (with_gaps s cs) c → Stands (with_gaps s (d ∷ cs)) c
    later r = record { number = gap_number (suc r.number.0); inside = omega (arith, r.inside); same = r.same }

-- `Asked` and `Stems` over any way to have gaps, here as entries of a list
abbrev AskedBy : (Gap → Type 0) → Gap → Type 0
AskedBy Has c = Has c ⊎ ((c.kind ≡ exactly) × Has (forth c) × Has (back c))

abbrev StemsBy : (Gap → Type 0) → Gap → Type 0
StemsBy Has c = Has c ⊎ ((d : Gap) × (d.kind ≡ exactly) × Has d × ((c ≡ forth d) ⊎ (c ≡ back d)))

module _ {Has Also : Gap → Type 0} (also : (x : Gap) → Has x → Also x) where
  asked_more : (c : Gap) → AskedBy Has c → AskedBy Also c
  asked_more c = ⊎_elim (λ h. inl (also c h)) (λ h. inr (h.0, also (forth c) h.1, also (back c) h.2))

  stems_more : (c : Gap) → StemsBy Has c → StemsBy Also c
  stems_more c = ⊎_elim (λ h. inl (also c h)) (λ h. inr (h.0, h.1, also h.0 h.2, h.3))

-- what stands in a gap's place
place_asked : (b : Bool) (c : Gap) (k : Kind) → c.kind ≡ k → AskedBy (λ x. Memᴰ x (in_place b k c)) c
place_asked true c exactly exact = inr (exact, Memᴰ.head refl, Memᴰ.tail (Memᴰ.head refl))
place_asked true c at_least _ = inl (Memᴰ.head refl)
place_asked true c ignored _ = inl (Memᴰ.head refl)
place_asked false c k _ = inl (Memᴰ.head refl)

place_stems : (b : Bool) (d : Gap) (k : Kind) → d.kind ≡ k → (c : Gap) → Memᴰ c (in_place b k d) → StemsBy (λ x. x ≡ d) c
place_stems true d exactly exact c m = inr (d, exact, refl, ⊎_elim inl (λ n. inr (Memᴰ.eq_of_singleton n)) (Memᴰ.cases_cons m))
place_stems true d at_least _ c m = inl (Memᴰ.eq_of_singleton m)
place_stems true d ignored _ c m = inl (Memᴰ.eq_of_singleton m)
place_stems false d k _ c m = inl (Memᴰ.eq_of_singleton m)

list_asked : (chosen : ℕ → Bool) (cs : List Gap) (c : Gap) → Memᴰ c cs → AskedBy (λ x. Memᴰ x (opposed chosen cs)) c
list_asked chosen [] c m = absurd (Memᴰ.not-nil m)
list_asked chosen (d ∷ cs) c m =
    ⊎_elim
    (λ same. subst⁻¹ (AskedBy (λ x. Memᴰ x (place ++ rest))) same
    (asked_more (λ x (h : Memᴰ x place). Memᴰ.append_left rest h) d (place_asked (chosen 0) d d.kind refl)))
    (λ n. asked_more (λ x (h : Memᴰ x rest). Memᴰ.append_right place h) c (list_asked (λ k. chosen (suc k)) cs c n))
    (Memᴰ.cases_cons m)
  where
    place : List Gap
    place = in_place (chosen 0) d.kind d

    rest : List Gap
    rest = opposed (λ k. chosen (suc k)) cs

list_stems : (chosen : ℕ → Bool) (cs : List Gap) (c : Gap) → Memᴰ c (opposed chosen cs) → StemsBy (λ x. Memᴰ x cs) c
list_stems chosen [] c m = absurd (Memᴰ.not-nil m)
list_stems chosen (d ∷ cs) c m =
    ⊎_elim (λ n. stems_more (λ x. Memᴰ.head) c (place_stems (chosen 0) d d.kind refl c n))
    (λ n. stems_more (λ x. Memᴰ.tail) c (list_stems (λ k. chosen (suc k)) cs c n))
    (Memᴰ.append_cases (in_place (chosen 0) d.kind d) m)

pub opposed_replaced : OpposedReplaced
opposed_replaced s chosen cs = record {
  labels = refl;
  wanted = λ i h. refl;
  weight = λ i h. refl;
  asked = λ e h. asked_more (stands_in s (opposed chosen cs)) (get_or cs e.0 no_gap) (list_asked chosen cs (get_or cs e.0 no_gap) (entry cs e.0 no_gap h));
  stems =
      λ e h.
      let c : Gap = get_or (opposed chosen cs) e.0 no_gap in
      stems_more (stands_in s cs) c (list_stems chosen cs c (entry (opposed chosen cs) e.0 no_gap h));
}
