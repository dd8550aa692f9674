-- The places of a block's labels: its sums give a fraction for each, and wherever the marked gaps are tight and
-- balance all alone the label stands there.
use mathlib.Core.Path.{◌≡◌, refl, sym, ◌∙◌, ap}
use mathlib.Core.Logic.{◌⊎◌, inl, inr}
use mathlib.Core.List.{List, [], ◌∷◌}
use Prim.Native.Nat.{ℕ, zero, suc, ◌+◌, ◌*◌, ◌≤◌, ◌<◌}
use native.Mathlib.Omega.{arith}
use native.Mathlib.Nat.{mul-le-mul}
use lib.IntN.{ℤ, pos, nat_abs, ◌+ℤ◌, ◌-ℤ◌, ◌*ℤ◌}
use lib.Signed.{◌≤ℤ◌}
use lib.Dec.{eqb}
use Rattle.algebra.specs.Sum.{sum, ind}
use Rattle.algebra.proofs.Ring.{ring, quotes, eq_given, eq_goal}
use Rattle.algebra.proofs.Whole.{parts-+, parts_nat_abs, le_parts, parts_le, no_nn}
use Rattle.algebra.proofs.Sum.{sum_none, sum_last, sum_cong, sum-+, sum_*, sum_nonneg, sum_bound}
use Rattle.least_move.specs.States.{flow, StateAt}
use Rattle.least_move.proofs.Forest.{by_mark, block_still}
use Rattle.ground.specs.Entries.{nat, int}
use Rattle.core_forest.specs.Tree.{Tree}
use Rattle.core_elimination.specs.declared.Sums.{Sums}
use Rattle.core_elimination.specs.Block.{weight_sum, wanted_sum, Given, numerator}
use Rattle.core_elimination.proofs.Ranges.{above_most, plus_most, times_most}
use Rattle.core_elimination.proofs.TreeFlow.{is_seen, mean_at}
use Rattle.ground.specs.declared.problem.Problem.{Problem}
use Rattle.core_forest.specs.Problem.{Limits, graph_of, marks_of, numbers_of, with_kind}
use Rattle.core_elimination.proofs.SearchedBlock.{limits_graph, block_listed, of_block, unseen, gaps_inside, spread_most, block_range, block_sums}
use Rattle.core_balance.specs.Places.{DenMost, LabelPlaced, PlacesFound}
use Rattle.ground.specs.Limits.{block_weight_most, core_weight_most}

-- ---- kinds do not matter

pub limits_kind : {p : Problem} (kinds : List ℕ) → Limits p → Limits (with_kind p kinds)
limits_kind kinds l = record {
  labels_bound = l.labels_bound;
  gaps_bound = l.gaps_bound;
  left_in = l.left_in;
  right_in = l.right_in;
  distance_bound = l.distance_bound;
  wanted_bound = l.wanted_bound;
  weight_low = l.weight_low;
  weight_high = l.weight_high;
}

pub places_kind : (p : Problem) (kinds mark : List ℕ) (num den : List ℤ) → PlacesFound (with_kind p kinds) mark num den → PlacesFound p mark num den
places_kind p kinds mark num den f j l =
    let q : LabelPlaced (with_kind p kinds) mark j (int num j) (int den j) = f j l in
    record { den_least = q.den_least; den_most = q.den_most; num_most = q.num_most; placed = q.placed }

-- ---- denominators under the core's limits

pub den_limit : {p : Problem} → Limits p → (den : ℤ) → DenMost p den → nat_abs den ≤ block_weight_most
den_limit lim den most = most core_weight_most (λ i l. above_most (lim.weight_low i l) (lim.weight_high i l))

-- ---- plain numbers and sums

nat_abs-plus : {a b : ℤ} → pos 0 ≤ℤ a → pos 0 ≤ℤ b → nat_abs (a +ℤ b) ≡ nat_abs a + nat_abs b
nat_abs-plus {a} {b} h k =
    omega (arith, no_nn h, no_nn k, parts-+ a b, parts_nat_abs a, parts_nat_abs b, parts_nat_abs (a +ℤ b), no_nn {c = a +ℤ b} (parts_le (omega (arith, le_parts h, le_parts k, parts-+ a b))))

-- a weighted sum of numbers of magnitude at most B
weighted_most : (n : ℕ) (w d : ℕ → ℤ) (B : ℕ) → ((k : ℕ) → k < n → pos 0 ≤ℤ w k) → ((k : ℕ) → k < n → nat_abs (d k) ≤ B) → nat_abs (sum n (λ k. w k *ℤ d k)) ≤ B * nat_abs (sum n w)
weighted_most zero w d B hw hd = rw (sum_none (λ k. w k *ℤ d k)) (omega arith)
weighted_most (suc n) w d B hw hd =
    rw (sum_last n (λ k. w k *ℤ d k), sum_last n w, nat_abs-plus (sum_nonneg n w (λ k l. hw k (omega arith))) (hw n (omega arith)))
    (omega (
      arith,
      plus_most (sum n (λ k. w k *ℤ d k)) (w n *ℤ d n)
          (weighted_most n w d B (λ k l. hw k (omega arith)) (λ k l. hd k (omega arith)))
          (times_most (w n) (d n) {m = nat_abs (w n)} {n = B} (omega arith) (hd n (omega arith))),
    ))

-- P and an offset times W, in one sum
moved_sum : (n : ℕ) (w d o : ℕ → ℤ) (c : ℤ) → sum n (λ k. w k *ℤ (d k -ℤ o k)) +ℤ c *ℤ sum n w ≡ sum n (λ k. w k *ℤ (d k +ℤ (c -ℤ o k)))
moved_sum n w d o c =
    ap (λ z. sum n (λ k. w k *ℤ (d k -ℤ o k)) +ℤ z) (sym (sum_* n c w))
    ∙ sym (sum-+ n (λ k. w k *ℤ (d k -ℤ o k)) (λ k. c *ℤ w k))
    ∙ sum_cong n (λ k. w k *ℤ (d k -ℤ o k) +ℤ c *ℤ w k) (λ k. w k *ℤ (d k +ℤ (c -ℤ o k)))
    (λ k _. ring (w k ∷ d k ∷ o k ∷ c ∷ []) (search quotes depth 12) (search quotes depth 12) refl)

halved : (W x N z : ℤ) → pos 2 *ℤ (W *ℤ x) ≡ pos 2 *ℤ (N *ℤ z) +ℤ pos 0 → x *ℤ W ≡ N *ℤ z
halved W x N z e =
    let ρ : List ℤ = W ∷ x ∷ N ∷ z ∷ [] in
    eq_goal ρ (search quotes depth 12) (search quotes depth 12) (omega (arith, eq_given ρ (search quotes depth 12) (search quotes depth 12) e))

-- what is left of a balance where nothing pushes
pub unpushed : (f b : ℤ) → f +ℤ pos 0 *ℤ (b -ℤ b) ≡ f
unpushed f b = ring (f ∷ b ∷ []) (search quotes depth 12) (search quotes depth 12) refl

-- ---- a block

module _ {p : Problem} {mark : List ℕ} {root count : ℕ} {at queue via up : List ℕ} {off : List ℤ} (lim : Limits p) (t : Tree (graph_of p mark) root count at queue via up off) where
  -- the block's balance sums to zero: no marked gap leads out of it, and nothing pushes
  block_balance : (N : ℤ) (X Λ : ℕ → ℤ) → StateAt (numbers_of p) (marks_of mark) 0 0 N (pos 0) X Λ
      → sum p.labels (λ i. ind (is_seen at i) *ℤ (pos 2 *ℤ (int p.weight i *ℤ (X i -ℤ N *ℤ int p.wanted i)))) ≡ pos 0
  block_balance N X Λ st =
      sum_cong p.labels (λ i. ind (is_seen at i) *ℤ (pos 2 *ℤ (int p.weight i *ℤ (X i -ℤ N *ℤ int p.wanted i)))) (λ i. ind (is_seen at i) *ℤ flow p.gaps (nat p.left) (nat p.right) Λ i)
      (λ i l. ap (λ z. ind (is_seen at i) *ℤ z) (st.balance i l ∙ unpushed (flow p.gaps (nat p.left) (nat p.right) Λ i) (ind (eqb 0 i))))
      ∙ block_still (marks_of mark) Λ (is_seen at) lim.left_in lim.right_in st.off (gaps_inside lim t)

  module _ (s : Sums) (hw : s.weight ≡ weight_sum count queue p.weight) (hp : s.wanted ≡ wanted_sum count queue off p.wanted p.weight) where
    num_most : (k : ℕ) → k < count → (B : ℕ) → ((i : ℕ) → i < p.labels → nat_abs (int p.wanted i) ≤ B) → nat_abs (numerator s off (nat queue k)) ≤ (B + 940000) * nat_abs s.weight
    num_most k l B h =
        let o : ℤ = int off (nat queue k) in
        rw (hp, hw, moved_sum count (λ j. int p.weight (nat queue j)) (λ j. int p.wanted (nat queue j)) (λ j. int off (nat queue j)) o)
        (weighted_most count (λ j. int p.weight (nat queue j)) (λ j. int p.wanted (nat queue j) +ℤ (o -ℤ int off (nat queue j))) (B + 940000)
        (λ j lj. parts_le (omega (arith, le_parts ((block_range lim t).weight_low j lj))))
        (λ j lj. plus_most (int p.wanted (nat queue j)) (o -ℤ int off (nat queue j)) (h (nat queue j) (t.placed j lj).0) (spread_most lim t k j l lj)))

    -- each of the block's labels stands at its numerator over W
    pub label_placed : (k : ℕ) → k < count → LabelPlaced p mark (nat queue k) (numerator s off (nat queue k)) s.weight
    label_placed k l = record {
      den_least = (block_sums lim t s hw hp).weight_low;
      den_most = λ B h. rw hw (omega (
        arith,
        mul-le-mul {n₁ = count} {m₁ = B} {n₂ = 48} {m₂ = B} (block_listed lim t).count_most (omega arith),
        sum_bound count (λ j. int p.weight (nat queue j)) B (λ j lj. h (nat queue j) (t.placed j lj).0),
      ));
      num_most = num_most k l;
      placed = λ N X Λ _ st. halved s.weight (X (nat queue k)) N (numerator s off (nat queue k))
          (rw (hp, hw) (mean_at (limits_graph mark lim) t X N st.tight (int p.weight) (int p.wanted) (pos 0) (block_balance N X Λ st) k l));
    }

    -- after the pass over the block a label of it stands there, and any other is as it was
    pub block_placed : {num₀ den₀ num den : List ℤ} → Given count queue (numerator s off) num₀ num
        → Given count queue (λ x. s.weight) den₀ den → (j : ℕ) → j < p.labels
        → LabelPlaced p mark j (int num j) (int den j) ⊎ ((int num j ≡ int num₀ j) × (int den j ≡ int den₀ j))
    block_placed {num₀} {den₀} {num} {den} gn gd j l =
        by_mark (is_seen at j)
        (λ b. inl (of_block lim t (λ x. LabelPlaced p mark x (int num x) (int den x)) (λ k h. rw (gn.inside k h, gd.inside k h) (label_placed k h)) j l b))
        (λ b. inr (gn.outside j (unseen lim t j b), gd.outside j (unseen lim t j b)))
