-- What is found of a block, as the least move's theory asks it: the loads that the two eliminations leave on its marked gaps,
-- their flows, and which of them the block's breaking points name.
use mathlib.Core.Path.{◌≡◌, refl, sym, ◌∙◌, ap, ap₂, subst}
use mathlib.Core.Logic.{◌↔◌, inl, inr, ⊎_elim}
use mathlib.Core.Bool.{Bool, true, false, cond}
use mathlib.Core.List.{List, [], ◌∷◌}
use Prim.Native.Nat.{ℕ, ◌<◌}
use native.Mathlib.Omega.{arith}
use lib.IntN.{ℤ, pos, negsuc, ◌+ℤ◌, ◌-ℤ◌, ◌*ℤ◌, *ℤ-zero, zero-*ℤ}
use lib.Signed.{◌≤ℤ◌, ◌<ℤ◌}
use lib.Dec.{eqb}
use borrow.Author.Tests.{eq-eqb}
use Rattle.algebra.specs.Sum.{sum, ind}
use Rattle.algebra.proofs.Ring.{ring, quotes, lt_given, lt_goal}
use Rattle.algebra.proofs.Whole.{one_*ℤ, pp, le_parts, parts_le, lt_parts, parts_lt, not_le_of_lt}
use Rattle.algebra.proofs.Sum.{sum_cong, sum_*}
use Rattle.least_move.specs.Sheet.{at_least, gap_number, kind_of}
use Rattle.least_move.specs.States.{flow, Independent, Numbers, Sound}
use Rattle.least_move.proofs.Flow.{at_label}
use Rattle.least_move.proofs.Sides.{BlockSide}
use Rattle.ground.specs.Entries.{nat, int}
use Rattle.core_elimination.specs.Block.{IsSign, numerator, surplus_at, only_at}
use Rattle.core_elimination.proofs.TreeFlow.{is_seen, toward, Hangs, away, back, along, eqb_sym, root_seen, hangs, via_seen, along_at, along_only, parent_gaps_all, mean_at, tree_sum}
use Rattle.std.specs.Prelude.{Option, Some}
use Rattle.core_breaking.specs.declared.BreakingPoint.{BreakingPoint}
use Rattle.core_breaking.specs.declared.Side.{Side}
use Rattle.core_breaking.specs.Breaking.{over, candidate_of, losing_end}
use Rattle.ground.specs.declared.problem.Problem.{Problem}
use Rattle.core_forest.specs.declared.search.Work.{Work}
use Rattle.core_forest.specs.Problem.{Limits, graph_of, marks_of, numbers_of}
use Rattle.core_advance.specs.Side.{SideFound, share_of}
use Rattle.core_breaking.proofs.BreakingPoints.{breaks_at, MadeOf, made_of}
use Rattle.core_elimination.proofs.SearchedBlock.{limits_graph, of_block, gaps_inside, block_eliminates, load_flow, surplus_flow}
use Rattle.core_advance.proofs.EndBlock.{sums_range, share_nonneg}
use Rattle.core_forest.proofs.GapKinds.{kind_least}

-- ---- the problem's limits

pub sound : {p : Problem} → Limits p → Sound (numbers_of p)
sound l = record { left_in = l.left_in; right_in = l.right_in; heavy = λ i h. parts_lt (omega (arith, le_parts (l.weight_low i h))) }

-- ---- plain numbers and sums

-- a load times a number
flow_* : (m : ℕ) (u v : ℕ → ℕ) (c : ℤ) (Λ : ℕ → ℤ) (i : ℕ) → flow m u v (λ e. c *ℤ Λ e) i ≡ c *ℤ flow m u v Λ i
flow_* m u v c Λ i = ap₂ (λ x y. x -ℤ y) (side v) (side u) ∙ ring (c ∷ one v ∷ one u ∷ []) (search quotes depth 12) (search quotes depth 12) refl
  where
    one : (ℕ → ℕ) → ℤ
    one w = sum m (λ e. ind (eqb (w e) i) *ℤ Λ e)

    side : (w : ℕ → ℕ) → sum m (λ e. ind (eqb (w e) i) *ℤ (c *ℤ Λ e)) ≡ c *ℤ one w
    side w =
        sum_cong m (λ e. ind (eqb (w e) i) *ℤ (c *ℤ Λ e)) (λ e. c *ℤ (ind (eqb (w e) i) *ℤ Λ e))
        (λ e _. ring (c ∷ ind (eqb (w e) i) ∷ Λ e ∷ []) (search quotes depth 12) (search quotes depth 12) refl)
        ∙ sum_* m c (λ e. ind (eqb (w e) i) *ℤ Λ e)

only_ind : (b : Bool) (c : ℤ) → cond b c (pos 0) ≡ ind b *ℤ c
only_ind true c = sym (one_*ℤ c)
only_ind false c = sym (zero-*ℤ c)

-- the breaking point of gap e at num / den
abbrev pub point_at : ℕ → (num den : ℤ) → Option BreakingPoint
point_at e num den = Some (record { gap = gap_number e; push = over num den })

two_ways : pos 1 ≡ negsuc 0 → ⊥
two_ways e = omega (arith, ap pp e)

-- a sign that points its own way
twice_signed : (s t x : ℤ) → IsSign s → t ≡ s → s *ℤ (t *ℤ x) ≡ x
twice_signed s t x h e =
    ⊎_elim
    (λ (q : s ≡ pos 1). ap₂ (λ a b. a *ℤ (b *ℤ x)) q (e ∙ q) ∙ ring (x ∷ []) (search quotes depth 12) (search quotes depth 12) refl)
    (λ (q : s ≡ negsuc 0). ap₂ (λ a b. a *ℤ (b *ℤ x)) q (e ∙ q) ∙ ring (x ∷ []) (search quotes depth 12) (search quotes depth 12) refl)
    h

-- what a sign makes of a number
signed_plus : (s x : ℤ) → s ≡ pos 1 → s *ℤ x ≡ x
signed_plus s x e = ap (λ z. z *ℤ x) e ∙ one_*ℤ x

signed_minus : (s x : ℤ) → s ≡ negsuc 0 → s *ℤ x ≡ pos 0 -ℤ x
signed_minus s x e = ap (λ z. z *ℤ x) e ∙ ring (x ∷ []) (search quotes depth 12) (search quotes depth 12) refl

pub minus_above : (x : ℤ) → (pos 0 <ℤ (pos 0 -ℤ x)) ↔ (x <ℤ pos 0)
minus_above x =
    let ρ : List ℤ = x ∷ [] in (
      λ h. lt_goal ρ (search quotes depth 12) (search quotes depth 12) (omega (arith, lt_given ρ (search quotes depth 12) (search quotes depth 12) h)),
      λ h. lt_goal ρ (search quotes depth 12) (search quotes depth 12) (omega (arith, lt_given ρ (search quotes depth 12) (search quotes depth 12) h)),
    )

-- and of two signs those are the same whose product keeps a number above zero
same_sign : (s t x : ℤ) → IsSign s → IsSign t → pos 0 ≤ℤ x → pos 0 <ℤ (s *ℤ (t *ℤ x)) → t ≡ s
same_sign s t x hs ht n above =
    ⊎_elim
    (λ (q : s ≡ pos 1). ⊎_elim (λ (q' : t ≡ pos 1). q' ∙ sym q) (λ (q' : t ≡ negsuc 0). absurd (other_way x n (plus_minus x) (rw (q, q') at above))) ht)
    (λ (q : s ≡ negsuc 0). ⊎_elim (λ (q' : t ≡ pos 1). absurd (other_way x n (minus_plus x) (rw (q, q') at above))) (λ (q' : t ≡ negsuc 0). q' ∙ sym q) ht)
    hs
  where
    other_way : {y : ℤ} (x : ℤ) → pos 0 ≤ℤ x → y ≡ pos 0 -ℤ x → pos 0 <ℤ y → ⊥
    other_way x n e a = not_le_of_lt ((minus_above x).0 (rw e at a)) n

    plus_minus : (x : ℤ) → pos 1 *ℤ (negsuc 0 *ℤ x) ≡ pos 0 -ℤ x
    plus_minus x = ring (x ∷ []) (search quotes depth 12) (search quotes depth 12) refl

    minus_plus : (x : ℤ) → negsuc 0 *ℤ (pos 1 *ℤ x) ≡ pos 0 -ℤ x
    minus_plus x = ring (x ∷ []) (search quotes depth 12) (search quotes depth 12) refl

-- ---- the loads of a block's marked gaps

-- A breaking point of the block S: a marked gap of it that may be dropped. Over the block's weight it carries r, and loses q with the push.
pub record Breaks (z : Numbers) (F S : ℕ → Bool) (r q : ℕ → ℤ) (x : BreakingPoint) : Type 0 where
  pub gap_in : x.gap.0 < z.m
  pub marked : F x.gap.0 ≡ true
  pub left_seen : S (z.u x.gap.0) ≡ true
  pub right_seen : S (z.v x.gap.0) ≡ true
  pub kind : z.kind x.gap.0 ≡ at_least
  pub num : x.push.num ≡ r x.gap.0
  pub den : x.push.den ≡ q x.gap.0
  pub above : pos 0 <ℤ q x.gap.0

breaks_as : {z : Numbers} {F S : ℕ → Bool} {r q : ℕ → ℤ} {x : BreakingPoint} (q' : ℕ → ℤ) → q x.gap.0 ≡ q' x.gap.0 → Breaks z F S r q x → Breaks z F S r q' x
breaks_as q' same b =
    record {
      gap_in = b.gap_in;
      marked = b.marked;
      left_seen = b.left_seen;
      right_seen = b.right_seen;
      kind = b.kind;
      num = b.num;
      den = b.den ∙ same;
      above = rw same at b.above;
    }

-- what each gap carries over the block's weight while nothing pushes
abbrev pub rest_load : Problem → List ℕ → ℤ → ℕ → Work → List ℤ → ℕ → ℤ
rest_load p mark sign count w held e = sign *ℤ along (graph_of p mark) count w.queue w.via w.up (int held) e

-- and by how much that changes with the push
abbrev pub push_load : Problem → List ℕ → ℕ → Work → List ℤ → ℕ → ℤ
push_load p mark count w share e = along (graph_of p mark) count w.queue w.via w.up (int share) e

module _ {p : Problem} {mark : List ℕ} {root other : ℕ} {sign : ℤ} {r : Side} {work : Work} {held share : List ℤ} (lim : Limits p) (f : SideFound p mark root other sign r work held share) where
  -- ---- the fields

  weight_above : pos 0 <ℤ r.sums.weight
  weight_above = parts_lt (omega (arith, le_parts (sums_range lim f).weight_low))

  rest_flow : IsSign sign → (i : ℕ) → i < p.labels
      → flow p.gaps (nat p.left) (nat p.right) (rest_load p mark sign r.count work held) i
      ≡ ind (is_seen work.at i) *ℤ surplus_at r.sums work.off p.wanted p.weight i
  rest_flow sgn i l =
      flow_* p.gaps (nat p.left) (nat p.right) sign (along (graph_of p mark) r.count work.queue work.via work.up (int held)) i
      ∙ ap (λ x. sign *ℤ x) (surplus_flow lim f.tree sign r.sums f.weight f.wanted f.surplus f.held_size f.held_is i l)
      ∙ ring (sign ∷ ind (is_seen work.at i) ∷ lack ∷ []) (search quotes depth 12) (search quotes depth 12) refl
      ∙ ap (λ x. ind (is_seen work.at i) *ℤ x) (twice_signed sign sign lack sgn refl)
    where
      lack : ℤ
      lack = surplus_at r.sums work.off p.wanted p.weight i

  push_flow : (h : ℕ → ℤ) → ((x : ℕ) → share_of p r other x ≡ h x) → sum r.count (λ k. h (nat work.queue k)) ≡ r.sums.weight → (i : ℕ) → i < p.labels
      → flow p.gaps (nat p.left) (nat p.right) (push_load p mark r.count work share) i ≡ ind (is_seen work.at i) *ℤ h i -ℤ ind (eqb root i) *ℤ r.sums.weight
  push_flow h is total =
      load_flow lim f.tree (int f.share₁) (int share) h r.sums.weight (block_eliminates lim f.tree f.share₁ share f.share_size f.share_is) (λ k l. f.shares.inside k l ∙ is (nat work.queue k)) total

  mean_found : (N : ℤ) (X : ℕ → ℤ) (c : ℤ) → ((e : ℕ) → e < p.gaps → marks_of mark e ≡ true → X (nat p.right e) ≡ X (nat p.left e) +ℤ N *ℤ int p.distance e)
      → sum p.labels (λ i. ind (is_seen work.at i) *ℤ (pos 2 *ℤ (int p.weight i *ℤ (X i -ℤ N *ℤ int p.wanted i)))) ≡ c → (i : ℕ) → i < p.labels
      → is_seen work.at i ≡ true → pos 2 *ℤ (r.sums.weight *ℤ X i) ≡ pos 2 *ℤ (N *ℤ numerator r.sums work.off i) +ℤ c
  mean_found N X c tight balance =
      of_block lim f.tree (λ i. pos 2 *ℤ (r.sums.weight *ℤ X i) ≡ pos 2 *ℤ (N *ℤ numerator r.sums work.off i) +ℤ c)
      (λ k l. ap (λ w. pos 2 *ℤ (w *ℤ X (nat work.queue k))) f.weight
      ∙ mean_at (limits_graph mark lim) f.tree X N tight (int p.weight) (int p.wanted) c balance k l
      ∙ sym (ap₂ (λ v w. pos 2 *ℤ (N *ℤ (v +ℤ int work.off (nat work.queue k) *ℤ w)) +ℤ c) f.wanted f.weight))

  side_with : IsSign sign → (h : ℕ → ℤ) → ((x : ℕ) → share_of p r other x ≡ h x) → sum r.count (λ k. h (nat work.queue k)) ≡ r.sums.weight
      → BlockSide (numbers_of p) (marks_of mark) root (is_seen work.at) r.sums.weight (numerator r.sums work.off) h
      (rest_load p mark sign r.count work held) (push_load p mark r.count work share)
  side_with sgn h is total =
      record {
        root_in = root_seen (limits_graph mark lim) f.tree;
        above = weight_above;
        inside = gaps_inside lim f.tree;
        r_only = λ e l m. ap (λ x. sign *ℤ x) (along_only (limits_graph mark lim) f.tree (int held) e l m) ∙ *ℤ-zero sign;
        q_only = along_only (limits_graph mark lim) f.tree (int share);
        r_flow = rest_flow sgn;
        q_flow = push_flow h is total;
        mean = mean_found;
      }

  -- the other end stands elsewhere: the shares are the weights
  pub block_side_apart : IsSign sign → r.joined ≡ false
      → BlockSide (numbers_of p) (marks_of mark) root (is_seen work.at) r.sums.weight (numerator r.sums work.off) (int p.weight)
      (rest_load p mark sign r.count work held) (push_load p mark r.count work share)
  block_side_apart sgn j = side_with sgn (int p.weight) (λ x. ap (λ b. cond b (only_at other r.sums.weight x) (int p.weight x)) j) (sym f.weight)

  -- it stands in the block: all the weight is its share
  pub block_side_joined : IsSign sign → other < p.labels → r.joined ≡ true
      → BlockSide (numbers_of p) (marks_of mark) root (is_seen work.at) r.sums.weight (numerator r.sums work.off)
      (λ i. ind (eqb other i) *ℤ r.sums.weight) (rest_load p mark sign r.count work held) (push_load p mark r.count work share)
  block_side_joined sgn lo j =
      side_with sgn (λ i. ind (eqb other i) *ℤ r.sums.weight)
      (λ x. ap (λ b. cond b (only_at other r.sums.weight x) (int p.weight x)) j ∙ only_ind (eqb x other) r.sums.weight ∙ ap (λ b. ind b *ℤ r.sums.weight) (eqb_sym x other))
      (tree_sum (limits_graph mark lim) f.tree (λ i. ind (eqb other i) *ℤ r.sums.weight)
      ∙ at_label p.labels (λ i. ind (is_seen work.at i)) other lo r.sums.weight
      ∙ ap (λ b. ind b *ℤ r.sums.weight) (sym f.joined ∙ j)
      ∙ one_*ℤ r.sums.weight)

  -- ---- the breaking points

  pub rest_at : (k : ℕ) → 0 < k → k < r.count
      → rest_load p mark sign r.count work held (nat work.via (nat work.queue k))
      ≡ sign *ℤ (toward (graph_of p mark) work.via work.up (nat work.queue k) *ℤ int held (nat work.queue k))
  rest_at k h l = ap (λ x. sign *ℤ x) (along_at (limits_graph mark lim) f.tree (int held) k h l)

  pub push_at : (k : ℕ) → 0 < k → k < r.count
      → push_load p mark r.count work share (nat work.via (nat work.queue k))
      ≡ toward (graph_of p mark) work.via work.up (nat work.queue k) *ℤ int share (nat work.queue k)
  push_at k h l = along_at (limits_graph mark lim) f.tree (int share) k h l

  -- the losing end is the label itself where its gap points the way of the sign
  losing_toward : IsSign sign → (k : ℕ) → 0 < k → k < r.count
      → (losing_end sign p.left p.right (nat work.via (nat work.queue k)) ≡ nat work.queue k)
      ↔ (toward (graph_of p mark) work.via work.up (nat work.queue k) ≡ sign)
  losing_toward sgn k h l = ⊎_elim (λ (s : sign ≡ pos 1). rw s (plus ways)) (λ (s : sign ≡ negsuc 0). rw s (minus ways)) sgn
    where
      x : ℕ
      x = nat work.queue k

      ways : Hangs (graph_of p mark) work.via work.up x
      ways = hangs (limits_graph mark lim) f.tree k h l

      own : nat work.up x ≡ x → ⊥
      own q = omega (arith, (f.tree.linked k h l).later, ap (nat work.at) q)

      plus : Hangs (graph_of p mark) work.via work.up x → (nat p.right (nat work.via x) ≡ x) ↔ (toward (graph_of p mark) work.via work.up x ≡ pos 1)
      plus (away a b t) = (λ _. t, λ _. b)
      plus (back a b t) = (λ q. absurd (own (sym a ∙ q)), λ q. absurd (two_ways (sym q ∙ t)))

      minus : Hangs (graph_of p mark) work.via work.up x → (nat p.left (nat work.via x) ≡ x) ↔ (toward (graph_of p mark) work.via work.up x ≡ negsuc 0)
      minus (away a b t) = (λ q. absurd (own (sym a ∙ q)), λ q. absurd (two_ways (sym t ∙ q)))
      minus (back a b t) = (λ _. t, λ _. b)

  toward_sign : (k : ℕ) → 0 < k → k < r.count → IsSign (toward (graph_of p mark) work.via work.up (nat work.queue k))
  toward_sign k h l = go (hangs (limits_graph mark lim) f.tree k h l)
    where
      go : Hangs (graph_of p mark) work.via work.up (nat work.queue k) → IsSign (toward (graph_of p mark) work.via work.up (nat work.queue k))
      go (away a b t) = inl t
      go (back a b t) = inr t

  -- there the arrays hold what its gap carries, and what that loses with the push
  held_there : IsSign sign → (k : ℕ) → 0 < k → k < r.count → toward (graph_of p mark) work.via work.up (nat work.queue k) ≡ sign
      → int held (nat work.queue k) ≡ rest_load p mark sign r.count work held (nat work.via (nat work.queue k))
  held_there sgn k h l t = sym (rest_at k h l ∙ twice_signed sign (toward (graph_of p mark) work.via work.up (nat work.queue k)) (int held (nat work.queue k)) sgn t)

  share_there : IsSign sign → (k : ℕ) → 0 < k → k < r.count → toward (graph_of p mark) work.via work.up (nat work.queue k) ≡ sign
      → int share (nat work.queue k) ≡ sign *ℤ push_load p mark r.count work share (nat work.via (nat work.queue k))
  share_there sgn k h l t = sym (ap (λ x. sign *ℤ x) (push_at k h l) ∙ twice_signed sign (toward (graph_of p mark) work.via work.up (nat work.queue k)) (int share (nat work.queue k)) sgn t)

  -- what the candidate work.at a position says of its label's gap
  pub candidate_says : IsSign sign → (k : ℕ) → 0 < k → k < r.count → {x : BreakingPoint} → candidate_of p sign work held share k ≡ Some x
      → Breaks (numbers_of p) (marks_of mark) (is_seen work.at) (rest_load p mark sign r.count work held) (λ c. sign *ℤ push_load p mark r.count work share c) x
  candidate_says sgn k h l {x} is = rw t.is here
    where
      y : ℕ
      y = nat work.queue k

      c : ℕ
      c = nat work.via y

      t : MadeOf p sign work held share k x
      t = made_of p sign work held share k is

      way : toward (graph_of p mark) work.via work.up y ≡ sign
      way = (losing_toward sgn k h l).0 t.breaks.loses

      here : Breaks (numbers_of p) (marks_of mark) (is_seen work.at) (rest_load p mark sign r.count work held)
          (λ c. sign *ℤ push_load p mark r.count work share c) (record { gap = gap_number c; push = over (int held y) (int share y) })
      here =
          record {
            gap_in = (f.tree.linked k h l).gap_in;
            marked = eq-eqb (nat mark c) 1 (f.tree.linked k h l).marked;
            left_seen = (via_seen (limits_graph mark lim) f.tree k h l).0;
            right_seen = (via_seen (limits_graph mark lim) f.tree k h l).1;
            kind = ap kind_of t.breaks.at_least;
            num = held_there sgn k h l way;
            den = share_there sgn k h l way;
            above = rw (t.is, share_there sgn k h l way) at t.above;
          }

  -- a position whose gap loses with the push is a candidate
  candidate_here : IsSign sign → (k : ℕ) → 0 < k → k < r.count → pos 0 ≤ℤ int share (nat work.queue k)
      → kind_of (nat p.kind (nat work.via (nat work.queue k))) ≡ at_least
      → pos 0 <ℤ (sign *ℤ push_load p mark r.count work share (nat work.via (nat work.queue k)))
      → candidate_of p sign work held share k
      ≡ point_at (nat work.via (nat work.queue k)) (rest_load p mark sign r.count work held (nat work.via (nat work.queue k)))
      (sign *ℤ push_load p mark r.count work share (nat work.via (nat work.queue k)))
  candidate_here sgn k h l n kd a =
      breaks_at p sign work held share k
      (record { at_least = kind_least (nat p.kind c) kd; some = parts_le (omega (arith, lt_parts above)); loses = (losing_toward sgn k h l).1 way })
      ∙ ap₂ (λ (num den : ℤ). Some (record { gap = gap_number c; push = over num den })) (held_there sgn k h l way) is
    where
      x : ℕ
      x = nat work.queue k

      c : ℕ
      c = nat work.via x

      way : toward (graph_of p mark) work.via work.up x ≡ sign
      way = same_sign sign (toward (graph_of p mark) work.via work.up x) (int share x) sgn (toward_sign k h l) n (rw (push_at k h l) at a)

      is : int share x ≡ sign *ℤ push_load p mark r.count work share c
      is = share_there sgn k h l way

      above : pos 0 <ℤ int share x
      above = rw is a

  module _ (indep : Independent p.labels p.gaps (nat p.left) (nat p.right) (marks_of mark)) where
    -- every marked gap of the block that loses with the push is a candidate work.at some position
    pub candidate_found : IsSign sign → (e : ℕ) → e < p.gaps → marks_of mark e ≡ true → is_seen work.at (nat p.left e) ≡ true
        → kind_of (nat p.kind e) ≡ at_least → pos 0 <ℤ (sign *ℤ push_load p mark r.count work share e)
        → (k : ℕ) × (0 < k) × (k < r.count)
        × (candidate_of p sign work held share k ≡ point_at e (rest_load p mark sign r.count work held e) (sign *ℤ push_load p mark r.count work share e))
    candidate_found sgn e l m s kd a =
        let q : (k : ℕ) × (0 < k) × (k < r.count) × (nat work.via (nat work.queue k) ≡ e) = parent_gaps_all (limits_graph mark lim) f.tree indep e l m s in (
          q.0,
          q.1,
          q.2,
          subst
              (λ (c : ℕ). kind_of (nat p.kind c) ≡ at_least → pos 0 <ℤ (sign *ℤ push_load p mark r.count work share c)
              → candidate_of p sign work held share q.0
              ≡ point_at c (rest_load p mark sign r.count work held c) (sign *ℤ push_load p mark r.count work share c))
              q.3 (candidate_here sgn q.0 q.1 q.2 (share_nonneg lim f q.0 q.2)) kd a,
        )

    -- work.at the left end of the pushing gap: r / q where q is above zero
    pub candidate_left : sign ≡ pos 1 → (e : ℕ) → e < p.gaps → marks_of mark e ≡ true → is_seen work.at (nat p.left e) ≡ true
        → kind_of (nat p.kind e) ≡ at_least → pos 0 <ℤ push_load p mark r.count work share e
        → (k : ℕ) × (0 < k) × (k < r.count)
        × (candidate_of p sign work held share k ≡ point_at e (rest_load p mark sign r.count work held e) (push_load p mark r.count work share e))
    candidate_left g e l m s kd a =
        let same : sign *ℤ push_load p mark r.count work share e ≡ push_load p mark r.count work share e = signed_plus sign (push_load p mark r.count work share e) g in
        let q = candidate_found (inl g) e l m s kd (rw same a) in
        (q.0, q.1, q.2, q.3 ∙ ap (λ (den : ℤ). Some (record { gap = gap_number e; push = over (rest_load p mark sign r.count work held e) den })) same)

    -- work.at the right end: r / -q where q is below zero
    pub candidate_right : sign ≡ negsuc 0 → (e : ℕ) → e < p.gaps → marks_of mark e ≡ true → is_seen work.at (nat p.left e) ≡ true
        → kind_of (nat p.kind e) ≡ at_least → push_load p mark r.count work share e <ℤ pos 0
        → (k : ℕ) × (0 < k) × (k < r.count)
        × (candidate_of p sign work held share k ≡ point_at e (rest_load p mark sign r.count work held e) (pos 0 -ℤ push_load p mark r.count work share e))
    candidate_right g e l m s kd a =
        let same : sign *ℤ push_load p mark r.count work share e ≡ pos 0 -ℤ push_load p mark r.count work share e = signed_minus sign (push_load p mark r.count work share e) g in
        let q = candidate_found (inr g) e l m s kd (rw same ((minus_above (push_load p mark r.count work share e)).1 a)) in
        (q.0, q.1, q.2, q.3 ∙ ap (λ (den : ℤ). Some (record { gap = gap_number e; push = over (rest_load p mark sign r.count work held e) den })) same)

  -- and what a candidate says, work.at either end
  pub says_left : sign ≡ pos 1 → (k : ℕ) → 0 < k → k < r.count → {x : BreakingPoint} → candidate_of p sign work held share k ≡ Some x
      → Breaks (numbers_of p) (marks_of mark) (is_seen work.at) (rest_load p mark sign r.count work held) (push_load p mark r.count work share) x
  says_left g k h l {x} is =
      breaks_as (push_load p mark r.count work share) (signed_plus sign (push_load p mark r.count work share x.gap.0) g) (candidate_says (inl g) k h l is)

  pub says_right : sign ≡ negsuc 0 → (k : ℕ) → 0 < k → k < r.count → {x : BreakingPoint} → candidate_of p sign work held share k ≡ Some x
      → Breaks (numbers_of p) (marks_of mark) (is_seen work.at) (rest_load p mark sign r.count work held) (λ c. pos 0 -ℤ push_load p mark r.count work share c) x
  says_right g k h l {x} is =
      breaks_as (λ c. pos 0 -ℤ push_load p mark r.count work share c) (signed_minus sign (push_load p mark r.count work share x.gap.0) g) (candidate_says (inr g) k h l is)
