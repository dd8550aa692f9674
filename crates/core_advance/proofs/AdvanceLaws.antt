-- What an advance comes to: from what is found of the blocks at the two ends, the state of the outer step that follows.
use mathlib.Core.Path.{◌≡◌, refl, sym, ◌∙◌, ap, ap₂}
use mathlib.Core.Logic.{inl, inr, ⊎_elim}
use mathlib.Core.Bool.{Bool, true, false, cond, ◌&&◌, true≢false}
use mathlib.Core.List.{List, [], ◌∷◌}
use Prim.Native.Nat.{ℕ, pred, ◌<◌}
use native.Mathlib.Omega.{arith}
use lib.IntN.{ℤ, pos, negsuc, ◌+ℤ◌, ◌-ℤ◌, ◌*ℤ◌, zero-*ℤ}
use lib.Signed.{◌≤ℤ◌, ◌<ℤ◌, le_z}
use lib.Dec.{eqb, ltb}
use borrow.Author.Tests.{eqb-true, eq-eqb, ltb-true, ltb-false, lt-ltb}
use Rattle.std.specs.declared.cmp.Ordering.{Ordering}
use Rattle.std.specs.declared.cmp.Ordering.TheVariants.{Less, Equal, Greater}
use Rattle.exact.specs.Divide.{order_of}
use Rattle.algebra.specs.Sum.{sum, ind}
use Rattle.algebra.proofs.Ring.{ring, quotes}
use Rattle.algebra.proofs.Whole.{one_*ℤ, le_parts, parts_le, lt_parts, parts_lt, parts-+, le_trans, le_of_eq, le_of_lt}
use Rattle.algebra.proofs.Sum.{sum_term_le}
use Rattle.exact.proofs.Ordering.{below_means, above_means, same_means}
use Rattle.algebra.proofs.Quotient.{le_z-of_test, test_of_le_z}
use Rattle.least_move.specs.Sheet.{at_least, gap_number, kind_of}
use Rattle.ground.specs.declared.GapNumber.{GapNumber}
use Rattle.least_move.proofs.Blocks.{not-true}
use Rattle.least_move.proofs.Sides.{BlockSide, drop_same, drop_left, drop_right, reach}
use Rattle.ground.specs.Entries.{nat, int}
use Rattle.core_elimination.specs.Block.{numerator}
use Rattle.core_elimination.proofs.TreeFlow.{is_seen, Eliminates, tree_parent, seen_found}
use Rattle.std.specs.Prelude.{Option, Some, None}
use Rattle.core_breaking.specs.declared.BreakingPoint.{BreakingPoint}
use Rattle.core_breaking.specs.declared.Side.{Side}
use Rattle.core_breaking.specs.Breaking.{over, nearer_of, candidate_of}
use Rattle.core_breaking.specs.Decide.{meeting_of, before_tight, against_tight, decided, within_block}
use Rattle.ground.specs.declared.problem.Problem.{Problem}
use Rattle.core_forest.specs.declared.search.Work.{Work}
use Rattle.core_forest.specs.Problem.{Limits, marks_of, numbers_of, IsForest}
use Rattle.core_forest.specs.Search.{Outside}
use Rattle.core_advance.specs.declared.Push.{Push}
use Rattle.core_advance.specs.Side.{SideFound}
use Rattle.core_advance.specs.Advance.{GapDropped, GapReached, BlockedBy, Gives, SearchedFrom}
use Rattle.core_breaking.proofs.BreakingPoints.{NoLater, Above0, Each, no_later_trans, nearer_one, nearer_first, nearer_second, nearer_none, nearer_above0}
use Rattle.core_breaking.proofs.BreakingPoints.{cross, here_above0, breaks_at, Least, least_at, least_above0, least_no_later, least_none}
use Rattle.core_elimination.proofs.SearchedBlock.{limits_graph, of_block, as_root, block_eliminates}
use Rattle.core_advance.proofs.EndBlock.{sums_range, share_moderate, share_grows, share_nonneg}
use Rattle.core_advance.proofs.SideLaws.{Breaks, rest_load, push_load, sound, minus_above, block_side_apart, block_side_joined, says_left, says_right, candidate_left, candidate_right}
use Rattle.core_forest.proofs.GapKinds.{kind_least}

-- ---- plain numbers

le_at : {R R' P P' : ℤ} (x y : ℤ) → R ≡ R' → P ≡ P' → (R *ℤ y) ≤ℤ (x *ℤ P) → (R' *ℤ y) ≤ℤ (x *ℤ P')
le_at x y i j h = rw (← i, ← j) h

lt_at : {R R' P P' : ℤ} (M Z : ℤ) → R ≡ R' → P ≡ P' → (R *ℤ Z) <ℤ (M *ℤ P) → (R' *ℤ Z) <ℤ (M *ℤ P')
lt_at M Z i j h = rw (← i, ← j) h

nonneg_term : (b : Bool) (v : ℤ) → pos 0 ≤ℤ v → pos 0 ≤ℤ (ind b *ℤ v)
nonneg_term true v h = rw (one_*ℤ v) h
nonneg_term false v h = rw (zero-*ℤ v) (le_of_eq refl)

plus_nonneg : (u v : ℤ) → pos 0 ≤ℤ u → v ≤ℤ (u +ℤ v)
plus_nonneg u v h = parts_le (omega (arith, parts-+ u v, le_parts h))

-- the place of a root, whose offset is zero
at_root : (P W o : ℤ) → o ≡ pos 0 → P ≡ P +ℤ o *ℤ W
at_root P W o e = rw e (ring (P ∷ W ∷ []) (search quotes depth 12) (search quotes depth 12) refl)

-- ---- one block

module _ {p : Problem} {mark : List ℕ} {root other : ℕ} {sign : ℤ} {r : Side} {work : Work} {held share : List ℤ} (lim : Limits p) (f : SideFound p mark root other sign r work held share) where
  -- a label holds work.at least what one behind it holds
  share_climbs : (k : ℕ) → 0 < k → k < r.count → int share (nat work.queue k) ≤ℤ int share (nat work.up (nat work.queue k))
  share_climbs k s l = rw (← q.1) (le_trans term (rw (holds j lj) (plus_nonneg (int f.share₁ (nat work.queue j)) (sum r.count behind) ((share_moderate lim f).nonneg j lj))))
    where
      q : (pred (nat work.at (nat work.up (nat work.queue k))) < k) × (nat work.queue (pred (nat work.at (nat work.up (nat work.queue k)))) ≡ nat work.up (nat work.queue k))
      q = tree_parent (limits_graph mark lim) f.tree k s l

      j : ℕ
      j = pred (nat work.at (nat work.up (nat work.queue k)))

      lj : j < r.count
      lj = omega (arith, q.0)

      behind : ℕ → ℤ
      behind i = ind (ltb 0 i && eqb (nat work.up (nat work.queue i)) (nat work.queue j)) *ℤ int share (nat work.queue i)

      holds : Eliminates r.count work.queue work.up (int f.share₁) (int share)
      holds = block_eliminates lim f.tree f.share₁ share f.share_size f.share_is

      term : int share (nat work.queue k) ≤ℤ sum r.count behind
      term =
          le_trans
          (le_of_eq (sym (
          ap₂ (λ (x y : Bool). ind (x && y) *ℤ int share (nat work.queue k)) (lt-ltb 0 k s)
          (eq-eqb (nat work.up (nat work.queue k)) (nat work.queue j) (sym q.1))
          ∙ one_*ℤ (int share (nat work.queue k)))))
          (sum_term_le r.count behind (λ i li. nonneg_term (ltb 0 i && eqb (nat work.up (nat work.queue i)) (nat work.queue j)) (int share (nat work.queue i)) (share_nonneg lim f i li)) k l)

  abbrev breaks : ℕ → Option BreakingPoint
  breaks = candidate_of p sign work held share

  breaks_above : Each r.count Above0 breaks
  breaks_above k s l = here_above0 p sign work held share k

  first_above : Above0 r.first
  first_above = rw f.first (least_above0 r.count breaks breaks_above)

  first_least : {x : BreakingPoint} → r.first ≡ Some x → Least r.count breaks x
  first_least is = least_at breaks_above (sym f.first ∙ is)

  -- what comes no later than the first breaking point comes no later than any
  before_all : (x : Option BreakingPoint) → Above0 x → NoLater x r.first → (k : ℕ) → 0 < k → k < r.count → NoLater x (breaks k)
  before_all x h n k s l =
      no_later_trans x r.first (breaks k) h first_above (breaks_above k s l) n (rw f.first (least_no_later r.count breaks breaks_above k s l))

  abbrev pub searched_from : {work₀ : Work} → Outside p.labels root r.count work₀ work → SearchedFrom p mark root work₀ work
  searched_from rest = record { tree = rw (← f.counted) at f.tree; rest = rw (← f.counted) at rest }

  pub stands_apart : r.joined ≡ false → nat work.at other ≡ 0
  stands_apart is = omega (arith, ltb-false 0 (nat work.at other) (sym f.joined ∙ is))

-- ---- the two ends stand in one block

module _ {p : Problem} {mark : List ℕ} (push : Push) {one : Side} {work : Work} {held share : List ℤ} (lim : Limits p) (la : push.from.0 < p.labels)
    (lb : push.to.0 < p.labels) (f : SideFound p mark push.from.0 push.to.0 (pos 1) one work held share) (j : one.joined ≡ true) where
  both : is_seen work.at push.to.0 ≡ true
  both = sym f.joined ∙ j

  -- the first breaking point gives way
  drop_within : {x : BreakingPoint} → one.first ≡ Some x → GapDropped p mark push x.gap.0
  drop_within {x} is =
      record {
        gap_in = says.gap_in;
        marked = eqb-true (nat mark x.gap.0) 1 says.marked;
        pushed = λ num den indep pushed F wo.
            drop_same (numbers_of p) (marks_of mark) push.from.0 push.to.0 push.reach num den la lb (sound lim) indep pushed
            (is_seen work.at) one.sums.weight (numerator one.sums work.off) rest lost
            (block_side_joined lim f (inl refl) lb j) both x.gap.0 says.gap_in says.marked says.left_seen says.kind says.above (least indep) F wo;
      }
    where
      rest : ℕ → ℤ
      rest = rest_load p mark (pos 1) one.count work held

      lost : ℕ → ℤ
      lost = push_load p mark one.count work share

      first : Least one.count (breaks lim f) x
      first = first_least lim f is

      says : Breaks (numbers_of p) (marks_of mark) (is_seen work.at) rest lost x
      says = says_left lim f refl first.found.position first.found.some first.found.within first.found.there

      least : IsForest p mark → (c : ℕ) → c < p.gaps → marks_of mark c ≡ true → is_seen work.at (nat p.left c) ≡ true → kind_of (nat p.kind c) ≡ at_least
          → pos 0 <ℤ lost c → (rest x.gap.0 *ℤ lost c) ≤ℤ (rest c *ℤ lost x.gap.0)
      least indep c l m s kd above =
          let q = candidate_left lim f indep refl c l m s kd above in
          le_at (rest c) (lost c) says.num says.den (first.no_later q.0 q.1 q.2 _ q.3)

  -- where there is none nothing does: the way from the one end up to the other is where the shares are above zero
  blocked : one.first ≡ None → BlockedBy p mark push work
  blocked is =
      rw f.counted
      (record {
        tree = f.tree;
        joined = ltb-true 0 (nat work.at push.to.0) both;
        on_way = λ x. le_z (pos 1) (int share x);
        starts = starts;
        climbs = λ k s l way.
            let some = le_z-of_test {a = pos 1} {b = int share (nat work.queue k)} way in
            test_of_le_z {a = pos 1} {b = int share (nat work.up (nat work.queue k))} (le_trans some (share_climbs lim f k s l));
        points = points;
      })
    where
      starts : le_z (pos 1) (int share push.to.0) ≡ true
      starts =
          let q : (k : ℕ) × (k < one.count) × (nat work.queue k ≡ push.to.0) = seen_found (limits_graph mark lim) f.tree push.to.0 lb both in
          let own : int f.share₁ (nat work.queue q.0) ≡ one.sums.weight =
          f.shares.inside q.0 q.1 ∙ ap₂ (λ (x y : Bool). cond x (cond y one.sums.weight (pos 0)) (int p.weight (nat work.queue q.0))) j (eq-eqb (nat work.queue q.0) push.to.0 q.2) in
          test_of_le_z {a = pos 1} {b = int share push.to.0} (rw (← q.2) (le_trans (sums_range lim f).weight_low (rw own at (share_grows lim f q.0 q.1))))

      points : (k : ℕ) → 0 < k → k < one.count → le_z (pos 1) (int share (nat work.queue k)) ≡ true
          → kind_of (nat p.kind (nat work.via (nat work.queue k))) ≡ at_least → nat p.right (nat work.via (nat work.queue k)) ≡ nat work.queue k → ⊥
      points k s l way kd end =
          let point : breaks lim f k ≡ Some (record { gap = gap_number (nat work.via (nat work.queue k)); push = over (int held (nat work.queue k)) (int share (nat work.queue k)) }) =
          breaks_at p (pos 1) work held share k
          (record {
            at_least = kind_least (nat p.kind (nat work.via (nat work.queue k))) kd;
            some = le_z-of_test {a = pos 1} {b = int share (nat work.queue k)} way;
            loses = end;
          }) in
          let none : breaks lim f k ≡ None = least_none one.count (breaks lim f) (sym f.first ∙ is) k s l in
          let z : ◌≡◌ {A = ℕ} 0 1 = cc (sym none ∙ point) in omega arith

  pub within_gives : Gives p mark push (within_block one.first) work
  within_gives = go one.first refl
    where
      go : (x : Option BreakingPoint) → one.first ≡ x → Gives p mark push (within_block x) work
      go None is = blocked is
      go (Some x) is = drop_within is

-- ---- the two ends stand in different blocks

module _ {p : Problem} {mark : List ℕ} (push : Push) {one two : Side} {work₁ work₂ : Work} {held₁ share₁ held₂ share₂ : List ℤ} (lim : Limits p)
    (la : push.from.0 < p.labels) (lb : push.to.0 < p.labels) (f₁ : SideFound p mark push.from.0 push.to.0 (pos 1) one work₁ held₁ share₁)
    (f₂ : SideFound p mark push.to.0 push.from.0 (negsuc 0) two work₂ held₂ share₂) (j : one.joined ≡ false) where
  abbrev r₁ : ℕ → ℤ
  r₁ = rest_load p mark (pos 1) one.count work₁ held₁

  abbrev q₁ : ℕ → ℤ
  q₁ = push_load p mark one.count work₁ share₁

  abbrev r₂ : ℕ → ℤ
  r₂ = rest_load p mark (negsuc 0) two.count work₂ held₂

  abbrev q₂ : ℕ → ℤ
  q₂ = push_load p mark two.count work₂ share₂

  abbrev W₁ : ℤ
  W₁ = one.sums.weight

  abbrev W₂ : ℤ
  W₂ = two.sums.weight

  side₁ : BlockSide (numbers_of p) (marks_of mark) push.from.0 (is_seen work₁.at) W₁ (numerator one.sums work₁.off) (int p.weight) r₁ q₁
  side₁ = block_side_apart lim f₁ (inl refl) j

  -- no label of the block of b is one of the block of a: b itself is not, and a marked gap does not leave a block
  outside : (k : ℕ) → k < two.count → is_seen work₁.at (nat work₂.queue k) ≡ false
  outside k l = as_root lim f₂.tree (is_seen work₁.at) side₁.inside k l ∙ sym f₁.joined ∙ j

  apart : (i : ℕ) → i < p.labels → is_seen work₁.at i ≡ true → is_seen work₂.at i ≡ true → ⊥
  apart i l s t = true≢false (sym s ∙ of_block lim f₂.tree (λ x. is_seen work₁.at x ≡ false) outside i l t)

  side₂ : BlockSide (numbers_of p) (marks_of mark) push.to.0 (is_seen work₂.at) W₂ (numerator two.sums work₂.off) (int p.weight) r₂ q₂
  side₂ = block_side_apart lim f₂ (inr refl) (f₂.joined ∙ not-true (is_seen work₂.at push.from.0) (apart push.from.0 la side₁.root_in))

  -- ---- the push at which the gap is tight

  abbrev Z : ℤ
  Z = W₁ +ℤ W₂

  abbrev M : ℤ
  M = pos 2 *ℤ (numerator one.sums work₁.off push.from.0 *ℤ W₂ +ℤ push.reach *ℤ (W₁ *ℤ W₂) -ℤ numerator two.sums work₂.off push.to.0 *ℤ W₁)

  Z-above : pos 0 <ℤ Z
  Z-above = parts_lt (omega (arith, lt_parts side₁.above, lt_parts side₂.above, parts-+ W₁ W₂))

  -- as a breaking point of a gap
  abbrev tight_at : GapNumber → BreakingPoint
  tight_at e = record { gap = e; push = over M Z }

  meets : meeting_of push.reach one.sums two.sums ≡ M
  meets =
      ap₂ (λ x y. pos 2 *ℤ (x *ℤ W₂ +ℤ push.reach *ℤ (W₁ *ℤ W₂) -ℤ y *ℤ W₁))
      (at_root one.sums.wanted W₁ (int work₁.off push.from.0) f₁.tree.origin)
      (at_root two.sums.wanted W₂ (int work₂.off push.to.0) f₂.tree.origin)

  -- ---- no breaking point of either block is below x, where that comes no later than the first of each

  module _ (indep : IsForest p mark) (x : BreakingPoint) (above : pos 0 <ℤ x.push.den) where
    none_left : NoLater (Some x) one.first → (c : ℕ) → c < p.gaps → marks_of mark c ≡ true → is_seen work₁.at (nat p.left c) ≡ true
        → kind_of (nat p.kind c) ≡ at_least → pos 0 <ℤ q₁ c → (x.push.num *ℤ q₁ c) ≤ℤ (r₁ c *ℤ x.push.den)
    none_left n c l m s kd q =
        let k = candidate_left lim f₁ indep refl c l m s kd q in
        cross {x = x} (before_all lim f₁ (Some x) above n k.0 k.1 k.2) refl k.3

    none_right : NoLater (Some x) two.first → (c : ℕ) → c < p.gaps → marks_of mark c ≡ true → is_seen work₂.at (nat p.left c) ≡ true
        → kind_of (nat p.kind c) ≡ at_least → q₂ c <ℤ pos 0 → (x.push.num *ℤ (pos 0 -ℤ q₂ c)) ≤ℤ (r₂ c *ℤ x.push.den)
    none_right n c l m s kd q =
        let k = candidate_right lim f₂ indep refl c l m s kd q in
        cross {x = x} (before_all lim f₂ (Some x) above n k.0 k.1 k.2) refl k.3

  -- ---- what gives way

  -- nothing before the gap is tight
  reached_at : (e : GapNumber) → NoLater (Some (tight_at e)) one.first → NoLater (Some (tight_at e)) two.first → GapReached p mark push
  reached_at e n₁ n₂ =
      record {
        block = is_seen work₁.at;
        from = side₁.root_in;
        to = sym f₁.joined ∙ j;
        inside = side₁.inside;
        settled = λ num den indep pushed.
            reach (numbers_of p) (marks_of mark) push.from.0 push.to.0 push.reach num den la lb (sound lim) indep pushed
            (is_seen work₁.at) (is_seen work₂.at) W₁ W₂ (numerator one.sums work₁.off) (numerator two.sums work₂.off) r₁ q₁ r₂ q₂ side₁ side₂ apart
            (none_left indep (tight_at e) Z-above n₁, none_right indep (tight_at e) Z-above n₂);
      }

  -- a breaking point before that, of the left block or of the right one
  module _ {x : BreakingPoint} (above : pos 0 <ℤ x.push.den) (n₁ : NoLater (Some x) one.first) (n₂ : NoLater (Some x) two.first) (before : (x.push.num *ℤ Z) <ℤ (M *ℤ x.push.den)) where
    dropped_left : one.first ≡ Some x → GapDropped p mark push x.gap.0
    dropped_left is =
        record {
          gap_in = says.gap_in;
          marked = eqb-true (nat mark x.gap.0) 1 says.marked;
          pushed = λ num den indep pushed.
              drop_left (numbers_of p) (marks_of mark) push.from.0 push.to.0 push.reach num den la lb (sound lim) indep pushed
              (is_seen work₁.at) (is_seen work₂.at) W₁ W₂ (numerator one.sums work₁.off) (numerator two.sums work₂.off) r₁ q₁ r₂ q₂ side₁ side₂ apart
              x.gap.0 says.gap_in says.marked says.left_seen says.kind says.above (
                λ c l m s kd q. le_at (r₁ c) (q₁ c) says.num says.den (none_left indep x above n₁ c l m s kd q),
                λ c l m s kd q. le_at (r₂ c) (pos 0 -ℤ q₂ c) says.num says.den (none_right indep x above n₂ c l m s kd q),
              )
              (lt_at M Z says.num says.den before);
        }
      where
        first : Least one.count (breaks lim f₁) x
        first = first_least lim f₁ is

        says : Breaks (numbers_of p) (marks_of mark) (is_seen work₁.at) r₁ q₁ x
        says = says_left lim f₁ refl first.found.position first.found.some first.found.within first.found.there

    dropped_right : two.first ≡ Some x → GapDropped p mark push x.gap.0
    dropped_right is =
        record {
          gap_in = says.gap_in;
          marked = eqb-true (nat mark x.gap.0) 1 says.marked;
          pushed = λ num den indep pushed.
              drop_right (numbers_of p) (marks_of mark) push.from.0 push.to.0 push.reach num den la lb (sound lim) indep pushed
              (is_seen work₁.at) (is_seen work₂.at) W₁ W₂ (numerator one.sums work₁.off) (numerator two.sums work₂.off) r₁ q₁ r₂ q₂ side₁ side₂ apart
              x.gap.0 says.gap_in says.marked says.left_seen says.kind ((minus_above (q₂ x.gap.0)).0 says.above) (
                λ c l m s kd q. le_at (r₁ c) (q₁ c) says.num says.den (none_left indep x above n₁ c l m s kd q),
                λ c l m s kd q. le_at (r₂ c) (pos 0 -ℤ q₂ c) says.num says.den (none_right indep x above n₂ c l m s kd q),
              )
              (lt_at M Z says.num says.den before);
        }
      where
        first : Least two.count (breaks lim f₂) x
        first = first_least lim f₂ is

        says : Breaks (numbers_of p) (marks_of mark) (is_seen work₂.at) r₂ (λ c. pos 0 -ℤ q₂ c) x
        says = says_right lim f₂ refl first.found.position first.found.some first.found.within first.found.there

  -- the nearer of the two first breaking points, against the push at which the gap is tight
  abbrev near : Option BreakingPoint
  near = nearer_of one.first two.first

  near_above : Above0 near
  near_above = nearer_above0 one.first two.first (first_above lim f₁) (first_above lim f₂)

  reached_none : near ≡ None → GapReached p mark push
  reached_none is =
      let both = (nearer_none one.first two.first).0 is in
      reached_at (gap_number 0) (rw both.0 tt) (rw both.1 tt)

  module _ {x : BreakingPoint} (is : near ≡ Some x) where
    reached_first : (M *ℤ x.push.den) ≤ℤ (x.push.num *ℤ Z) → GapReached p mark push
    reached_first later =
        let first : NoLater (Some (tight_at x.gap)) near = rw is later in
        reached_at x.gap
        (no_later_trans (Some (tight_at x.gap)) near one.first Z-above near_above (first_above lim f₁) first (nearer_first one.first two.first))
        (no_later_trans (Some (tight_at x.gap)) near two.first Z-above near_above (first_above lim f₂) first (nearer_second one.first two.first))

    dropped_first : (x.push.num *ℤ Z) <ℤ (M *ℤ x.push.den) → GapDropped p mark push x.gap.0
    dropped_first before =
        let above : pos 0 <ℤ x.push.den = rw is at near_above in
        let n₁ : NoLater (Some x) one.first = rw is at (nearer_first one.first two.first) in
        let n₂ : NoLater (Some x) two.first = rw is at (nearer_second one.first two.first) in
        ⊎_elim
        (λ (i : near ≡ one.first). dropped_left above n₁ n₂ before (sym i ∙ is))
        (λ (i : near ≡ two.first). dropped_right above n₁ n₂ before (sym i ∙ is))
        (nearer_one one.first two.first)

    against : (w : Work) (o : Ordering) → order_of x.push (over M Z) ≡ o → Gives p mark push (before_tight o x.gap) w
    unfolding order_of
    against w Less told = dropped_first (below_means (x.push.num *ℤ Z) (M *ℤ x.push.den) told)
    against w Equal told = reached_first (le_of_eq (sym (same_means (x.push.num *ℤ Z) (M *ℤ x.push.den) told)))
    against w Greater told = reached_first (le_of_lt (above_means (x.push.num *ℤ Z) (M *ℤ x.push.den) told))

  pub decide_gives : (w : Work) → Gives p mark push (decided push.reach one two) w
  decide_gives w = go near refl
    where
      go : (x : Option BreakingPoint) → near ≡ x → Gives p mark push (against_tight push.reach one.sums two.sums x) w
      go None is = reached_none is
      go (Some x) is = against is w (order_of x.push (over (meeting_of push.reach one.sums two.sums) Z)) (ap (λ (m : ℤ). order_of x.push (over m Z)) (sym meets))
