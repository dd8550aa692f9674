-- Where nothing gives way within a block, the gap that pushes and the way back to its near end are a ring.
use mathlib.Core.Path.{◌≡◌, refl, sym, ◌∙◌, ap, ap₂, subst}
use mathlib.Core.Logic.{◌⊎◌, inl, inr, ◌≢◌, ⊎_elim}
use mathlib.Core.Bool.{Bool, true, false, cond, ◌&&◌, true≢false}
use mathlib.Core.List.{List, [], ◌∷◌, map}
use Prim.Native.Nat.{ℕ, zero, suc, ◌≤◌, ◌<◌}
use native.Mathlib.Omega.{arith}
use lib.Dec.{eqb, ltb}
use lib.ListN.{take}
use lib.IntN.{ℤ, pos, neg_ℤ, ◌+ℤ◌, ◌-ℤ◌, ◌*ℤ◌, *ℤ-zero}
use lib.Signed.{◌<ℤ◌}
use borrow.Author.Tests.{ltb-true, lt-ltb, eqb-true, eqb-false, eq-eqb, ne_eqb}
use Rattle.algebra.proofs.Whole.{*ℤ-lt_cancel}
use Rattle.algebra.proofs.Ring.{ring, quotes}
use Rattle.least_move.specs.Sheet.{Sheet, Kind, at_least, exactly, ignored, label, kind_of}
use Rattle.least_move.specs.Marks.{Step, start, finish, Leads}
use Rattle.least_move.specs.Ring.{Ring, Passable, distance_of, distance_sum, OnceLeft, step_of, steps_of, IsRing}
use Rattle.least_move.specs.States.{viol, Numbers, Pushed, Pushes}
use Rattle.core_forest.specs.Tree.{Linked}
use Rattle.ground.specs.Entries.{nat, int, Each}
use Rattle.ground.specs.declared.problem.Problem.{Problem}
use Rattle.core_forest.specs.Problem.{Limits, graph_of, marks_of, numbers_of, sheet_from}
use Rattle.core_advance.specs.Advance.{Blocked}
use Rattle.core_worst_gap.specs.declared.Lacking.{Lacking}
use Rattle.core_ring.specs.declared.Ring.{Ring as Lists}
use Rattle.core_ring.specs.declared.RingSize.{RingSize}
use Rattle.core_ring.specs.Way.{Climbable, WayWritten, way_from, gap_above, back_at}
use Rattle.core_ring.proofs.Climb.{way_more, way_done}
use Rattle.ground.proofs.Each.{each_map}

-- ---- plain facts

and_left : (s t : Bool) → (s && t) ≡ true → s ≡ true
and_left true t e = refl
and_left false t e = e

and_right : (s t : Bool) → (s && t) ≡ true → t ≡ true
and_right true t e = e
and_right false t e = absurd (true≢false (sym e))

and_both : {s t : Bool} → s ≡ true → t ≡ true → (s && t) ≡ true
and_both {s} {t} p q = rw (p, q)

-- a gap that asks something, and is passed forwards if it is of the kind at least, may be passed
passable : (k : Kind) (t : Bool) → k ≢ ignored → (k ≡ at_least → t ≡ false) → Passable k t
passable at_least t h f = f refl
passable exactly t h f = tt
passable ignored t h f = absurd (h refl)

steps_map : (f g : ℕ → ℕ) (l : List ℕ) → steps_of (map f l) (map g l) ≡ map (λ x. step_of (f x) (g x)) l
steps_map f g [] = refl
steps_map f g (x ∷ l) = ap (λ (r : List Step). step_of (f x) (g x) ∷ r) (steps_map f g l)

-- ---- the labels of the way that stand in the block
module _ {p : Problem} {mark : List ℕ} {a b count : ℕ} {at queue via up : List ℕ} {off : List ℤ} (bl : Blocked p mark a b count at queue via up off) where
  abbrev pub on : ℕ → Bool
  on x = bl.on_way x && (ltb x p.labels && ltb 0 (nat at x))

  on_way_lem : (x : ℕ) → on x ≡ true → bl.on_way x ≡ true
  on_way_lem x e = and_left (bl.on_way x) _ e

  on_label : (x : ℕ) → on x ≡ true → x < p.labels
  on_label x e = ltb-true x p.labels (and_left _ (ltb 0 (nat at x)) (and_right (bl.on_way x) _ e))

  on_seen : (x : ℕ) → on x ≡ true → 0 < nat at x
  on_seen x e = ltb-true 0 (nat at x) (and_right (ltb x p.labels) _ (and_right (bl.on_way x) _ e))

  on_all : (x : ℕ) → bl.on_way x ≡ true → x < p.labels → 0 < nat at x → on x ≡ true
  on_all x e l s = and_both e (and_both (lt-ltb x p.labels l) (lt-ltb 0 (nat at x) s))

  -- where such a label stands in the queue
  queued : (x : ℕ) → on x ≡ true → (k : ℕ) × (k < count) × (nat queue k ≡ x) × (nat at x ≡ suc k)
  queued x e = go (nat at x) refl
    where
      go : (m : ℕ) → nat at x ≡ m → (k : ℕ) × (k < count) × (nat queue k ≡ x) × (nat at x ≡ suc k)
      go zero q = absurd (omega (arith, on_seen x e))
      go (suc k) q =
          let f = bl.tree.found x (on_label x e) k q in
          (k, f.0, f.1, q)

  -- such a label but the root hangs behind another one, and its gap does not point away from the root
  record Hangs (x : ℕ) : Type 0 where
    linked : Linked (graph_of p mark) at via up off x
    on_up : on (nat up x) ≡ true
    points : kind_of (nat p.kind (nat via x)) ≡ at_least → nat p.right (nat via x) ≢ x

  hangs : (x : ℕ) → on x ≡ true → x ≢ a → Hangs x
  hangs x e ne = subst Hangs q.2 at_queue
    where
      q : (k : ℕ) × (k < count) × (nat queue k ≡ x) × (nat at x ≡ suc k)
      q = queued x e

      later : (k : ℕ) → nat queue k ≡ x → 0 < k
      later zero f = absurd (ne (sym f ∙ bl.tree.first))
      later (suc k) f = omega arith

      way_k : bl.on_way (nat queue q.0) ≡ true
      way_k = rw q.2 (on_way_lem x e)

      li : Linked (graph_of p mark) at via up off (nat queue q.0)
      li = bl.tree.linked q.0 (later q.0 q.2) q.1

      at_queue : Hangs (nat queue q.0)
      at_queue =
          record {
            linked = li;
            on_up = on_all (nat up (nat queue q.0)) (bl.climbs q.0 (later q.0 q.2) q.1 way_k) li.parent_in li.parent_seen;
            points = bl.points q.0 (later q.0 q.2) q.1 way_k;
          }

  on_start : b < p.labels → on b ≡ true
  on_start lb = on_all b bl.starts lb bl.joined

  -- ranks are places in the queue
  rank_most : Limits p → (x : ℕ) → on x ≡ true → nat at x ≤ 48
  rank_most lim x e = omega (arith, lim.labels_bound, bl.tree.within, (queued x e).1, (queued x e).3)

  pub climbable : Limits p → b < p.labels → Climbable via up a b
  climbable lim lb =
      record {
        rank = nat at;
        on_way = on;
        low = rank_most lim b (on_start lb);
        starts = on_start lb;
        label_in = λ x e. omega (arith, on_label x e, lim.labels_bound);
        above = on_seen;
        gap_in = λ x e ne. omega (arith, (hangs x e ne).linked.gap_in, lim.gaps_bound);
        climbs = λ x e ne. (hangs x e ne).on_up;
        falls = λ x e ne. (hangs x e ne).linked.later;
      }

-- ---- the steps of the way

-- gap k pushes label b from label a, passed forwards or backwards as the flag says
abbrev pub PushesAs : Bool → Numbers → ℕ → ℕ → ℕ → ℤ → Type 0
PushesAs false z k a b h = (z.u k ≡ a) × (z.v k ≡ b) × (z.g k ≡ h) × (z.kind k ≢ ignored)
PushesAs true z k a b h = (z.v k ≡ a) × (z.u k ≡ b) × (pos 0 -ℤ z.g k ≡ h) × (z.kind k ≡ exactly)

pub pushes_of : (backwards : Bool) (z : Numbers) (k a b : ℕ) (h : ℤ) → PushesAs backwards z k a b h → Pushes z k a b h
pushes_of false z k a b h q = inl q
pushes_of true z k a b h q = inr q

abbrev pub May : Sheet → Step → Type 0
May s t = (t.by.0 < s.gaps) × Passable (s.gap t.by).kind t.backwards

-- one step from label x to label y over the distance d
pub record StepTo (s : Sheet) (x y : ℕ) (d : ℤ) (t : Step) : Type 0 where
  pub from : start s t ≡ label x
  pub to : finish s t ≡ label y
  pub may : May s t
  pub long : distance_of s t ≡ d

pub first_step : (p : Problem) (backwards : Bool) (c a b : ℕ) (h : ℤ) → c < p.gaps → PushesAs backwards (numbers_of p) c a b h → StepTo (sheet_from p) a b h (step_of c (cond backwards 1 0))
first_step p false c a b h l q = record { from = ap label q.0; to = ap label q.1; may = (l, passable _ false q.3 (λ _. refl)); long = q.2 }
first_step p true c a b h l q =
    record {
      from = ap label q.0;
      to = ap label q.1;
      may = (l, subst (λ k. Passable k true) (sym q.3) tt);
      long = ring (int p.distance c ∷ []) (search quotes depth 12) (search quotes depth 12) refl ∙ q.2;
    }

-- the steps from a label up to the root: the distance as walked is that of the places X at the scale N
pub record Walked (s : Sheet) (rank : ℕ → ℕ) (N : ℤ) (X : ℕ → ℤ) (a x : ℕ) (ts : List Step) : Type 0 where
  pub leads : Leads s (label x) ts (label a)
  pub may : Each (May s) ts
  pub low : Each (λ t. rank (start s t).0 ≤ rank x) ts
  pub away : Each (λ t. (start s t).0 ≢ a) ts
  pub once : OnceLeft s ts
  pub sum : N *ℤ distance_sum s ts ≡ X a -ℤ X x

walked_none : (s : Sheet) (rank : ℕ → ℕ) (N : ℤ) (X : ℕ → ℤ) (a x : ℕ) → x ≡ a → Walked s rank N X a x []
walked_none s rank N X a x e =
    record {
      leads = ap label e;
      may = tt;
      low = tt;
      away = tt;
      once = tt;
      sum = *ℤ-zero N ∙ ring (X a ∷ []) (search quotes depth 12) (search quotes depth 12) refl ∙ ap (λ i. X a -ℤ X i) (sym e);
    }

walked_more : {s : Sheet} {rank : ℕ → ℕ} {N : ℤ} {X : ℕ → ℤ} {a x y : ℕ} {d : ℤ} {t : Step} {ts : List Step} → StepTo s x y d t → N *ℤ d ≡ X y -ℤ X x
    → rank y < rank x → x ≢ a → Walked s rank N X a y ts → Walked s rank N X a x (t ∷ ts)
walked_more {s} {rank} {N} {X} {a} {x} {y} {d} {t} {ts} st far falls ne w =
    record {
      leads = (st.from, rw st.to w.leads);
      may = (st.may, w.may);
      low = (rw st.from (omega arith), each_map (λ r l. omega (arith, l)) ts w.low);
      away = (rw st.from ne, w.away);
      once = (each_map (λ r l e. omega (arith, l, ap (λ i. rank i.0) e, ap (λ i. rank i.0) st.from)) ts w.low, w.once);
      sum =
          ap (λ z. N *ℤ (z +ℤ distance_sum s ts)) st.long
          ∙ ring (N ∷ d ∷ distance_sum s ts ∷ []) (search quotes depth 12) (search quotes depth 12) refl
          ∙ ap₂ ◌+ℤ◌ far w.sum
          ∙ ring (X y ∷ X x ∷ X a ∷ []) (search quotes depth 12) (search quotes depth 12) refl;
    }

-- a first step from the root and the steps back to it are a ring, if the first step asks more than there is
pub ring_of : {s : Sheet} {rank : ℕ → ℕ} {N : ℤ} {X : ℕ → ℤ} {a b : ℕ} {h : ℤ} {t : Step} {ts : List Step} → pos 0 <ℤ N → pos 0 <ℤ viol a b (N *ℤ h) X
    → StepTo s a b h t → Walked s rank N X a b ts → Ring s t ts
ring_of {s} {rank} {N} {X} {a} {b} {h} {t} {ts} above short st w =
    record {
      closed = rw (st.from, st.to) w.leads;
      passable = (st.may, w.may);
      once = (each_map (λ r l e. l (ap (λ i. i.0) (e ∙ st.from))) ts w.away, w.once);
      above = *ℤ-lt_cancel {c = N} above (rw (*ℤ-zero N, total) short);
    }
  where
    total : N *ℤ (distance_of s t +ℤ distance_sum s ts) ≡ viol a b (N *ℤ h) X
    total =
        ap (λ z. N *ℤ (z +ℤ distance_sum s ts)) st.long
        ∙ ring (N ∷ h ∷ distance_sum s ts ∷ []) (search quotes depth 12) (search quotes depth 12) refl
        ∙ ap (λ z. N *ℤ h +ℤ z) w.sum
        ∙ ring (N ∷ h ∷ X a ∷ X b ∷ []) (search quotes depth 12) (search quotes depth 12) refl

-- ---- the step above a label

abbrev pub step_up : Problem → List ℕ → ℕ → Step
step_up p via x = step_of (nat via x) (back_at p.left via x)

-- a label hangs by the left end of its gap, which is passed forwards, or by the right end, and then the gap is exact and passed backwards
record Forth (p : Problem) (via up : List ℕ) (x : ℕ) : Type 0 where
  near : nat p.left (nat via x) ≡ x
  far : nat p.right (nat via x) ≡ nat up x

record Back (p : Problem) (via up : List ℕ) (x : ℕ) : Type 0 where
  near : nat p.right (nat via x) ≡ x
  far : nat p.left (nat via x) ≡ nat up x
  other : nat p.left (nat via x) ≢ x
  kind : kind_of (nat p.kind (nat via x)) ≢ at_least

forth_byte : {p : Problem} {via up : List ℕ} {x : ℕ} → Forth p via up x → back_at p.left via x ≡ 0
forth_byte {p} {via} {up} {x} j = ap (λ t. cond t 0 1) (eq-eqb (nat p.left (nat via x)) x j.near)

back_byte : {p : Problem} {via up : List ℕ} {x : ℕ} → Back p via up x → back_at p.left via x ≡ 1
back_byte {p} {via} {up} {x} j = ap (λ t. cond t 0 1) (ne_eqb (nat p.left (nat via x)) x j.other)

forth_step : {p : Problem} {via up : List ℕ} {x : ℕ} → nat via x < p.gaps → kind_of (nat p.kind (nat via x)) ≢ ignored → Forth p via up x
    → StepTo (sheet_from p) x (nat up x) (int p.distance (nat via x)) (step_of (nat via x) 0)
forth_step l asked j = record { from = ap label j.near; to = ap label j.far; may = (l, passable _ false asked (λ _. refl)); long = refl }

back_step : {p : Problem} {via up : List ℕ} {x : ℕ} → nat via x < p.gaps → kind_of (nat p.kind (nat via x)) ≢ ignored → Back p via up x
    → StepTo (sheet_from p) x (nat up x) (neg_ℤ (int p.distance (nat via x))) (step_of (nat via x) 1)
back_step l asked j = record { from = ap label j.near; to = ap label j.far; may = (l, passable _ true asked (λ k. absurd (j.kind k))); long = refl }

-- a tight gap, at the scale N
tight_forth : (N g l r : ℤ) → r ≡ l +ℤ N *ℤ g → N *ℤ g ≡ r -ℤ l
tight_forth N g l r e = ring (N ∷ g ∷ l ∷ []) (search quotes depth 12) (search quotes depth 12) refl ∙ ap (λ z. z -ℤ l) (sym e)

tight_back : (N g l r : ℤ) → r ≡ l +ℤ N *ℤ g → N *ℤ neg_ℤ g ≡ l -ℤ r
tight_back N g l r e = ring (N ∷ g ∷ l ∷ []) (search quotes depth 12) (search quotes depth 12) refl ∙ ap (λ z. l -ℤ z) (sym e)

-- ---- the ring
module _ {p : Problem} {mark : List ℕ} {a b count : ℕ} {at queue via up : List ℕ} {off : List ℤ} (bl : Blocked p mark a b count at queue via up off) where
  ends : (x : ℕ) → on bl x ≡ true → x ≢ a → Forth p via up x ⊎ Back p via up x
  ends x e ne =
      ⊎_elim
      (λ (j : (nat p.left (nat via x) ≡ nat up x) × (nat p.right (nat via x) ≡ x) × (int off x -ℤ int off (nat up x) ≡ int p.distance (nat via x))). inr
      (record { near = j.1; far = j.0; other = λ (i : nat p.left (nat via x) ≡ x). omega (arith, hg.linked.later, ap (nat at) (sym i ∙ j.0)); kind = λ k. hg.points k j.1 }))
      (λ (j : (nat p.right (nat via x) ≡ nat up x) × (nat p.left (nat via x) ≡ x) × (int off x -ℤ int off (nat up x) ≡ pos 0 -ℤ int p.distance (nat via x))). inl (record { near = j.1; far = j.0 }))
      hg.linked.joined
    where
      hg : Hangs bl x
      hg = hangs bl x e ne

  module _ {h : ℤ} {num den : ℕ → ℤ} (pu : Pushed (numbers_of p) (marks_of mark) a b h num den) where
    -- as far as the places X say
    abbrev Up : ℕ → Step → Type 0
    Up x t = (d : ℤ) × StepTo (sheet_from p) x (nat up x) d t × (pu.N *ℤ d ≡ pu.X (nat up x) -ℤ pu.X x)

    step_up_lem : (x : ℕ) → on bl x ≡ true → x ≢ a → Up x (step_up p via x)
    step_up_lem x e ne = ⊎_elim forth back (ends x e ne)
      where
        li : Linked (graph_of p mark) at via up off x
        li = (hangs bl x e ne).linked

        marked : marks_of mark (nat via x) ≡ true
        marked = eq-eqb (nat mark (nat via x)) 1 li.marked

        asked : kind_of (nat p.kind (nat via x)) ≢ ignored
        asked = pu.lawful.asked (nat via x) li.gap_in marked

        tight : pu.X (nat p.right (nat via x)) ≡ pu.X (nat p.left (nat via x)) +ℤ pu.N *ℤ int p.distance (nat via x)
        tight = pu.state.tight (nat via x) li.gap_in marked

        forth : Forth p via up x → Up x (step_up p via x)
        forth j =
            let e = nat via x in
            let long = tight_forth pu.N (int p.distance e) (pu.X (nat p.left e)) (pu.X (nat p.right e)) tight in
            subst (λ k. Up x (step_of (nat via x) k)) (sym (forth_byte j))
            (int p.distance e, forth_step li.gap_in asked j, long ∙ ap₂ (λ y z. pu.X y -ℤ pu.X z) j.far j.near)

        back : Back p via up x → Up x (step_up p via x)
        back j =
            let e = nat via x in
            let long = tight_back pu.N (int p.distance e) (pu.X (nat p.left e)) (pu.X (nat p.right e)) tight in
            subst (λ k. Up x (step_of (nat via x) k)) (sym (back_byte j))
            (neg_ℤ (int p.distance e), back_step li.gap_in asked j, long ∙ ap₂ (λ y z. pu.X y -ℤ pu.X z) j.far j.near)

    abbrev WalkedUp : ℕ → List ℕ → Type 0
    WalkedUp x way = Walked (sheet_from p) (nat at) pu.N pu.X a x (map (step_up p via) way)

    walk : (n x : ℕ) → on bl x ≡ true → nat at x ≤ n → WalkedUp x (way_from n up a x)
    walk zero x e l = absurd (omega (arith, on_seen bl x e))
    walk (suc n) x e l = at_root (λ y. walk n y) (eqb x a) refl
      where
        at_root : ((y : ℕ) → on bl y ≡ true → nat at y ≤ n → WalkedUp y (way_from n up a y)) → (t : Bool) → eqb x a ≡ t → WalkedUp x (way_from (suc n) up a x)
        at_root next true q = subst (WalkedUp x) (sym (way_done (suc n) up a x (eqb-true x a q))) (walked_none (sheet_from p) (nat at) pu.N pu.X a x (eqb-true x a q))
        at_root next false q =
            let ne : x ≢ a = eqb-false x a q in
            let st = step_up_lem x e ne in
            let hg = hangs bl x e ne in
            subst (WalkedUp x) (sym (way_more n up a x ne)) (walked_more st.1 st.2 hg.linked.later ne (next (nat up x) hg.on_up (omega (arith, hg.linked.later))))

    pub ring_found : Limits p → b < p.labels → (backwards : Bool) (c : ℕ) → c < p.gaps → PushesAs backwards (numbers_of p) c a b h
        → Ring (sheet_from p) (step_of c (cond backwards 1 0)) (map (step_up p via) (way_from 48 up a b))
    ring_found lim lb backwards c l q = ring_of pu.above pu.short (first_step p backwards c a b h l q) (walk 48 b (on_start bl lb) (rank_most bl lim b (on_start bl lb)))

    -- what is written is the ring
    pub ring_written : Limits p → b < p.labels → {lacking : Lacking} → lacking.gap.0 < p.gaps → PushesAs lacking.backwards (numbers_of p) lacking.gap.0 a b h
        → {size : RingSize} {ring : Lists} → WayWritten lacking a b p.left via up size ring
        → IsRing (sheet_from p) (steps_of (take size.0 ring.gaps) (take size.0 ring.back))
    ring_written lim lb {lacking} l q {size} {ring} w =
        subst (IsRing (sheet_from p)) (sym written) (ring_found lim lb lacking.backwards lacking.gap.0 l q)
      where
        written : steps_of (take size.0 ring.gaps) (take size.0 ring.back) ≡ step_of lacking.gap.0 (cond lacking.backwards 1 0) ∷ map (step_up p via) (way_from 48 up a b)
        written = ap₂ steps_of w.gaps w.backs ∙ ap (λ (r : List Step). step_of lacking.gap.0 (cond lacking.backwards 1 0) ∷ r) (steps_map (gap_above via) (back_at p.left via) (way_from 48 up a b))
