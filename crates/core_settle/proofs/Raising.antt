-- One outer step: what its turns keep, and what it comes to.
use mathlib.Core.Path.{◌≡◌, refl, sym, ◌∙◌, ap, ap₂}
use mathlib.Core.Logic.{◌≢◌, ⊎_elim}
use mathlib.Core.Bool.{Bool, true, false, cond, true≢false}
use mathlib.Core.List.{List, [], ◌∷◌}
use Prim.Native.Nat.{ℕ, zero, suc, ◌+◌, ◌≤◌, ◌<◌}
use native.Mathlib.Omega.{arith}
use lib.ListN.{length, set, length-set}
use lib.Seq.{get_or-set_same, get_or-set_other}
use lib.IntN.{ℤ, pos, ◌+ℤ◌, ◌-ℤ◌, ◌*ℤ◌}
use lib.Dec.{eqb}
use borrow.Author.Tests.{eqb-true, eqb-false}
use Rattle.algebra.proofs.Whole.{not_le_of_lt, le_of_eq}
use Rattle.algebra.proofs.Ring.{ring, quotes}
use Rattle.least_move.proofs.Forest.{by_mark, independent_drop, independent_join}
use Rattle.least_move.specs.States.{viol, Numbers, Pushed, Without, With, Pushes}
use Rattle.ground.specs.Entries.{nat}
use Rattle.ground.specs.declared.problem.Problem.{Problem}
use Rattle.core_forest.specs.declared.search.Work.{Work}
use Rattle.core_forest.specs.declared.state.State.{State}
use Rattle.core_balance.specs.Balance.{MarkChanged}
use Rattle.core_balance.proofs.Remarking.{remarked_none, remarked_then, changed_remarked, untouched_none, untouched_then, changed_untouched}
use Rattle.core_advance.specs.declared.Push.{Push}
use Rattle.core_forest.specs.Problem.{Limits, marks_of, numbers_of, IsForest}
use Rattle.core_advance.specs.Advance.{PushedBy, GapDropped, GapReached, BlockedBy}
use Rattle.core_settle.specs.Raise.{MarksChanged, Raised}

-- ---- the marks as a list

pub dropped_marks : (mark : List ℕ) (m k : ℕ) → k < length mark → Without m (marks_of mark) k (marks_of (set mark k 0))
dropped_marks mark m k l =
    record {
      gone = ap (λ (x : ℕ). eqb x 1) (get_or-set_same mark k 0 0 l);
      others = λ e _ d. ap (λ (x : ℕ). eqb x 1) (get_or-set_other mark k e 0 0 d);
    }

pub added_marks : (mark : List ℕ) (m k : ℕ) → k < length mark → With m (marks_of mark) k (marks_of (set mark k 1))
added_marks mark m k l =
    record {
      there = ap (λ (x : ℕ). eqb x 1) (get_or-set_same mark k 1 0 l);
      others = λ e _ d. ap (λ (x : ℕ). eqb x 1) (get_or-set_other mark k e 1 0 d);
    }

-- a byte at most 1 stored in marks of at most 1
set_bytes : (mark : List ℕ) (k x e : ℕ) → k < length mark → x ≤ 1 → nat mark e ≤ 1 → nat (set mark k x) e ≤ 1
set_bytes mark k x e l small old =
    by_mark (eqb e k)
    (λ (q : eqb e k ≡ true). omega (arith, ap (nat (set mark k x)) (eqb-true e k q), get_or-set_same mark k x 0 l))
    (λ (q : eqb e k ≡ false). omega (arith, get_or-set_other mark k e x 0 (eqb-false e k q)))

-- how many of the first m gaps are marked
unfoldable pub ones : ℕ → List ℕ → ℕ
ones zero mark = 0
ones (suc m) mark = ones m mark + cond (marks_of mark m) 1 0

-- a mark outside of the first m makes no difference
ones_other : (m : ℕ) (mark : List ℕ) (k x : ℕ) → m ≤ k → ones m (set mark k x) ≡ ones m mark
unfolding ones
ones_other zero mark k x l = refl
ones_other (suc m) mark k x l =
    ap₂ (λ (y z : ℕ). y + cond (eqb z 1) 1 0) (ones_other m mark k x (omega arith)) (get_or-set_other mark k m x 0 (λ (e : m ≡ k). omega arith))

pub ones_drop : (m : ℕ) (mark : List ℕ) (k : ℕ) → k < m → k < length mark → nat mark k ≡ 1 → ones m (set mark k 0) < ones m mark
unfolding ones
ones_drop zero mark k l h e = absurd (omega arith)
ones_drop (suc m) mark k l h e = by_mark (eqb k m) last (earlier (λ (d : k < m). ones_drop m mark k d h e))
  where
    last : eqb k m ≡ true → ones m (set mark k 0) + cond (marks_of (set mark k 0) m) 1 0 < ones m mark + cond (marks_of mark m) 1 0
    last q =
        omega (
          arith,
          ones_other m mark k 0 (omega (arith, eqb-true k m q)),
          ap {B = ℕ} (λ (x : ℕ). cond (eqb x 1) 1 0) (ap (nat (set mark k 0)) (sym (eqb-true k m q)) ∙ get_or-set_same mark k 0 0 h),
          ap {B = ℕ} (λ (x : ℕ). cond (eqb x 1) 1 0) (ap (nat mark) (sym (eqb-true k m q)) ∙ e),
        )

    earlier : (k < m → ones m (set mark k 0) < ones m mark) → eqb k m ≡ false → ones m (set mark k 0) + cond (marks_of (set mark k 0) m) 1 0 < ones m mark + cond (marks_of mark m) 1 0
    earlier less q =
        let d : k ≢ m = eqb-false k m q in
        omega (
          arith,
          less (omega arith),
          ap {B = ℕ} (λ (x : ℕ). cond (eqb x 1) 1 0) (get_or-set_other mark k m 0 0 (λ (t : m ≡ k). d (sym t))),
        )

-- ---- what the turns keep

pub record Raising (p : Problem) (push : Push) (mark₀ mark : List ℕ) : Type 0 where
  pub whole : length mark ≡ 192
  pub forest : IsForest p mark₀ → (num den : ℕ → ℤ) → PushedBy p (marks_of mark₀) push num den → IsForest p mark
  pub pushed : IsForest p mark₀ → (num den : ℕ → ℤ) → PushedBy p (marks_of mark₀) push num den → PushedBy p (marks_of mark) push num den
  pub bytes : ((e : ℕ) → e < p.gaps → nat mark₀ e ≤ 1) → (e : ℕ) → e < p.gaps → nat mark e ≤ 1

pub raising_start : (p : Problem) (push : Push) (mark : List ℕ) → length mark ≡ 192 → Raising p push mark mark
raising_start p push mark l = record { whole = l; forest = λ f num den s. f; pushed = λ f num den s. s; bytes = λ small. small }

pub raising_drop : {p : Problem} {push : Push} {mark₀ mark : List ℕ} {e : ℕ} → p.gaps ≤ 192 → Raising p push mark₀ mark → GapDropped p mark push e → Raising p push mark₀ (set mark e 0)
raising_drop {p} {push} {mark₀} {mark} {e} most r d =
    record {
      whole = length-set mark e 0 ∙ r.whole;
      forest = λ f num den s. independent_drop (marks_of (set mark e 0)) fewer (r.forest f num den s);
      pushed = λ f num den s. d.pushed num den (r.forest f num den s) (r.pushed f num den s) (marks_of (set mark e 0)) without;
      bytes = λ small i l. set_bytes mark e 0 i within (omega arith) (r.bytes small i l);
    }
  where
    within : e < length mark
    within = omega (arith, r.whole, d.gap_in, most)

    without : Without p.gaps (marks_of mark) e (marks_of (set mark e 0))
    without = dropped_marks mark p.gaps e within

    fewer : (i : ℕ) → i < p.gaps → marks_of (set mark e 0) i ≡ true → marks_of mark i ≡ true
    fewer i l t =
        by_mark (eqb i e)
        (λ (q : eqb i e ≡ true). absurd (true≢false (sym t ∙ ap (marks_of (set mark e 0)) (eqb-true i e q) ∙ without.gone)))
        (λ (q : eqb i e ≡ false). sym (without.others i l (eqb-false i e q)) ∙ t)

-- ---- what the last turn comes to

-- a tight gap is not violated, either way
tight_on : (x y N g : ℤ) → y ≡ x +ℤ N *ℤ g → x +ℤ N *ℤ g -ℤ y ≡ pos 0
tight_on x y N g e = ap (λ o. x +ℤ N *ℤ g -ℤ o) e ∙ ring (x ∷ N ∷ g ∷ []) (search quotes depth 12) (search quotes depth 12) refl

tight_back : (x y N g : ℤ) → x ≡ y +ℤ N *ℤ g → x +ℤ N *ℤ (pos 0 -ℤ g) -ℤ y ≡ pos 0
tight_back x y N g e = ap (λ o. o +ℤ N *ℤ (pos 0 -ℤ g) -ℤ y) e ∙ ring (y ∷ N ∷ g ∷ []) (search quotes depth 12) (search quotes depth 12) refl

-- a gap that pushes is not marked: it would be tight
pub not_marked : (z : Numbers) (F : ℕ → Bool) (c a b : ℕ) (h : ℤ) (num den : ℕ → ℤ) → c < z.m → Pushes z c a b h → Pushed z F a b h num den → F c ≡ false
not_marked z F c a b h num den l pushes s =
    by_mark (F c) (λ (t : F c ≡ true). absurd (not_le_of_lt s.short (le_of_eq (⊎_elim (λ q. on (s.state.tight c l t) q.0 q.1 q.2) (λ q. back (s.state.tight c l t) q.0 q.1 q.2) pushes)))) (λ f. f)
  where
    on : s.X (z.v c) ≡ s.X (z.u c) +ℤ s.N *ℤ z.g c → z.u c ≡ a → z.v c ≡ b → z.g c ≡ h → viol a b (s.N *ℤ h) s.X ≡ pos 0
    on t eu ev eg = tight_on (s.X a) (s.X b) s.N h (sym (ap s.X ev) ∙ t ∙ ap₂ (λ (x : ℕ) (y : ℤ). s.X x +ℤ s.N *ℤ y) eu eg)

    back : s.X (z.v c) ≡ s.X (z.u c) +ℤ s.N *ℤ z.g c → z.v c ≡ a → z.u c ≡ b → pos 0 -ℤ z.g c ≡ h → viol a b (s.N *ℤ h) s.X ≡ pos 0
    back t ev eu eg =
        ap (λ y. s.X a +ℤ s.N *ℤ y -ℤ s.X b) (sym eg)
        ∙ tight_back (s.X a) (s.X b) s.N (z.g c) (sym (ap s.X ev) ∙ t ∙ ap (λ (x : ℕ). s.X x +ℤ s.N *ℤ z.g c) eu)

-- the ends of a pushing gap are apart where the labels a and b are
ends_apart : (z : Numbers) (S : ℕ → Bool) (c a b : ℕ) (h : ℤ) → Pushes z c a b h → S a ≡ true → S b ≡ false → S (z.u c) ≢ S (z.v c)
ends_apart z S c a b h pushes sa sb e =
    ⊎_elim
    (λ q. true≢false (sym sa ∙ ap S (sym q.0) ∙ e ∙ ap S q.1 ∙ sb))
    (λ q. true≢false (sym sa ∙ ap S (sym q.0) ∙ sym e ∙ ap S q.1 ∙ sb))
    pushes

pub raised_reached : {p : Problem} {push : Push} {mark₀ mark : List ℕ} {w : Work} (c : ℕ) → Limits p → c < p.gaps → Raising p push mark₀ mark → GapReached p mark push → Raised p mark₀ c push true (set mark c 1) w
raised_reached {p} {push} {mark₀} {mark} c lim l r d =
    record {
      forest = λ f pushes num den s. independent_join (marks_of (set mark c 1)) d.block c lim.left_in lim.right_in l (ends_apart (numbers_of p) d.block c push.from.0 push.to.0 push.reach pushes d.from d.to) d.inside added.others (r.forest f num den s);
      raised = λ f pushes num den s. d.settled num den (r.forest f num den s) (r.pushed f num den s) c l pushes (not_marked (numbers_of p) (marks_of mark) c push.from.0 push.to.0 push.reach num den l pushes (r.pushed f num den s)) (marks_of (set mark c 1)) added;
      bytes = λ small i k. set_bytes mark c 1 i within (omega arith) (r.bytes small i k);
    }
  where
    within : c < length mark
    within = omega (arith, r.whole, lim.gaps_bound, l)

    added : With p.gaps (marks_of mark) c (marks_of (set mark c 1))
    added = added_marks mark p.gaps c within

pub raised_ring : {p : Problem} {push : Push} {mark₀ mark : List ℕ} {w : Work} (c : ℕ) → Raising p push mark₀ mark → BlockedBy p mark push w → Raised p mark₀ c push false mark w
raised_ring c r d = record { forest = λ f _ num den s. r.forest f num den s; raised = λ f _ num den s. (r.pushed f num den s, d); bytes = r.bytes }

-- ---- what the turns change

pub changed_none : {p : Problem} {s : State} → MarksChanged p s s
changed_none = record { remarked = remarked_none; untouched = untouched_none; nums = refl }

pub changed_more : {p : Problem} {e to : ℕ} {s₀ s s' : State} → Limits p → e < p.gaps → MarksChanged p s₀ s → MarkChanged e to p s s' → MarksChanged p s₀ s'
changed_more lim l m c =
    record {
      remarked = remarked_then m.remarked (changed_remarked (omega (arith, l, lim.gaps_bound)) c.changed);
      untouched = untouched_then m.untouched (changed_untouched l c.changed);
      nums = c.nums ∙ m.nums;
    }
