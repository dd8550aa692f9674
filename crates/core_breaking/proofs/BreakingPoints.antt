-- Laws of breaking points: the first of a block is one of them, and none comes before it.
use Prim.Native.Nat.{ℕ, zero, suc, ◌+◌, ◌-◌, ◌≤◌, ◌<◌}
use mathlib.Core.Path.{◌≡◌, refl, sym, ◌∙◌, ap, ap₂}
use mathlib.Core.Logic.{◌⊎◌, inl, inr, ⊎_elim, ◌↔◌}
use mathlib.Core.Bool.{Bool, true, false, cond, not, ◌&&◌, true≢false}
use mathlib.Core.List.{List}
use native.Mathlib.Omega.{arith}
use native.Mathlib.Numerals.{add-one}
use lib.Dec.{eqb}
use lib.IntN.{ℤ, pos, negsuc, ◌*ℤ◌}
use lib.Signed.{◌≤ℤ◌, ◌<ℤ◌, le_z, lt_z}
use mir.Syntax.{w64}
use mir.Val.{SFits, to_z, of_z}
use mir.ValLaws.{to_z-of_z}
use borrow.Author.Tests.{eqb-true, eqb-false, eq-eqb, ne_eqb}
use Rattle.std.specs.Prelude.{Option, Some, None}
use Rattle.std.specs.declared.cmp.Ordering.{Ordering}
use Rattle.std.specs.declared.cmp.Ordering.TheVariants.{Less, Equal, Greater}
use Rattle.exact.specs.declared.Fraction.{Fraction}
use Rattle.exact.specs.Divide.{InRange, order_of}
use Rattle.algebra.proofs.Whole.{le_parts, parts_le, parts_lt, le_of_eq, le_of_lt, le_or_lt, not_le_of_lt}
use Rattle.exact.proofs.Fractions.{≼_trans, ≼_refl}
use Rattle.algebra.proofs.Quotient.{kept, le_z-of_test, test_of_le_z, lt_of_test, le_of_test}
use Rattle.exact.proofs.Ordering.{below_means, above_means, same_means}
use Rattle.least_move.specs.Sheet.{gap_number}
use Rattle.ground.specs.Entries.{nat, int}
use Rattle.ground.specs.declared.problem.Problem.{Problem}
use Rattle.core_forest.specs.declared.search.Work.{Work}
use Rattle.core_elimination.proofs.Eliminated.{last_or_below}
use Rattle.core_breaking.specs.declared.BreakingPoint.{BreakingPoint}
use Rattle.core_breaking.specs.Breaking.{over, BreakInRange, Breakable, by_order, nearer_of, losing_end, candidate_of, least_break}

-- ---- two breaking points

-- the order of two as the order of their cross products
abbrev Stands : (a b : Fraction) → Ordering → Type 0
Stands a b Less = (b.num *ℤ a.den) <ℤ (a.num *ℤ b.den)
Stands a b Equal = (a.num *ℤ b.den) ≤ℤ (b.num *ℤ a.den)
Stands a b Greater = (a.num *ℤ b.den) ≤ℤ (b.num *ℤ a.den)

stands : (a b : Fraction) (o : Ordering) → order_of b a ≡ o → Stands a b o
unfolding order_of
stands a b Less e = below_means (b.num *ℤ a.den) (a.num *ℤ b.den) e
stands a b Equal e = le_of_eq (sym (same_means (b.num *ℤ a.den) (a.num *ℤ b.den) e))
stands a b Greater e = le_of_lt (above_means (b.num *ℤ a.den) (a.num *ℤ b.den) e)

-- a is no later than b: whatever point b is, a is one no later
abbrev pub NoLater : (a b : Option BreakingPoint) → Type 0
NoLater a None = Unit {0}
NoLater None (Some b) = ⊥
NoLater (Some a) (Some b) = (a.push.num *ℤ b.push.den) ≤ℤ (b.push.num *ℤ a.push.den)

-- the denominator of a point is above zero
abbrev pub Above0 : Option BreakingPoint → Type 0
Above0 None = Unit {0}
Above0 (Some a) = pos 0 <ℤ a.push.den

pub no_later_trans : (a b c : Option BreakingPoint) → Above0 a → Above0 b → Above0 c → NoLater a b → NoLater b c → NoLater a c
no_later_trans a b None ha hb hc h k = tt
no_later_trans a None (Some c) ha hb hc h k = absurd k
no_later_trans None (Some b) (Some c) ha hb hc h k = absurd h
no_later_trans (Some a) (Some b) (Some c) ha hb hc h k = ≼_trans a.push b.push c.push ha hb hc h k

-- the nearer of two is one of them
pub nearer_one : (a b : Option BreakingPoint) → (nearer_of a b ≡ a) ⊎ (nearer_of a b ≡ b)
nearer_one None b = inr refl
nearer_one (Some a) None = inl refl
nearer_one (Some a) (Some b) = go (order_of b.push a.push)
  where
    go : (o : Ordering) → (by_order o (Some b) (Some a) ≡ Some a) ⊎ (by_order o (Some b) (Some a) ≡ Some b)
    go Less = inr refl
    go Equal = inl refl
    go Greater = inl refl

-- and it is no later than either
pub nearer_first : (a b : Option BreakingPoint) → NoLater (nearer_of a b) a
nearer_first None b = tt
nearer_first (Some a) None = ≼_refl a.push
nearer_first (Some a) (Some b) = go (order_of b.push a.push) refl
  where
    go : (o : Ordering) → order_of b.push a.push ≡ o → NoLater (by_order o (Some b) (Some a)) (Some a)
    go Less i = le_of_lt (stands a.push b.push Less i)
    go Equal i = ≼_refl a.push
    go Greater i = ≼_refl a.push

pub nearer_second : (a b : Option BreakingPoint) → NoLater (nearer_of a b) b
nearer_second a None = tt
nearer_second None (Some b) = ≼_refl b.push
nearer_second (Some a) (Some b) = go (order_of b.push a.push) refl
  where
    go : (o : Ordering) → order_of b.push a.push ≡ o → NoLater (by_order o (Some b) (Some a)) (Some b)
    go Less i = ≼_refl b.push
    go Equal i = stands a.push b.push Equal i
    go Greater i = stands a.push b.push Greater i

pub nearer_in_range : (a b : Option BreakingPoint) → BreakInRange a → BreakInRange b → BreakInRange (nearer_of a b)
nearer_in_range a b h k = ⊎_elim (λ (e : nearer_of a b ≡ a). rw e h) (λ (e : nearer_of a b ≡ b). rw e k) (nearer_one a b)

pub nearer_above0 : (a b : Option BreakingPoint) → Above0 a → Above0 b → Above0 (nearer_of a b)
nearer_above0 a b h k = ⊎_elim (λ (e : nearer_of a b ≡ a). rw e h) (λ (e : nearer_of a b ≡ b). rw e k) (nearer_one a b)

-- nothing is no later than nothing alone
pub later_than_nothing : (a : Option BreakingPoint) → NoLater None a → a ≡ None
later_than_nothing None h = refl
later_than_nothing (Some a) h = absurd h

pub cross : {a b : Option BreakingPoint} {x y : BreakingPoint} → NoLater a b → a ≡ Some x → b ≡ Some y → (x.push.num *ℤ y.push.den) ≤ℤ (y.push.num *ℤ x.push.den)
cross h is-a is_b = rw is_b at (rw is-a at h)

-- the nearer of two is nothing where both are, and only there
pub nearer_none : (a b : Option BreakingPoint) → (nearer_of a b ≡ None) ↔ ((a ≡ None) × (b ≡ None))
nearer_none a b = (
  λ (e : nearer_of a b ≡ None). (later_than_nothing a (rw e at (nearer_first a b)), later_than_nothing b (rw e at (nearer_second a b))),
  λ (h : (a ≡ None) × (b ≡ None)). rw (h.0, h.1),
)

-- ---- the breaking point at a position

-- the end of a gap by the test on the sign's bits
module _ (sign : ℤ) (fits : SFits w64 sign) (left right : List ℕ) (e : ℕ) where
  pub losing_right : of_z w64 sign ≡ 1 → nat right e ≡ losing_end sign left right e
  losing_right h = sym (ap (λ (s : ℤ). losing_end s left right e) (sym (to_z-of_z w64 sign fits) ∙ ap (to_z w64) h))

  pub losing_left : (of_z w64 sign ≡ 1 → ⊥) → nat left e ≡ losing_end sign left right e
  losing_left ne = go sign (λ (h : sign ≡ pos 1). ne (ap (of_z w64) h))
    where
      go : (s : ℤ) → (s ≡ pos 1 → ⊥) → nat left e ≡ losing_end s left right e
      go (pos s) other = rw (ne_eqb s 1 (λ (h : s ≡ 1). other (ap pos h)))
      go (negsuc s) other = refl

not_false : (b : Bool) → not b ≡ false → b ≡ true
not_false true e = refl
not_false false e = absurd (true≢false e)

module _ (p : Problem) (sign : ℤ) (w : Work) (held share : List ℤ) (k : ℕ) where
  abbrev pub label : ℕ
  label = nat w.queue k

  abbrev pub gap : ℕ
  gap = nat w.via (nat w.queue k)

  abbrev pub here : Option BreakingPoint
  here = candidate_of p sign w held share k

  abbrev pub point : BreakingPoint
  point = record { gap = gap_number gap; push = over (int held label) (int share label) }

  -- what makes a breaking point
  pub record Breaks : Type 0 where
    pub at_least : nat p.kind gap ≡ 0
    pub some : pos 1 ≤ℤ int share label
    pub loses : losing_end sign p.left p.right gap ≡ label

  pub breaks_at : Breaks → here ≡ Some point
  unfolding candidate_of
  breaks_at b = rw (eq-eqb (nat p.kind gap) 0 b.at_least, test_of_le_z b.some, eq-eqb (losing_end sign p.left p.right gap) label b.loses)

  -- where one of the three fails there is none
  pub other_kind : (nat p.kind gap ≡ 0 → ⊥) → None ≡ here
  unfolding candidate_of
  other_kind ne = rw (ne_eqb (nat p.kind gap) 0 ne)

  pub no_share : int share label <ℤ pos 1 → None ≡ here
  unfolding candidate_of
  no_share h = go (eqb (nat p.kind gap) 0) (le_z (pos 1) (int share label)) refl
    where
      go : (t u : Bool) → le_z (pos 1) (int share label) ≡ u → None ≡ cond (t && u && eqb (losing_end sign p.left p.right gap) label) (Some point) None
      go t true e = absurd (not_le_of_lt h (le_z-of_test e))
      go true false e = refl
      go false false e = refl

  pub other_end : (losing_end sign p.left p.right gap ≡ label → ⊥) → None ≡ here
  unfolding candidate_of
  other_end ne = rw (ne_eqb (losing_end sign p.left p.right gap) label ne) (go (eqb (nat p.kind gap) 0 && le_z (pos 1) (int share label)))
    where
      go : (t : Bool) → None ≡ cond (t && false) (Some point) None
      go true = refl
      go false = refl

  -- and nothing else makes one
  pub breaks_or_none : Breaks ⊎ (here ≡ None)
  breaks_or_none = go (eqb (nat p.kind gap) 0) (le_or_lt (pos 1) (int share label)) (eqb (losing_end sign p.left p.right gap) label) refl refl
    where
      go : (t : Bool) → (pos 1 ≤ℤ int share label) ⊎ (int share label <ℤ pos 1) → (u : Bool) → eqb (nat p.kind gap) 0 ≡ t → eqb (losing_end sign p.left p.right gap) label ≡ u → Breaks ⊎ (here ≡ None)
      go false s u i j = inr (sym (other_kind (eqb-false (nat p.kind gap) 0 i)))
      go true (inr h) u i j = inr (sym (no_share h))
      go true (inl h) false i j = inr (sym (other_end (eqb-false (losing_end sign p.left p.right gap) label j)))
      go true (inl h) true i j = inl (record { at_least = eqb-true (nat p.kind gap) 0 i; some = h; loses = eqb-true (losing_end sign p.left p.right gap) label j })

  -- what a breaking point is made of
  pub record MadeOf (x : BreakingPoint) : Type 0 where
    pub breaks : Breaks
    pub is : x ≡ point
    pub above : pos 0 <ℤ x.push.den

  pub made_of : {x : BreakingPoint} → here ≡ Some x → MadeOf x
  made_of {x} is = ⊎_elim (λ (b : Breaks). from b (sym is ∙ breaks_at b)) (λ (n : here ≡ None). absurd (never n)) breaks_or_none
    where
      never : here ≡ None → ⊥
      never n = let z : ◌≡◌ {A = ℕ} 0 1 = cc (n, is) in omega arith

      from : Breaks → Some x ≡ Some point → MadeOf x
      from b same =
          let whole : x ≡ point = cc same in
          rw whole (record { breaks = b; is = refl; above = parts_lt (omega (arith, le_parts b.some)) })

  pub here_in_range : {count : ℕ} → Breakable count w.queue w.via held share → k < count → BreakInRange here
  here_in_range known lt = ⊎_elim (λ (b : Breaks). rw (breaks_at b) (in_range b)) (λ (n : here ≡ None). rw n tt) breaks_or_none
    where
      in_range : Breaks → InRange (over (int held label) (int share label))
      in_range b = record { above = parts_lt (omega (arith, le_parts b.some)); den_most = parts_le (omega (arith, le_parts (known.share_bound k lt))); num_most = omega (arith, known.held_most k lt) }

  pub here_above0 : Above0 here
  here_above0 = ⊎_elim (λ (b : Breaks). rw (breaks_at b) (parts_lt (omega (arith, le_parts b.some)))) (λ (n : here ≡ None). rw n tt) breaks_or_none

  -- the same by the tests of the code, whose signed numbers are read back from their bits
  module _ (share_fits : SFits w64 (int share label)) where
    pub no_share_read : lt_z (kept (int share label)) (pos 1) ≡ true → None ≡ here
    no_share_read e = no_share (lt_of_test (rw (to_z-of_z w64 (int share label) share_fits) at e))

    module _ (sign_fits : SFits w64 sign) {end : ℕ} (ends : end ≡ losing_end (kept sign) p.left p.right gap) where
      ends_as : end ≡ losing_end sign p.left p.right gap
      ends_as = ends ∙ ap (λ (s : ℤ). losing_end s p.left p.right gap) (to_z-of_z w64 sign sign_fits)

      pub other_end_read : not (eqb end label) ≡ true → None ≡ here
      other_end_read ne = other_end (λ (e : losing_end sign p.left p.right gap ≡ label). true≢false (sym ne ∙ ap not (eq-eqb end label (ends_as ∙ e))))

      pub point_read : SFits w64 (int held label) → nat p.kind gap ≡ 0 → lt_z (kept (int share label)) (pos 1) ≡ false → not (eqb end label) ≡ false
          → Some (record { gap = gap_number gap; push = over (kept (int held label)) (kept (int share label)) }) ≡ here
      point_read held_fits kind_is test same =
          let share_is : kept (int share label) ≡ int share label = to_z-of_z w64 (int share label) share_fits in
          let held_is : kept (int held label) ≡ int held label = to_z-of_z w64 (int held label) held_fits in
          rw (held_is, share_is) (sym (breaks_at (record { at_least = kind_is; some = le_of_test (rw share_is at test); loses = sym ends_as ∙ eqb-true end label (not_false (eqb end label) same) })))

-- ---- the first of several

-- positions 1 to count - 1
abbrev pub Each : ℕ → (Option BreakingPoint → Type 0) → (ℕ → Option BreakingPoint) → Type 0
Each count P f = (k : ℕ) → 0 < k → k < count → P (f k)

pub least_start : (f : ℕ → Option BreakingPoint) → least_break 1 f ≡ None
unfolding least_break
least_start f = refl

pub least_step : (k : ℕ) (f : ℕ → Option BreakingPoint) → 0 < k → least_break (k + 1) f ≡ nearer_of (least_break k f) (f k)
unfolding least_break
least_step zero f h = absurd (omega arith)
least_step (suc k) f h = rw add-one

-- whatever holds of nothing, of each, and so of the nearer of two, holds of the first
pub least_all : (P : Option BreakingPoint → Type 0) → P None → ((a b : Option BreakingPoint) → P a → P b → P (nearer_of a b))
    → (count : ℕ) (f : ℕ → Option BreakingPoint) → Each count P f → P (least_break count f)
unfolding least_break
least_all P none near zero f h = none
least_all P none near (suc zero) f h = none
least_all P none near (suc (suc k)) f h = near (least_break (suc k) f) (f (suc k)) (least_all P none near (suc k) f (λ j s l. h j s (omega arith))) (h (suc k) (omega arith) (omega arith))

pub least_in_range : (count : ℕ) (f : ℕ → Option BreakingPoint) → Each count BreakInRange f → BreakInRange (least_break count f)
least_in_range = least_all BreakInRange tt nearer_in_range

pub least_above0 : (count : ℕ) (f : ℕ → Option BreakingPoint) → Each count Above0 f → Above0 (least_break count f)
least_above0 = least_all Above0 tt nearer_above0

-- so the first of a block can be compared
pub first_in_range : {count : ℕ} (p : Problem) (sign : ℤ) (w : Work) (held share : List ℤ) → Breakable count w.queue w.via held share
    → BreakInRange (least_break count (candidate_of p sign w held share))
first_in_range {count} p sign w held share known =
    least_in_range count (candidate_of p sign w held share) (λ k some within. here_in_range p sign w held share k known within)

-- no point comes before the first
pub least_no_later : (count : ℕ) (f : ℕ → Option BreakingPoint) → Each count Above0 f → (k : ℕ) → 0 < k → k < count → NoLater (least_break count f) (f k)
unfolding least_break
least_no_later zero f above k some within = absurd (omega arith)
least_no_later (suc zero) f above k some within = absurd (omega arith)
least_no_later (suc (suc n)) f above k some within =
    let so_far : Option BreakingPoint = least_break (suc n) f in
    let rest : Each (suc n) Above0 f = λ j s l. above j s (omega arith) in
    let before : Above0 so_far = least_above0 (suc n) f rest in
    ⊎_elim
    (λ (e : k ≡ suc n). rw e (nearer_second so_far (f (suc n))))
    (λ (earlier : k < suc n). no_later_trans
    (nearer_of so_far (f (suc n)))
    so_far
    (f k)
    (nearer_above0 so_far (f (suc n)) before (above (suc n) (omega arith) (omega arith)))
    before
    (above k some within)
    (nearer_first so_far (f (suc n)))
    (least_no_later (suc n) f rest k some earlier))
    (last_or_below k (suc n) within)

-- no first point where there is none, and only there
pub least_none : (count : ℕ) (f : ℕ → Option BreakingPoint) → least_break count f ≡ None → (k : ℕ) → 0 < k → k < count → f k ≡ None
unfolding least_break
least_none zero f e k some within = absurd (omega arith)
least_none (suc zero) f e k some within = absurd (omega arith)
least_none (suc (suc n)) f e k some within =
    let both = (nearer_none (least_break (suc n) f) (f (suc n))).0 e in
    ⊎_elim (λ (i : k ≡ suc n). rw i both.1) (λ (i : k < suc n). least_none (suc n) f both.0 k some i) (last_or_below k (suc n) within)

-- a first point stands at some position
pub record Found (count : ℕ) (f : ℕ → Option BreakingPoint) (a : Option BreakingPoint) : Type 0 where
  pub position : ℕ
  pub some : 0 < position
  pub within : position < count
  pub there : f position ≡ a

pub least_found : (count : ℕ) (f : ℕ → Option BreakingPoint) → (least_break count f ≡ None) ⊎ Found count f (least_break count f)
unfolding least_break
least_found zero f = inl refl
least_found (suc zero) f = inl refl
least_found (suc (suc n)) f = go (nearer_one (least_break (suc n) f) (f (suc n))) (least_found (suc n) f)
  where
    go :
        (nearer_of (least_break (suc n) f) (f (suc n)) ≡ least_break (suc n) f) ⊎ (nearer_of (least_break (suc n) f) (f (suc n)) ≡ f (suc n)) →
        (least_break (suc n) f ≡ None) ⊎ Found (suc n) f (least_break (suc n) f) →
        (nearer_of (least_break (suc n) f) (f (suc n)) ≡ None) ⊎ Found (suc (suc n)) f (nearer_of (least_break (suc n) f) (f (suc n)))
    go (inr e) w = inr (record { position = suc n; some = omega arith; within = omega arith; there = sym e })
    go (inl e) (inl w) = inl (e ∙ w)
    go (inl e) (inr w) = inr (record { position = w.position; some = w.some; within = omega arith; there = w.there ∙ sym e })

-- and none is above it
pub record Least (count : ℕ) (f : ℕ → Option BreakingPoint) (x : BreakingPoint) : Type 0 where
  pub found : Found count f (Some x)
  pub no_later : (k : ℕ) → 0 < k → k < count → (y : BreakingPoint) → f k ≡ Some y → (x.push.num *ℤ y.push.den) ≤ℤ (y.push.num *ℤ x.push.den)

pub least_at : {count : ℕ} {f : ℕ → Option BreakingPoint} {x : BreakingPoint} → Each count Above0 f → least_break count f ≡ Some x → Least count f x
least_at {count} {f} {x} above is =
    record {
      found = ⊎_elim (λ (n : least_break count f ≡ None). absurd (never n)) (λ (w : Found count f (least_break count f)). rw is at w) (least_found count f);
      no_later = λ k some within y is-k. cross (least_no_later count f above k some within) is is-k;
    }
  where
    never : least_break count f ≡ None → ⊥
    never n = let z : ◌≡◌ {A = ℕ} 0 1 = cc (n, is) in omega arith

-- ---- what the loop of `least_break` asks

pub breakable_below : {count : ℕ} {queue via : List ℕ} {held share : List ℤ} (k : ℕ) → k ≤ count → Breakable count queue via held share → Breakable k queue via held share
breakable_below k h known =
    record {
      count_most = omega (arith, known.count_most);
      labels_in = λ j l. known.labels_in j (omega arith);
      gaps_in = λ j s l. known.gaps_in j s (omega arith);
      held_most = λ j l. known.held_most j (omega arith);
      share_bound = λ j l. known.share_bound j (omega arith);
    }

-- the best of the positions below k; k is at most count, or 1 where count is 0
pub record Best (count : ℕ) (f : ℕ → Option BreakingPoint) (best : Option BreakingPoint) (k : ℕ) : Type 0 where
  pub some : 0 < k
  pub within : k ≤ 1 + (count - 1)
  pub best_is : best ≡ least_break k f
  pub in_range : BreakInRange best

pub best_start : (count : ℕ) (f : ℕ → Option BreakingPoint) → Best count f None 1
best_start count f = record { some = omega arith; within = omega arith; best_is = sym (least_start f); in_range = tt }

pub best_step : {count : ℕ} {f : ℕ → Option BreakingPoint} {best a r : Option BreakingPoint} {k : ℕ} → Best count f best k → k < count → a ≡ f k
    → BreakInRange a → r ≡ nearer_of best a → Best count f r (k + 1)
best_step {count} {f} {best} {a} {r} {k} b lt is known near =
    record {
      some = omega arith;
      within = omega arith;
      best_is = near ∙ ap₂ nearer_of b.best_is is ∙ sym (least_step k f b.some);
      in_range = rw near (nearer_in_range best a b.in_range known);
    }

pub best_end : {count : ℕ} {f : ℕ → Option BreakingPoint} {best : Option BreakingPoint} {k : ℕ} → Best count f best k → count ≤ k → best ≡ least_break count f
unfolding least_break
best_end {count = zero} {k = k} b h = let one : k ≡ 1 = omega arith in b.best_is ∙ rw one
best_end {count = suc n} {k = k} b h = let same : k ≡ suc n = omega arith in b.best_is ∙ rw same
