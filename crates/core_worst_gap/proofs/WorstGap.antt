-- What the search for a gap that does not hold leans on: the size of a slack, what its sign says of the gap, and the search's turns.
use mathlib.Core.Path.{◌≡◌, refl, subst, ◌∙◌, ap}
use mathlib.Core.Logic.{◌⊎◌, inl, inr, ◌≢◌}
use mathlib.Core.Bool.{Bool, true, false, cond}
use mathlib.Core.List.{List, [], ◌∷◌}
use Rattle.std.specs.Prelude.{Option, None, Some}
use Prim.Native.Nat.{ℕ, zero, suc, ◌+◌, ◌*◌, ◌≤◌, ◌<◌, ◌^◌}
use native.Mathlib.Omega.{arith}
use native.Mathlib.Nat.{mul-le-mul}
use borrow.Author.Count.{below_more}
use borrow.Author.Tests.{eq-eqb, ne_eqb}
use lib.Dec.{eqb}
use lib.IntN.{ℤ, pos, neg_ℤ, nat_abs, ◌+ℤ◌, ◌-ℤ◌, ◌*ℤ◌}
use lib.Signed.{◌≤ℤ◌, ◌<ℤ◌, lt_z, quot_z}
use mir.Syntax.{w64}
use mir.Val.{SFits, of_z}
use Rattle.algebra.proofs.Whole.{parts_nat_abs, le_parts, parts_le, parts_lt, le_antisym}
use Rattle.algebra.proofs.Ring.{quotes, le_given, lt_given, eq_given, le_goal, lt_goal, eq_goal}
use Rattle.algebra.proofs.Quotient.{kept, kept_as, fits_as, nat_abs-*, nat_abs-+, nat_abs-neg, lt_of_test, le_of_test, nat_abs-negated, division_asks}
use Rattle.exact.specs.declared.Fraction.{Fraction}
use Rattle.exact.specs.Fraction.{IsFraction, fraction_at, ◌⊖◌}
use Rattle.exact.specs.Slack.{Measurable, difference}
use Rattle.exact.proofs.Slacks.{difference_above, sign_least, sign_least_back, sign_none, sign_none_back, sign_below, sign_below_back, sign_above, sign_above_back}
use Rattle.ground.specs.declared.GapNumber.{GapNumber}
use Rattle.ground.specs.declared.problem.Problem.{Problem}
use Rattle.least_move.specs.Sheet.{exactly, ignored, kind_of}
use Rattle.least_move.specs.Placement.{HoldsWith}
use Rattle.ground.specs.Entries.{nat, int}
use Rattle.core_worst_gap.specs.declared.Lacking.{Lacking}
use Rattle.core_worst_gap.specs.declared.Lead.{Lead}
use Rattle.core_worst_gap.specs.WorstGap.{slack_at, GapHolds, Lacks, WorstOf, lacking, lead_of, PlaceInRange, Comparable}

-- the slack of gap e as it is computed, over the product of the denominators
abbrev pub apart_at : Problem → (num den : List ℤ) → ℕ → Fraction
apart_at p num den e = difference (fraction_at num den (nat p.left e)) (fraction_at num den (nat p.right e)) (int p.distance e)

-- ---- what the sign of a slack says, by cross multiplication

module _ (p : Problem) (num den : List ℤ) (e : ℕ)
    (left_above : IsFraction (fraction_at num den (nat p.left e))) (right_above : IsFraction (fraction_at num den (nat p.right e))) where
  abbrev computed : Fraction
  computed = apart_at p num den e

  -- its sign is that of the slack in lowest terms
  computed_above : IsFraction computed
  computed_above = difference_above (fraction_at num den (nat p.left e)) (fraction_at num den (nat p.right e)) (int p.distance e) left_above right_above

  -- the numbers of the gap: its left place, its right place and its distance
  abbrev ρ : List ℤ
  ρ = int num (nat p.left e) ∷ int den (nat p.left e) ∷ int num (nat p.right e) ∷ int den (nat p.right e) ∷ int p.distance e ∷ []

  -- place(left) + distance and place(right), over the product of the denominators
  abbrev reach : ℤ
  reach = int num (nat p.left e) *ℤ int den (nat p.right e) +ℤ int p.distance e *ℤ (int den (nat p.left e) *ℤ int den (nat p.right e))

  abbrev stands : ℤ
  stands = int num (nat p.right e) *ℤ int den (nat p.left e)

  -- below zero: the right label stands short of what the gap reaches
  pub slack_below : (slack_at p num den e).num <ℤ pos 0 → stands <ℤ reach
  slack_below h = lt_goal ρ (search quotes depth 12) (search quotes depth 12) (omega (arith, lt_given ρ (search quotes depth 12) (search quotes depth 12) (sign_below_back computed computed_above h)))

  -- above zero: seen from the right label, the left one does
  pub slack_above : pos 0 <ℤ (slack_at p num den e).num
      → (int num (nat p.left e) *ℤ int den (nat p.right e))
      <ℤ (int num (nat p.right e) *ℤ int den (nat p.left e) +ℤ (pos 0 -ℤ int p.distance e) *ℤ (int den (nat p.right e) *ℤ int den (nat p.left e)))
  slack_above h = lt_goal ρ (search quotes depth 12) (search quotes depth 12) (omega (arith, lt_given ρ (search quotes depth 12) (search quotes depth 12) (sign_above_back computed computed_above h)))

  -- not below zero, and zero
  pub slack_least : pos 0 ≤ℤ (slack_at p num den e).num → reach ≤ℤ stands
  slack_least h = le_goal ρ (search quotes depth 12) (search quotes depth 12) (omega (arith, le_given ρ (search quotes depth 12) (search quotes depth 12) (sign_least_back computed computed_above h)))

  pub slack_none : (slack_at p num den e).num ≡ pos 0 → reach ≡ stands
  slack_none h = eq_goal ρ (search quotes depth 12) (search quotes depth 12) (omega (arith, eq_given ρ (search quotes depth 12) (search quotes depth 12) (sign_none_back computed computed_above h)))

-- ---- sizes, and what is read back from 64 bits

product_most : (x y : ℤ) {m n : ℕ} → nat_abs x ≤ m → nat_abs y ≤ n → nat_abs (x *ℤ y) ≤ m * n
product_most x y h k = rw nat_abs-* (mul-le-mul h k)

less_most : (x y : ℤ) {m n : ℕ} → nat_abs x ≤ m → nat_abs y ≤ n → nat_abs (x -ℤ y) ≤ m + n
less_most x y h k = omega (arith, nat_abs-+ x (neg_ℤ y), nat_abs-neg y)

module _ {num den : List ℤ} {a : ℕ} (in_a : PlaceInRange num den a) where
  place_above : IsFraction (fraction_at num den a)
  place_above = parts_lt (omega (arith, le_parts in_a.den_least))

  pub measurable : {q : Fraction} → q ≡ fraction_at num den a → Measurable q
  measurable is =
      rw is
      (record {
        above = place_above;
        den_most = parts_le (omega (arith, in_a.den_most, parts_nat_abs (int den a)));
        num_most = omega (arith, in_a.num_most);
      })

pub distance_read : (h : ℤ) → nat_abs h ≤ 20000 → kept h ≡ h
distance_read h most = kept_as refl (omega arith)

module _ {num den : List ℤ} {a b : ℕ} (in_a : PlaceInRange num den a) (in_b : PlaceInRange num den b) (h : ℤ) (most : nat_abs h ≤ 20000) where
  abbrev apart : Fraction
  apart = difference (fraction_at num den a) (fraction_at num den b) h

  crossed_most : nat_abs (fraction_at num den b ⊖ fraction_at num den a).num ≤ 266112000000 * 172800 + 266112000000 * 172800
  crossed_most =
      less_most (int num b *ℤ int den a) (int num a *ℤ int den b)
      (product_most (int num b) (int den a) in_b.num_most in_a.den_most)
      (product_most (int num a) (int den b) in_a.num_most in_b.den_most)

  span_most : nat_abs (h *ℤ (int den b *ℤ int den a)) ≤ 20000 * (172800 * 172800)
  span_most = product_most h (int den b *ℤ int den a) most (product_most (int den b) (int den a) in_b.den_most in_a.den_most)

  pub apart_above : IsFraction apart
  apart_above = difference_above (fraction_at num den a) (fraction_at num den b) h (place_above in_a) (place_above in_b)

  slack_most : nat_abs apart.num < 2 ^ 63
  slack_most =
      let x : ℤ = (fraction_at num den b ⊖ fraction_at num den a).num in
      omega (arith, less_most (x *ℤ pos 1) (h *ℤ (int den b *ℤ int den a)) (product_most x (pos 1) {n = 1} crossed_most (omega arith)) span_most)

  both_most : nat_abs apart.den < 2 ^ 63
  both_most =
      let x : ℤ = int den b *ℤ int den a in
      omega (arith, product_most x (pos 1) {n = 1} (product_most (int den b) (int den a) in_b.den_most in_a.den_most) (omega arith))

  -- a slack between the two places, over the distance as it is read back
  module _ {l r q : Fraction} (from : l ≡ fraction_at num den a) (to : r ≡ fraction_at num den b) (is : q ≡ difference l r (kept h)) where
    measured : q ≡ apart
    measured = is ∙ (λ i. difference (from i) (to i) (distance_read h most i))

    pub slack_read : kept q.num ≡ apart.num
    slack_read = kept_as (ap (λ (x : Fraction). x.num) measured) slack_most

    pub turned_fits : SFits w64 (pos 0 -ℤ kept q.num)
    turned_fits = fits_as (ap (λ (z : ℤ). pos 0 -ℤ z) slack_read) (omega (arith, nat_abs-negated apart.num, slack_most))

    num_fits : SFits w64 q.num
    num_fits = fits_as (ap (λ (x : Fraction). x.num) measured) slack_most

    den_fits : SFits w64 q.den
    den_fits = fits_as (ap (λ (x : Fraction). x.den) measured) both_most

    den_some : pos 0 <ℤ q.den
    den_some = rw (ap (λ (x : Fraction). x.den) measured) apart_above

    pub den_above : pos 0 <ℤ kept q.den
    den_above = rw (kept_as (ap (λ (x : Fraction). x.den) measured) both_most) apart_above

-- ---- kinds

kind_exactly : (n : ℕ) → n ≤ 1 → (n ≡ 0 → ⊥) → kind_of n ≡ exactly
kind_exactly zero h ne = absurd (ne refl)
kind_exactly (suc zero) h ne = refl
kind_exactly (suc (suc n)) h ne = absurd (omega arith)

not_ignored : (n : ℕ) → n ≤ 1 → kind_of n ≢ ignored
not_ignored zero h e = let z : ◌≡◌ {A = ℕ} 0 1 = cc in omega arith
not_ignored (suc zero) h e = let z : ◌≡◌ {A = ℕ} 0 1 = cc in omega arith
not_ignored (suc (suc n)) h e = omega arith

ignored_holds : (n : ℕ) (q : Fraction) → 1 < n → HoldsWith (kind_of n) q
ignored_holds zero q h = absurd (omega arith)
ignored_holds (suc zero) q h = absurd (omega arith)
ignored_holds (suc (suc n)) q h = tt

-- ---- the search

module _ (p : Problem) (num den : List ℤ) where
  -- a gap that holds leaves what was found before it
  after_held : (k : ℕ) (lead : Option Lacking) → WorstOf p num den k lead → GapHolds p num den k → WorstOf p num den (k + 1) lead
  after_held k None before holds = below_more _ _ before holds
  after_held k (Some f) before holds = (omega (arith, before.0), before.1)

  -- one that lacks is named, or another is
  after_lacking : (e : GapNumber) (back : Bool) (lead : Option Lacking) → WorstOf p num den e.0 lead → Lacks p num den e.0 back → (r : Option Lacking)
      → (r ≡ Some (lacking e back)) ⊎ ((r ≡ lead) × (lead ≢ None)) → WorstOf p num den (e.0 + 1) r
  after_lacking e back lead before lacks r (inl p) = rw p (omega arith, lacks)
  after_lacking e back None before lacks r (inr w) = absurd (w.1 refl)
  after_lacking e back (Some f) before lacks r (inr w) = rw w.0 (omega (arith, before.0), before.1)

  -- one more gap that is ignored
  pub ignored_next : (e : GapNumber) (lead : Option Lacking) → WorstOf p num den e.0 lead → 1 < nat p.kind e.0 → WorstOf p num den (e.0 + 1) lead
  ignored_next e lead before h = after_held e.0 lead before (ignored_holds (nat p.kind e.0) _ h)

-- the gaps up to k, of those in range
pub comparable_first : {p : Problem} {num den : List ℤ} {k : ℕ} → k < p.gaps → Comparable p num den
    → Comparable (record { labels = p.labels; gaps = k + 1; left = p.left; right = p.right; distance = p.distance; kind = p.kind; wanted = p.wanted; weight = p.weight }) num den
comparable_first h c =
    record {
      gaps_bound = omega (arith, c.gaps_bound);
      left_placed = λ e l. c.left_placed e (omega arith);
      right_placed = λ e l. c.right_placed e (omega arith);
      distance_bound = λ e l. c.distance_bound e (omega arith);
    }

-- ---- the lead, by its tag

pub lead_new : (tag : ℕ) (e : GapNumber) → tag ≢ 0 → cond (eqb tag 0) None (Some (lacking e (eqb tag 2))) ≡ Some (lacking e (eqb tag 2))
lead_new tag e d = ap (λ t. cond t None (Some (lacking e (eqb tag 2)))) (ne_eqb tag 0 d)

pub lead_none : (l : Lead) → l.tag ≡ 0 → lead_of l ≡ None
lead_none l q = ap (λ t. cond t None (Some (lacking l.gap (eqb l.tag 2)))) (eq-eqb l.tag 0 q)

pub lead_some : (l : Lead) → l.tag ≢ 0 → lead_of l ≡ Some (lacking l.gap (eqb l.tag 2))
lead_some l d = lead_new l.tag l.gap d

pub lead_there : (l : Lead) → l.tag ≢ 0 → lead_of l ≢ None
lead_there l d e = let z : ◌≡◌ {A = ℕ} 0 1 = cc (lead_some l d, e) in omega arith

-- gap e's places l and r as they are read, and the slack q between them
module _ {p : Problem} {num den : List ℤ} (e : GapNumber) (within : e.0 < p.gaps) (c : Comparable p num den) {l r q : Fraction}
    (from : l ≡ fraction_at num den (nat p.left e.0)) (to : r ≡ fraction_at num den (nat p.right e.0)) (is : q ≡ difference l r (kept (int p.distance e.0))) where
  at_left : PlaceInRange num den (nat p.left e.0)
  at_left = c.left_placed e.0 within

  at_right : PlaceInRange num den (nat p.right e.0)
  at_right = c.right_placed e.0 within

  pub slack_turns : SFits w64 (pos 0 -ℤ kept q.num)
  slack_turns = turned_fits at_left at_right (int p.distance e.0) (c.distance_bound e.0 within) from to is

  -- its whole units, of the slack and of the slack turned
  pub slack_divides : (0 < of_z w64 q.den) × SFits w64 (quot_z (kept q.num) (kept q.den))
  slack_divides =
      let d = int p.distance e.0 in
      let h = c.distance_bound e.0 within in
      division_asks (num_fits at_left at_right d h from to is) (den_fits at_left at_right d h from to is) (den_some at_left at_right d h from to is)

  pub turned_divides : (0 < of_z w64 q.den) × SFits w64 (quot_z (kept (pos 0 -ℤ kept q.num)) (kept q.den))
  turned_divides =
      let d = int p.distance e.0 in
      let h = c.distance_bound e.0 within in
      division_asks slack_turns (den_fits at_left at_right d h from to is) (den_some at_left at_right d h from to is)

  abbrev apart_e : Fraction
  apart_e = apart_at p num den e.0

  over : IsFraction apart_e
  over = apart_above at_left at_right (int p.distance e.0) (c.distance_bound e.0 within)

  read : kept q.num ≡ apart_e.num
  read = slack_read at_left at_right (int p.distance e.0) (c.distance_bound e.0 within) from to is

  -- one more gap, by the tests of its kind and of its slack
  module _ (lead : Option Lacking) (before : WorstOf p num den e.0 lead) where
    pub at_least_next : nat p.kind e.0 ≡ 0 → lt_z (kept q.num) (pos 0) ≡ false → WorstOf p num den (e.0 + 1) lead
    at_least_next at t = after_held p num den e.0 lead before (rw at (sign_least apart_e over (subst (λ (v : ℤ). pos 0 ≤ℤ v) read (le_of_test t))))

    pub exactly_next : nat p.kind e.0 ≤ 1 → (nat p.kind e.0 ≡ 0 → ⊥) → lt_z (kept q.num) (pos 0) ≡ false → lt_z (pos 0) (kept q.num) ≡ false → WorstOf p num den (e.0 + 1) lead
    exactly_next h ne t s =
        after_held p num den e.0 lead before
        (rw (kind_exactly (nat p.kind e.0) h ne)
        (sign_none apart_e over (le_antisym (subst (λ (v : ℤ). v ≤ℤ pos 0) read (le_of_test s)) (subst (λ (v : ℤ). pos 0 ≤ℤ v) read (le_of_test t)))))

    pub forwards_next : nat p.kind e.0 ≤ 1 → lt_z (kept q.num) (pos 0) ≡ true → {found : Option Lacking}
        → (found ≡ Some (lacking e false)) ⊎ ((found ≡ lead) × (lead ≢ None)) → WorstOf p num den (e.0 + 1) found
    forwards_next h t = after_lacking p num den e false lead before (not_ignored (nat p.kind e.0) h, sign_below apart_e over (subst (λ (v : ℤ). v <ℤ pos 0) read (lt_of_test t))) _

    pub backwards_next : nat p.kind e.0 ≤ 1 → (nat p.kind e.0 ≡ 0 → ⊥) → lt_z (pos 0) (kept q.num) ≡ true → {found : Option Lacking}
        → (found ≡ Some (lacking e true)) ⊎ ((found ≡ lead) × (lead ≢ None)) → WorstOf p num den (e.0 + 1) found
    backwards_next h ne t = after_lacking p num den e true lead before (kind_exactly (nat p.kind e.0) h ne, sign_above apart_e over (subst (λ (v : ℤ). pos 0 <ℤ v) read (lt_of_test t))) _
