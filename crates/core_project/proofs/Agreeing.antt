-- The work arrays hold the lent lists in their front, so what the core says of the work arrays holds of the lent lists.
use mathlib.Core.Path.{◌≡◌, refl, sym, ◌∙◌, ap, ap₂, subst}
use mathlib.Core.Logic.{◌≢◌}
use mathlib.Core.Bool.{Bool, true, false, cond}
use mathlib.Core.List.{List, [], ◌∷◌}
use Prim.Native.Nat.{ℕ, zero, suc, ◌+◌, ◌*◌, ◌≤◌, ◌<◌, ◌∣◌}
use native.Mathlib.Omega.{arith}
use native.Mathlib.Nat.{dvd-mul_left, le_of_dvd, mul-le-mul_right, le_of_mul-le-mul_right}
use lib.Dec.{eqb}
use lib.ListN.{length, get_or, take}
use lib.Seq.{ext_get_or, get_or-take, length-take-le}
use lib.IntN.{ℤ, pos, nat_abs, ◌+ℤ◌}
use lib.Signed.{◌≤ℤ◌, ◌<ℤ◌}
use borrow.Author.Tests.{eqb-true, eqb-false}
use Rattle.exact.specs.declared.Fraction.{Fraction}
use Rattle.exact.specs.Fraction.{◌≃◌, ◌⊕◌, ◌⊖◌, ◌⊛◌, whole, Reduced}
use Rattle.exact.specs.Total.{total}
use Rattle.algebra.proofs.Whole.{le_parts, parts_lt}
use Rattle.exact.proofs.Divisor.{gauss}
use Rattle.algebra.proofs.Quotient.{nat_abs-*, nat_abs-above}
use Rattle.ground.specs.declared.Label.{Label}
use Rattle.ground.specs.declared.GapNumber.{GapNumber}
use Rattle.least_move.specs.Sheet.{Sheet, Gap, ignored, label, gap_number, kind_of}
use Rattle.least_move.specs.Placement.{Placement, Holds, Tight}
use Rattle.least_move.specs.Multipliers.{Multipliers, Conditions, Lawful, counted, as_right, as_left}
use Rattle.least_move.specs.Marks.{Step, start, finish, Leads, Marks, MarkedRing}
use Rattle.least_move.specs.Ring.{Ring, Passable, distance_of, distance_sum, OnceLeft, steps_of, IsRing}
use Rattle.ground.specs.Entries.{nat, int, over, Each}
use Rattle.ground.specs.declared.problem.Problem.{Problem}
use Rattle.core_forest.specs.Problem.{Limits, marks_of, sheet_from}
use Rattle.core_forest.specs.declared.state.State.{State}
use Rattle.core_balance.specs.Places.{DenMost}
use Rattle.core_balance.proofs.Placing.{den_limit}
use Rattle.core_ring.specs.declared.Ring.{Ring as FoundRing}
use Rattle.core_settle.specs.Settle.{RingStands}
use Rattle.core_project.specs.Core.{Asked, CorePlaced}
use Rattle.core_project.specs.Project.{FrontWritten, FractionsWritten, Buffers, Listed, Ready, Held, Solved, RingGiven}
use Rattle.ground.proofs.Each.{each_map}
use Rattle.core_project.proofs.Passes.{copied_by, copied_out}

-- ---- plain facts

pub total_cong : (n : ℕ) (f g : ℕ → Fraction) → ((k : ℕ) → k < n → f k ≡ g k) → total n f ≡ total n g
unfolding total
total_cong zero f g h = refl
total_cong (suc n) f g h = ap₂ ◌⊕◌ (total_cong n f g (λ k l. h k (omega arith))) (h n (omega arith))

each_map₂ : {P Q R : Step → Type 0} → ((t : Step) → P t → Q t → R t) → (ts : List Step) → Each P ts → Each Q ts → Each R ts
each_map₂ f [] h k = tt
each_map₂ f (t ∷ ts) h k = (f t h.0 k.0, each_map₂ f ts h.1 k.1)

-- two lists with the same first entries have the same front
pub take_agree : {A : Type 0} (n : ℕ) (l r : List A) (none : A) → n ≤ length l → n ≤ length r → ((k : ℕ) → k < n → get_or l k none ≡ get_or r k none) → take n l ≡ take n r
take_agree n l r none hl hr h =
    ext_get_or none (take n l) (take n r) (length-take-le n l hl ∙ sym (length-take-le n r hr))
    (λ k b. let lt : k < n = omega (arith, length-take-le n l hl, b) in get_or-take n l k none lt ∙ h k lt ∙ sym (get_or-take n r k none lt))

-- ---- sheets that agree below their counts

pub record Agree (s t : Sheet) : Type 0 where
  pub labels : s.labels ≡ t.labels
  pub gaps : s.gaps ≡ t.gaps
  pub wanted : (i : Label) → i.0 < s.labels → s.wanted i ≡ t.wanted i
  pub weight : (i : Label) → i.0 < s.labels → s.weight i ≡ t.weight i
  pub gap : (e : GapNumber) → e.0 < s.gaps → s.gap e ≡ t.gap e

abbrev InGaps : Sheet → Step → Type 0
InGaps s t = t.by.0 < s.gaps

module _ {s t : Sheet} (a : Agree s t) where
  in_labels : (i : ℕ) → i < t.labels → i < s.labels
  in_labels i h = omega arith

  in_gaps : (e : ℕ) → e < t.gaps → e < s.gaps
  in_gaps e h = omega arith

  -- what holds of a gap of the first holds of the same gap of the second
  move_gap : (P : Gap → Type 0) (e : GapNumber) → e.0 < s.gaps → P (s.gap e) → P (t.gap e)
  move_gap P e h q = subst P (a.gap e h) q

  rights : (m : Multipliers) (i : Label) → as_right s m i ≡ as_right t m i
  rights m i =
      total_cong s.gaps _ _ (λ k h. ap (λ (c : Gap). counted i c.right (m (gap_number k))) (a.gap (gap_number k) h))
      ∙ ap (λ n. total n (λ k. counted i (t.gap (gap_number k)).right (m (gap_number k)))) a.gaps

  lefts : (m : Multipliers) (i : Label) → as_left s m i ≡ as_left t m i
  lefts m i =
      total_cong s.gaps _ _ (λ k h. ap (λ (c : Gap). counted i c.left (m (gap_number k))) (a.gap (gap_number k) h))
      ∙ ap (λ n. total n (λ k. counted i (t.gap (gap_number k)).left (m (gap_number k)))) a.gaps

  pub conditions_agree : {p : Placement} {m : Multipliers} → Conditions s p m → Conditions t p m
  conditions_agree {p} {m} c =
      record {
        feasible =
            record {
              fractions = λ i h. c.feasible.fractions i (in_labels i.0 h);
              meets = λ e h. move_gap (Holds p) e (in_gaps e.0 h) (c.feasible.meets e (in_gaps e.0 h));
            };
        fractions = λ e h. c.fractions e (in_gaps e.0 h);
        lawful = λ e h. move_gap (λ (g : Gap). Lawful g.kind (m e)) e (in_gaps e.0 h) (c.lawful e (in_gaps e.0 h));
        loose = λ e h. move_gap (λ (g : Gap). ¬ (Tight p g) → m e ≃ whole (pos 0)) e (in_gaps e.0 h) (c.loose e (in_gaps e.0 h));
        balance = λ i h. balanced i (in_labels i.0 h);
        self = λ e h. move_gap (λ (g : Gap). g.left ≡ g.right → m e ≃ whole (pos 0)) e (in_gaps e.0 h) (c.self e (in_gaps e.0 h));
      }
    where
      Balanced : Label → ℤ → ℤ → Fraction → Fraction → Type 0
      Balanced i w d r l = pos 2 ⊛ (w ⊛ (p i ⊖ whole d)) ≃ (r ⊖ l)

      balanced : (i : Label) → i.0 < s.labels → Balanced i (t.weight i) (t.wanted i) (as_right t m i) (as_left t m i)
      balanced i h =
          subst (λ w. Balanced i w (t.wanted i) (as_right t m i) (as_left t m i)) (a.weight i h)
          (subst (λ d. Balanced i (s.weight i) d (as_right t m i) (as_left t m i)) (a.wanted i h)
          (subst (λ r. Balanced i (s.weight i) (s.wanted i) r (as_left t m i)) (rights m i)
          (subst (λ l. Balanced i (s.weight i) (s.wanted i) (as_right s m i) l) (lefts m i) (c.balance i h))))

  -- ---- steps along gaps of the sheet
  start_agree : (r : Step) → InGaps s r → start s r ≡ start t r
  start_agree r h = ap (λ (c : Gap). cond r.backwards c.right c.left) (a.gap r.by h)

  finish_agree : (r : Step) → InGaps s r → finish s r ≡ finish t r
  finish_agree r h = ap (λ (c : Gap). cond r.backwards c.left c.right) (a.gap r.by h)

  leads_agree : (x y : Label) (rs : List Step) → Each (InGaps s) rs → Leads s x rs y → Leads t x rs y
  leads_agree x y [] h l = l
  leads_agree x y (r ∷ rs) h l =
      (sym (start_agree r h.0) ∙ l.0, subst (λ z. Leads t z rs y) (finish_agree r h.0) (leads_agree (finish s r) y rs h.1 l.1))

  closed_agree : (first : Step) (rest : List Step) → Each (InGaps s) (first ∷ rest) → Leads s (finish s first) rest (start s first) → Leads t (finish t first) rest (start t first)
  closed_agree first rest h l =
      subst (λ z. Leads t z rest (start t first)) (finish_agree first h.0)
      (subst (λ z. Leads t (finish s first) rest z) (start_agree first h.0) (leads_agree (finish s first) (start s first) rest h.1 l))

  once_agree : (rs : List Step) → Each (InGaps s) rs → OnceLeft s rs → OnceLeft t rs
  once_agree [] h o = tt
  once_agree (r ∷ rs) h o =
      (each_map₂ (λ u l ne e. ne (start_agree u l ∙ e ∙ sym (start_agree r h.0))) rs h.1 o.0, once_agree rs h.1 o.1)

  length_agree : (rs : List Step) → Each (InGaps s) rs → distance_sum s rs ≡ distance_sum t rs
  length_agree [] h = refl
  length_agree (r ∷ rs) h = ap₂ ◌+ℤ◌ distances (length_agree rs h.1)
    where
      distances : distance_of s r ≡ distance_of t r
      distances = ap (λ (c : Gap). distance_of (record { labels = s.labels; gaps = s.gaps; wanted = s.wanted; weight = s.weight; gap = λ _. c }) r) (a.gap r.by h.0)

  pub ring_agree : {first : Step} {rest : List Step} → Ring s first rest → Ring t first rest
  ring_agree {first} {rest} r =
      record {
        closed = closed_agree first rest inside r.closed;
        passable = each_map (λ u q. (omega (arith, q.0), move_gap (λ (g : Gap). Passable g.kind u.backwards) u.by q.0 q.1)) (first ∷ rest) r.passable;
        once = once_agree (first ∷ rest) inside r.once;
        above = subst (λ z. pos 0 <ℤ z) (length_agree (first ∷ rest) inside) r.above;
      }
    where
      inside : Each (InGaps s) (first ∷ rest)
      inside = each_map (λ u q. q.0) (first ∷ rest) r.passable

  pub is_ring_agree : (rs : List Step) → IsRing s rs → IsRing t rs
  is_ring_agree [] r = r
  is_ring_agree (f ∷ rs) r = ring_agree r

agree_sym : {s t : Sheet} → Agree s t → Agree t s
agree_sym a =
    record {
      labels = sym a.labels;
      gaps = sym a.gaps;
      wanted = λ i h. sym (a.wanted i (in_labels a i.0 h));
      weight = λ i h. sym (a.weight i (in_labels a i.0 h));
      gap = λ e h. sym (a.gap e (in_gaps a e.0 h));
    }

-- marks that agree below the count of gaps too
pub marks_agree : {s t : Sheet} {p : Placement} {m : Multipliers} {marked marked' : GapNumber → Bool} → Agree s t → ((e : GapNumber) → e.0 < s.gaps → marked e ≡ marked' e) → Marks s p m marked → Marks t p m marked'
marks_agree {s} {t} {p} {m} {marked} {marked'} a same c =
    record {
      tight = λ e h q. move_gap a (Tight p) e (in_gaps a e.0 h) (c.tight e (in_gaps a e.0 h) (same e (in_gaps a e.0 h) ∙ q));
      no_ring = λ first rest r. c.no_ring first rest (back first rest r);
      zero = λ e h q. c.zero e (in_gaps a e.0 h) (same e (in_gaps a e.0 h) ∙ q);
    }
  where
    back : (first : Step) (rest : List Step) → MarkedRing t marked' first rest → MarkedRing s marked first rest
    back first rest r =
        record {
          closed = closed_agree (agree_sym a) first rest (each_map (λ u q. q.0) (first ∷ rest) r.along) r.closed;
          along = each_map (λ u q. (in_gaps a u.by.0 q.0, same u.by (in_gaps a u.by.0 q.0) ∙ q.1)) (first ∷ rest) r.along;
          once = r.once;
        }

pub asked_agree : {s t : Sheet} {marked marked' : GapNumber → Bool} → Agree s t → ((e : GapNumber) → e.0 < s.gaps → marked e ≡ marked' e) → Asked s marked → Asked t marked'
asked_agree a same h e l q =
    let in_s = in_gaps a e.0 l in
    move_gap a (λ (g : Gap). g.kind ≢ ignored) e in_s (h e in_s (same e in_s ∙ q))

-- ---- a ring has no more steps than there are labels

-- the steps without the first one that starts from the label
abbrev without : Sheet → ℕ → List Step → List Step
without s n [] = []
without s n (t ∷ ts) = cond (eqb (start s t).0 n) ts (t ∷ without s n ts)

module _ (s : Sheet) (n : ℕ) where
  without_length : (ts : List Step) → length ts ≤ suc (length (without s n ts))
  without_length [] = omega arith
  without_length (t ∷ ts) = go (without_length ts) (eqb (start s t).0 n)
    where
      go : length ts ≤ suc (length (without s n ts)) → (b : Bool) → suc (length ts) ≤ suc (length (cond b ts (t ∷ without s n ts)))
      go next true = omega arith
      go next false = omega arith

  without_each : (P : Step → Type 0) (ts : List Step) → Each P ts → Each P (without s n ts)
  without_each P [] h = tt
  without_each P (t ∷ ts) h = go (without_each P ts h.1) (eqb (start s t).0 n)
    where
      go : Each P (without s n ts) → (b : Bool) → Each P (cond b ts (t ∷ without s n ts))
      go next true = h.1
      go next false = (h.0, next)

  without_once : (ts : List Step) → OnceLeft s ts → OnceLeft s (without s n ts)
  without_once [] o = tt
  without_once (t ∷ ts) o = go (without_once ts o.1) (eqb (start s t).0 n)
    where
      go : OnceLeft s (without s n ts) → (b : Bool) → OnceLeft s (cond b ts (t ∷ without s n ts))
      go next true = o.1
      go next false = (without_each (λ r. start s r ≢ start s t) ts o.0, next)

  -- the others start elsewhere
  without_below : (ts : List Step) → OnceLeft s ts → Each (λ t. (start s t).0 < suc n) ts → Each (λ t. (start s t).0 < n) (without s n ts)
  without_below [] o h = tt
  without_below (t ∷ ts) o h = go (without_below ts o.1 h.1) (eqb (start s t).0 n) refl
    where
      below : (u : Step) → (start s t).0 ≡ n → (start s u).0 < suc n → start s u ≢ start s t → (start s u).0 < n
      below u here l ne = let other : (start s u).0 ≢ n = λ q. ne (ap label (q ∙ sym here)) in omega arith

      go : Each (λ t. (start s t).0 < n) (without s n ts) → (b : Bool) → eqb (start s t).0 n ≡ b → Each (λ t. (start s t).0 < n) (cond b ts (t ∷ without s n ts))
      go next true e = each_map₂ (λ u. below u (eqb-true (start s t).0 n e)) ts h.1 o.0
      go next false e = (omega (arith, h.0, eqb-false (start s t).0 n e), next)

-- labels below the count, each left once
pub pigeonhole : (s : Sheet) (n : ℕ) (ts : List Step) → OnceLeft s ts → Each (λ t. (start s t).0 < n) ts → length ts ≤ n
pigeonhole s zero [] o h = omega arith
pigeonhole s zero (t ∷ ts) o h = absurd (omega (arith, h.0))
pigeonhole s (suc n) ts o h = omega (arith, without_length s n ts, pigeonhole s n (without s n ts) (without_once s n ts o) (without_below s n ts o h))

steps_length : (es backs : List ℕ) → length es ≡ length backs → length (steps_of es backs) ≡ length es
steps_length [] backs e = refl
steps_length (x ∷ es) [] e = absurd (omega arith)
steps_length (x ∷ es) (b ∷ backs) e = ap suc (steps_length es backs (omega arith))

module _ {p : Problem} (lim : Limits p) where
  start_in : (t : Step) → InGaps (sheet_from p) t → (start (sheet_from p) t).0 < p.labels
  start_in t h = go t.backwards
    where
      go : (b : Bool) → (cond b (label (nat p.right t.by.0)) (label (nat p.left t.by.0))).0 < p.labels
      go true = lim.right_in t.by.0 h
      go false = lim.left_in t.by.0 h

  ring_most : (ts : List Step) → IsRing (sheet_from p) ts → length ts ≤ p.labels
  ring_most [] r = absurd r
  ring_most (t ∷ ts) r = pigeonhole (sheet_from p) p.labels (t ∷ ts) r.once (each_map (λ u q. start_in u q.0) (t ∷ ts) r.passable)

  pub ring_room : {size : ℕ} {found : FoundRing} → RingStands p size found → size ≤ p.labels
  ring_room {size} {found} r =
      omega (arith, ring_most (steps_of (take size found.gaps) (take size found.back)) r.ring, steps_length (take size found.gaps) (take size found.back) (gaps ∙ sym backs), gaps)
    where
      gaps : length (take size found.gaps) ≡ size
      gaps = length-take-le size found.gaps r.gaps_room

      backs : length (take size found.back) ≡ size
      backs = length-take-le size found.back r.back_room

-- ---- bounds of a fraction pass to its lowest terms
module _ {q r : Fraction} (h : Reduced q r) (least : pos 1 ≤ℤ q.den) where
  q_above : 0 < nat_abs q.den
  q_above = nat_abs-above {z = q.den} (parts_lt (omega (arith, le_parts least)))

  cross : nat_abs r.num * nat_abs q.den ≡ nat_abs q.num * nat_abs r.den
  cross = sym (nat_abs-* r.num q.den) ∙ ap nat_abs h.same ∙ nat_abs-* q.num r.den

  pub reduced_den : nat_abs r.den ≤ nat_abs q.den
  reduced_den = le_of_dvd q_above (gauss (nat_abs r.num) (nat_abs r.den) (nat_abs q.den) h.lowest.reduced (subst (λ n. nat_abs r.den ∣ n) (sym cross) (dvd-mul_left (nat_abs r.den) (nat_abs q.num))))

  pub reduced_num : (C : ℕ) → nat_abs q.num ≤ C * nat_abs q.den → nat_abs r.num ≤ C * nat_abs r.den
  reduced_num C l = le_of_mul-le-mul_right {k = nat_abs q.den} (omega (arith, cross, mul-le-mul_right (nat_abs r.den) l)) q_above

-- ---- the work arrays

-- what copies of the lists to the front of the work arrays leave
pub copied_all : {p work : Problem} (wants₀ weights₀ : List ℤ) (lefts₀ rights₀ : List ℕ) (distances₀ : List ℤ) (kinds₀ : List ℕ) → Listed p
    → work.labels ≡ p.labels → work.gaps ≡ p.gaps
    → work.wanted ≡ over p.labels p.wanted wants₀ → work.weight ≡ over p.labels p.weight weights₀
    → work.left ≡ over p.gaps p.left lefts₀ → work.right ≡ over p.gaps p.right rights₀
    → work.distance ≡ over p.gaps p.distance distances₀ → work.kind ≡ over p.gaps p.kind kinds₀
    → Held p work
copied_all {p} wants₀ weights₀ lefts₀ rights₀ distances₀ kinds₀ listed n m a b c d e f =
    record {
      labels = n;
      gaps = m;
      lefts = copied_by p.gaps p.left lefts₀ 0 c (omega (arith, listed.lefts)) refl;
      rights = copied_by p.gaps p.right rights₀ 0 d (omega (arith, listed.rights)) refl;
      distances = copied_by p.gaps p.distance distances₀ (pos 0) e (omega (arith, listed.distances)) refl;
      kinds = copied_by p.gaps p.kind kinds₀ 0 f (omega (arith, listed.kinds)) refl;
      wants = copied_by p.labels p.wanted wants₀ (pos 0) a (omega (arith, listed.wants)) refl;
      weights = copied_by p.labels p.weight weights₀ (pos 0) b (omega (arith, listed.weights)) refl;
    }

module _ {p work : Problem} (lim : Limits p) (held : Held p work) where
  label_in : {i : ℕ} → i < work.labels → i < p.labels
  label_in h = omega (arith, held.labels, h)

  gap_in : {e : ℕ} → e < work.gaps → e < p.gaps
  gap_in h = omega (arith, held.gaps, h)

  pub work_agrees : Agree (sheet_from work) (sheet_from p)
  work_agrees =
      record {
        labels = held.labels;
        gaps = held.gaps;
        wanted = λ i h. held.wants i.0 (label_in h);
        weight = λ i h. held.weights i.0 (label_in h);
        gap = λ e h j.
            let l = gap_in h in
            record { left = label (held.lefts e.0 l j); right = label (held.rights e.0 l j); distance = held.distances e.0 l j; kind = kind_of (held.kinds e.0 l j) };
      }

  pub limits_work : Limits work
  limits_work =
      record {
        labels_bound = omega (arith, held.labels, lim.labels_bound);
        gaps_bound = omega (arith, held.gaps, lim.gaps_bound);
        left_in = λ e h. omega (arith, held.lefts e (gap_in h), lim.left_in e (gap_in h), held.labels);
        right_in = λ e h. omega (arith, held.rights e (gap_in h), lim.right_in e (gap_in h), held.labels);
        distance_bound = λ e h. subst (λ z. nat_abs z ≤ 20000) (sym (held.distances e (gap_in h))) (lim.distance_bound e (gap_in h));
        wanted_bound = λ i h. subst (λ z. nat_abs z ≤ 600000) (sym (held.wants i (label_in h))) (lim.wanted_bound i (label_in h));
        weight_low = λ i h. subst (λ z. pos 1 ≤ℤ z) (sym (held.weights i (label_in h))) (lim.weight_low i (label_in h));
        weight_high = λ i h. subst (λ z. z ≤ℤ pos 3600) (sym (held.weights i (label_in h))) (lim.weight_high i (label_in h));
      }

  -- the bound of a denominator passes to the lent weights and to lowest terms
  den_given : {q r : Fraction} → Reduced q r → pos 1 ≤ℤ q.den → DenMost work q.den → DenMost p r.den
  den_given h least most B light =
      omega (arith, reduced_den h least, most B (λ j l. subst (λ z. nat_abs z ≤ B) (sym (held.weights j (label_in l))) (light j (label_in l))))

module _ {p work : Problem} {b : Buffers} (ready : Ready p b) (held : Held p work) where
  abbrev lim : Limits p
  lim = ready.listed.limits

  pub solved :
      {s : State} {pn pd mn md : List ℤ} {carried' : List ℕ} →
      CorePlaced work s →
      FractionsWritten work.labels s.num s.den b.place_num b.place_den pn pd →
      FractionsWritten work.gaps s.load s.over b.mult_num b.mult_den mn md →
      carried' ≡ over work.gaps s.mark b.carried →
      work.gaps ≤ length s.mark →
      Solved p b (record { place_num = pn; place_den = pd; mult_num = mn; mult_den = md; carried = carried'; ring = b.ring; back = b.back })
  solved {s} {pn} {pd} {mn} {md} {carried'} core places mults carried-is long =
      record {
        place_nums = rw (sym held.labels) places.uppers;
        place_dens = rw (sym held.labels) places.lowers;
        mult_nums = rw (sym held.gaps) mults.uppers;
        mult_dens = rw (sym held.gaps) mults.lowers;
        carried = rw (sym held.gaps) marks.filled;
        ring = refl;
        back = refl;
        conditions = conditions_agree agrees (core.conditions _ _ (record { places = places.reduced; multipliers = mults.reduced }));
        marks = marks_agree agrees same_marks (core.marks _ _ (record { places = places.reduced; multipliers = mults.reduced }));
        bytes = λ e h. subst (λ x. x ≤ 1) (sym (marks.written e (gap_of h))) (core.bytes e (gap_of h));
        places_lowest = λ i h. (places.reduced i.0 (label_of h)).lowest;
        multipliers_lowest = λ e h. (mults.reduced e.0 (gap_of h)).lowest;
        den_most = λ i h. den_given lim held (places.reduced i (label_of h)) (core.den_least i (label_of h)) (core.den_most i (label_of h));
        num_most = λ i h B most.
            reduced_num (places.reduced i (label_of h)) (core.den_least i (label_of h)) (B + 940000)
            (core.num_most i (label_of h) B (λ j l. let in_p : j < p.labels = omega (arith, held.labels, l) in subst (λ z. nat_abs z ≤ B) (sym (held.wants j in_p)) (most j in_p)));
        asked = asked_agree agrees same_marks core.asked;
        mult_den_most = mult_den;
        mult_den_size = λ e h. den_limit lim (int md e) (mult_den e h);
      }
    where
      label_of : {i : ℕ} → i < p.labels → i < work.labels
      label_of h = omega (arith, held.labels, h)

      gap_of : {e : ℕ} → e < p.gaps → e < work.gaps
      gap_of h = omega (arith, held.gaps, h)

      marks : FrontWritten work.gaps s.mark b.carried carried' 0
      marks = copied_out work.gaps s.mark b.carried 0 carried-is long (omega (arith, held.gaps, ready.carrieds))

      agrees : Agree (sheet_from work) (sheet_from p)
      agrees = work_agrees lim held

      mult_den : (e : ℕ) → e < p.gaps → DenMost p (int md e)
      mult_den e h = den_given lim held (mults.reduced e (gap_of h)) (core.over_least e (gap_of h)) (core.over_most e (gap_of h))

      same_marks : (e : GapNumber) → e.0 < work.gaps → marks_of s.mark e.0 ≡ marks_of carried' e.0
      same_marks e h = ap (λ x. eqb x 1) (sym (marks.written e.0 h))

  -- a ring fits into the buffers
  pub ring_fits : {size : ℕ} {found : FoundRing} → RingStands work size found → size ≤ p.labels
  ring_fits r = omega (arith, ring_room (limits_work lim held) r, held.labels)

  pub ring_given :
      {size : ℕ} {found : FoundRing} {ring' back' : List ℕ} →
      RingStands work size found →
      ring' ≡ over size found.gaps b.ring →
      back' ≡ over size found.back b.back →
      RingGiven p b (record { place_num = b.place_num; place_den = b.place_den; mult_num = b.mult_num; mult_den = b.mult_den; carried = b.carried; ring = ring'; back = back' }) size
  ring_given {size} {found} {ring'} {back'} r ring-is back-is =
      record {
        some = r.some;
        most = most;
        ring = is_ring_agree (work_agrees lim held) (steps_of (take size ring') (take size back')) (subst (IsRing (sheet_from work)) (sym (ap₂ steps_of front_ring front_back)) r.ring);
        rings = gaps.filled;
        backs = backs.filled;
        stays = refl;
        back_bytes = λ k h. subst (λ x. x ≤ 1) (sym (backs.written k h)) (r.bytes k h);
      }
    where
      most : size ≤ p.labels
      most = ring_fits r

      gaps : FrontWritten size found.gaps b.ring ring' 0
      gaps = copied_out size found.gaps b.ring 0 ring-is r.gaps_room (omega (arith, most, ready.ring_room.0))

      backs : FrontWritten size found.back b.back back' 0
      backs = copied_out size found.back b.back 0 back-is r.back_room (omega (arith, most, ready.ring_room.1))

      front_ring : take size ring' ≡ take size found.gaps
      front_ring = take_agree size ring' found.gaps 0 (omega (arith, most, ready.ring_room.0, gaps.filled.size)) r.gaps_room gaps.written

      front_back : take size back' ≡ take size found.back
      front_back = take_agree size back' found.back 0 (omega (arith, most, ready.ring_room.1, backs.filled.size)) r.back_room backs.written
