-- The cases of the bench are right: one test computed over the whole list, and one theorem,
-- that what passes the test is right.
use Prim.Native.Nat.{ℕ, zero, suc, ◌%◌, ◌∣◌, ◌<◌}
use mathlib.Core.Path.{◌≡◌, refl, sym, ap, subst, subst⁻¹}
use mathlib.Core.Logic.{◌≢◌, ◌⊎◌, inl, inr, ⊎_elim}
use mathlib.Core.Bool.{Bool, true, false, not, ◌&&◌, ◌||◌, true≢false}
use mathlib.Core.List.Memᴰ
use mathlib.Core.List.{List, [], ◌∷◌, Memᴰ}
use native.Mathlib.Omega.{arith}
use native.Mathlib.Nat.{mod-eq-zero_of_dvd, le_of_dvd}
use lib.Dec.{T, T_not, eqb, ltb, eqb→eq, eqb_refl, ltb→lt}
use lib.ListN.{length, get_or}
use lib.IntN.{ℤ, pos, nat_abs}
use lib.Signed.{◌≤ℤ◌, ◌<ℤ◌, le_z, lt_z}
use Rattle.exact.specs.declared.Fraction.{Fraction}
use Rattle.exact.specs.Fraction.{LowestTerms}
use Rattle.exact.specs.Slack.{euclid, lowest_of}
use Rattle.exact.specs.Total.{total}
use Rattle.algebra.proofs.Whole.{le_antisym, le_of_eq, not_le_of_lt, lt_parts, parts_nat_abs}
use Rattle.algebra.proofs.Ring.{and_parts}
use Rattle.algebra.proofs.Sum.{last_or_below}
use Rattle.ground.specs.declared.Label.{Label}
use Rattle.ground.specs.declared.GapNumber.{GapNumber}
use Rattle.least_move.specs.Sheet.{Sheet, Kind, at_least, exactly, ignored, Proper, label, gap_number}
use Rattle.least_move.specs.Placement.{Placement, slack_of, HoldsWith, Feasible, Tight}
use Rattle.least_move.specs.Multipliers.{Multipliers, Lawful, Conditions}
use Rattle.least_move.specs.Marks.{Step, start, finish, Leads}
use Rattle.least_move.specs.Ring.{Ring, Passable, OnceLeft, distance_sum, IsRing}
use Rattle.least_move.specs.Moved.{SameButWants}
use Rattle.least_move.specs.Bench.{WrittenGap, ◌to◌of◌, Source, given, worked_out, Placed, Refused, Moved, Case, placed, refused, moved}
use Rattle.least_move.specs.Bench.{bench, gap_of, written, sheet_of, placement, multipliers, OnlyMultipliers, RightPlaced, RightRefused, RightMoved, RightCase}
use Rattle.least_move.proofs.Laws.{least_of_conditions, ring_excludes}
use Rattle.least_move.proofs.Decided.{Alone, Decided, decided_same}
use Rattle.ground.specs.Entries.{Each}
use Rattle.ground.proofs.Each.{each_map}

-- ---- tests that come with their proofs

-- a test that computes, and what it shows where it passes
pub record Test (P : Type 0) : Type 0 where
  pub passes : Bool
  pub shows : T passes → P

abbrev pub granted : {P : Type 0} → P → Test P
granted p = record { passes = true; shows = λ _. p }

abbrev denied : {P : Type 0} → Test P
denied = record { passes = false; shows = λ h. absurd h }

-- A chain `granted f on a on b` is the test of what f shows from the parts:
-- the parts' statements come from f's result, so that a test of a record tests what the record says.
infixl 30 ◌on◌
abbrev pub ◌on◌ : {P Q : Type 0} → Test (P → Q) → Test P → Test Q
f on a =
    record {
      passes = f.passes && a.passes;
      shows = λ h. f.shows (and_parts f.passes a.passes h).0 (a.shows (and_parts f.passes a.passes h).1);
    }

-- one of two
pub one_passes : (a b : Bool) → T (a || b) → T a ⊎ T b
one_passes true b h = inl tt
one_passes false b h = inr h

infixr 40 ◌or◌
abbrev ◌or◌ : {P Q : Type 0} → Test P → Test Q → Test (P ⊎ Q)
a or b =
    record {
      passes = a.passes || b.passes;
      shows = λ h. ⊎_elim (λ x. inl (a.shows x)) (λ x. inr (b.shows x)) (one_passes a.passes b.passes h);
    }

-- the second where the first is not so, and the second where the first is so
abbrev unless : {P Q : Type 0} → Test P → Test Q → Test (¬ P → Q)
unless a b = granted (λ h n. ⊎_elim (λ t. absurd (n t)) (λ z. z) h) on (a or b)

abbrev provided : {P Q : Type 0} → Test (¬ P) → Test Q → Test (P → Q)
provided a b = granted (λ h t. ⊎_elim (λ n. absurd (n t)) (λ z. z) h) on (a or b)

-- at every number below n, so at every label and at every gap
abbrev below : (n : ℕ) {P : ℕ → Type 0} → ((k : ℕ) → Test (P k)) → Test ((k : ℕ) → k < n → P k)
below zero t = granted (λ k h. absurd (omega arith))
below (suc n) {P} t = granted (λ last others k h. ⊎_elim (λ e. subst⁻¹ P e last) (λ l. others k l) (last_or_below k n h)) on t n on below n t

abbrev pub labels : {n : ℕ} {P : Label → Type 0} → ((i : Label) → Test (P i)) → Test ((i : Label) → i.0 < n → P i)
labels {n} t = granted (λ h i. h i.0) on below n (λ k. t (label k))

abbrev gaps : {n : ℕ} {P : GapNumber → Type 0} → ((e : GapNumber) → Test (P e)) → Test ((e : GapNumber) → e.0 < n → P e)
gaps {n} t = granted (λ h e. h e.0) on below n (λ k. t (gap_number k))

-- at every entry of a list
abbrev pub each : {A : Type 0} {P : A → Type 0} → ((a : A) → Test (P a)) → (l : List A) → Test ((a : A) → Memᴰ a l → P a)
each t [] = granted (λ a m. absurd (Memᴰ.not-nil m))
each {A} {P} t (x ∷ l) = granted (λ first others a m. ⊎_elim (λ e. subst⁻¹ P e first) (λ n. others a n) (Memᴰ.cases_cons m)) on t x on each t l

-- ---- of numbers

abbrev equal : (a b : ℕ) → Test (a ≡ b)
equal a b = record { passes = eqb a b; shows = eqb→eq a b }

abbrev unequal : (a b : ℕ) → Test (a ≢ b)
unequal a b = record { passes = not (eqb a b); shows = λ h e. T_not (eqb a b) h (subst (λ x. T (eqb a x)) e (eqb_refl a)) }

abbrev less : (a b : ℕ) → Test (a < b)
less a b = record { passes = ltb a b; shows = ltb→lt a b }

abbrev pub at_mostℤ : (a b : ℤ) → Test (a ≤ℤ b)
at_mostℤ a b = record { passes = le_z a b; shows = λ h. record { le = h } }

abbrev lessℤ : (a b : ℤ) → Test (a <ℤ b)
lessℤ a b = record { passes = lt_z a b; shows = λ h. record { lt = h } }

abbrev pub equalℤ : (a b : ℤ) → Test (a ≡ b)
equalℤ a b = granted (λ (h : a ≤ℤ b) (k : b ≤ℤ a). le_antisym h k) on at_mostℤ a b on at_mostℤ b a

abbrev unequalℤ : (a b : ℤ) → Test (¬ (a ≡ b))
unequalℤ a b =
    granted (λ h (e : a ≡ b). ⊎_elim (λ l. not_le_of_lt l (le_of_eq (sym e))) (λ l. not_le_of_lt l (le_of_eq e)) h)
    on (lessℤ a b or lessℤ b a)

abbrev equal_label : (a b : Label) → Test (a ≡ b)
equal_label a b = granted (ap label) on equal a.0 b.0

abbrev unequal_label : (a b : Label) → Test (a ≢ b)
unequal_label a b = granted (λ (n : a.0 ≢ b.0) e. n (ap (λ (l : Label). l.0) e)) on unequal a.0 b.0

-- lowest terms: a divisor is at most the denominator, so that it is enough to try the numbers up to it
abbrev Undivided : Fraction → ℕ → Type 0
Undivided q k = (k ≡ 1) ⊎ ((nat_abs q.num % k ≢ 0) ⊎ (nat_abs q.den % k ≢ 0))

pub lowest : (q : Fraction) → pos 0 <ℤ q.den → ((k : ℕ) → k < suc (nat_abs q.den) → Undivided q k) → LowestTerms q
lowest q above tried =
    record {
      above = above;
      reduced = λ k a b.
          ⊎_elim (λ e. e)
          (λ n. absurd (⊎_elim (λ u. u (mod-eq-zero_of_dvd k a)) (λ u. u (mod-eq-zero_of_dvd k b)) n))
          (tried k (within k b));
    }
  where
    positive : 0 < nat_abs q.den
    positive = omega (arith, lt_parts above, parts_nat_abs q.den)

    within : (k : ℕ) → k ∣ nat_abs q.den → k < suc (nat_abs q.den)
    within k d = omega (arith, le_of_dvd positive d)

abbrev lowest? : (q : Fraction) → Test (LowestTerms q)
lowest? q = granted (lowest q) on lessℤ _ _ on below _ (λ k. equal _ _ or unequal _ _ or unequal _ _)

-- ---- of the definitions

abbrev proper? : (s : Sheet) → Test (Proper s)
proper? s =
    granted (λ a b c. record { heavy = a; left_in = b; right_in = c })
    on labels (λ i. lessℤ _ _)
    on gaps (λ e. less _ _)
    on gaps (λ e. less _ _)

abbrev holds? : (k : Kind) (slack : Fraction) → Test (HoldsWith k slack)
holds? at_least slack = at_mostℤ _ _
holds? exactly slack = equalℤ _ _
holds? ignored slack = granted tt

abbrev lawful? : (k : Kind) (q : Fraction) → Test (Lawful k q)
lawful? at_least q = at_mostℤ _ _
lawful? exactly q = granted tt
lawful? ignored q = equalℤ _ _

abbrev feasible? : (s : Sheet) (p : Placement) → Test (Feasible s p)
feasible? s p =
    granted (λ a b. record { fractions = a; meets = b })
    on labels (λ i. lessℤ _ _)
    on gaps (λ e. holds? (s.gap e).kind (slack_of p (s.gap e)))

abbrev conditions? : (s : Sheet) (p : Placement) (m : Multipliers) → Test (Conditions s p m)
conditions? s p m =
    granted (λ a b c d e f. record { feasible = a; fractions = b; lawful = c; loose = d; balance = e; self = f })
    on feasible? s p
    on gaps (λ e. lessℤ _ _)
    on gaps (λ e. lawful? (s.gap e).kind (m e))
    on gaps (λ e. unless (equalℤ _ _) (equalℤ _ _))
    on labels (λ i. equalℤ _ _)
    on gaps (λ e. provided (unequal_label _ _) (equalℤ _ _))

abbrev passable? : (k : Kind) (b : Bool) → Test (Passable k b)
passable? at_least true = denied
passable? at_least false = granted refl
passable? exactly b = granted tt
passable? ignored b = denied

abbrev leads? : (s : Sheet) (a : Label) (l : List Step) (b : Label) → Test (Leads s a l b)
leads? s a [] b = equal_label a b
leads? s a (t ∷ l) b = granted (λ x y. (x, y)) on equal_label _ _ on leads? s (finish s t) l b

abbrev steps? : {P : Step → Type 0} → ((t : Step) → Test (P t)) → (l : List Step) → Test (Each P l)
steps? test [] = granted tt
steps? test (t ∷ l) = granted (λ x y. (x, y)) on test t on steps? test l

abbrev once? : (s : Sheet) (l : List Step) → Test (OnceLeft s l)
once? s [] = granted tt
once? s (t ∷ l) = granted (λ x y. (x, y)) on steps? (λ r. unequal_label (start s r) (start s t)) l on once? s l

abbrev ring? : (s : Sheet) (first : Step) (rest : List Step) → Test (Ring s first rest)
ring? s first rest =
    granted (λ a b c d. record { closed = a; passable = b; once = c; above = d })
    on leads? s (finish s first) rest (start s first)
    on steps? (λ t. granted (λ x y. (x, y)) on less t.by.0 s.gaps on passable? (s.gap t.by).kind t.backwards) (first ∷ rest)
    on once? s (first ∷ rest)
    on lessℤ _ _

-- ---- what the places and the gaps decide

-- a gap that is not tight
abbrev loose? : (s : Sheet) (p : Placement) (e : ℕ) → Test (¬ (Tight p (s.gap (gap_number e))))
loose? s p e = unequalℤ _ _

abbrev pair? : {P Q : Type 0} → Test P → Test Q → Test (P × Q)
pair? a b = granted (λ x y. (x, y)) on a on b

abbrev alone? : (s : Sheet) (p : Placement) (e i : ℕ) → Test (Alone s p e i)
alone? s p e i =
    granted (λ a b c. record { inside = a; once = b; idle = c })
    on less _ _
    on (pair? (equal _ _) (unequal _ _) or pair? (equal _ _) (unequal _ _))
    on below _ (λ f. equal _ _ or (pair? (unequal _ _) (unequal _ _) or loose? s p f))

abbrev decided? : (s : Sheet) (p : Placement) (e : ℕ) → Test (Decided s p e)
decided? s p e = loose? s p e or (equal_label _ _ or (alone? s p e _ or alone? s p e _))

-- ---- every ring of a sheet, tried from each step on

abbrev equal_bool : (a b : Bool) → Test (a ≡ b)
equal_bool true true = granted refl
equal_bool true false = denied
equal_bool false true = denied
equal_bool false false = granted refl

abbrev equal_step : (t u : Step) → Test (t ≡ u)
equal_step t u =
    granted (λ (x : t.by.0 ≡ u.by.0) (y : t.backwards ≡ u.backwards) i. record { by = gap_number (x i); backwards = y i })
    on equal _ _
    on equal_bool _ _

abbrev member? : (t : Step) (l : List Step) → Test (Memᴰ t l)
member? t [] = denied
member? t (u ∷ l) = granted (⊎_elim Memᴰ.head Memᴰ.tail) on (equal_step t u or member? t l)

-- at every step along a gap, either way
either_way : (P : Step → Type 0) (t : Step) → P (record { by = t.by; backwards = true }) → P (record { by = t.by; backwards = false }) → P t
either_way P t back forth = go t.backwards
  where
    go : (b : Bool) → P (record { by = t.by; backwards = b })
    go true = back
    go false = forth

abbrev steps : {n : ℕ} {P : Step → Type 0} → ((t : Step) → Test (P t)) → Test ((t : Step) → t.by.0 < n → P t)
steps {n} {P} test =
    granted (λ h t below. either_way P t (h t.by below).0 (h t.by below).1)
    on gaps (λ e. pair? (test (record { by = e; backwards = true })) (test (record { by = e; backwards = false })))

-- the second where the first is so, tried only where it may be
abbrev tried : Bool → (Unit {0} → Bool) → Bool
tried true b = true
tried false b = b tt

tried_shows : {P Q : Type 0} (a : Bool) → (T a → ¬ P) → (b : Unit {0} → Test Q) → T (tried a (λ x. (b x).passes)) → P → Q
tried_shows true stops b h p = absurd (stops tt p)
tried_shows false stops b h p = (b tt).shows h

abbrev if_so : {P Q : Type 0} → Test (¬ P) → (Unit {0} → Test Q) → Test (P → Q)
if_so a b = record { passes = tried a.passes (λ x. (b x).passes); shows = tried_shows a.passes a.shows b }

-- a gap that may not be passed this way, and a label among those seen
abbrev barred? : (k : Kind) (b : Bool) → Test (¬ (Passable k b))
barred? at_least true = granted true≢false
barred? at_least false = denied
barred? exactly b = denied
barred? ignored b = granted (λ h. h)

abbrev seen? : (a : Label) (seen : List Label) → Test (¬ (Each (λ l. a ≢ l) seen))
seen? a [] = denied
seen? a (l ∷ seen) = granted (λ h each. ⊎_elim (λ e. each.0 e) (λ n. n each.1) h) on (equal_label a l or seen? a seen)

-- steps behind those taken, the last of which stands first
abbrev onto : List Step → List Step → List Step
onto [] ts = ts
onto (t ∷ taken) ts = onto taken (t ∷ ts)

-- as many steps as the list has, and these
abbrev Such : List Step → List Step → Type 0
Such l ts = (length ts ≡ length l) × Each (λ t. Memᴰ t ts) l

-- what is left of a ring from home: it stands at a label, and labels that it has started from are seen
record Rest (s : Sheet) (home at : Label) (seen : List Label) (taken rest : List Step) : Type 0 where
  leads : Leads s at rest home
  passable : Each (λ t. (t.by.0 < s.gaps) × Passable (s.gap t.by).kind t.backwards) rest
  once : OnceLeft s rest
  unseen : Each (λ l. Each (λ t. start s t ≢ l) rest) seen
  above : pos 0 <ℤ distance_sum s (onto taken rest)

abbrev Walk : (s : Sheet) (l : List Step) (home at : Label) (seen : List Label) (taken : List Step) → Type 0
Walk s l home at seen taken = (rest : List Step) → Rest s home at seen taken rest → Such l (onto taken rest)

-- the next step of such a ring
abbrev Next : (s : Sheet) (at : Label) (seen : List Label) → Step → Type 0
Next s at seen t = Passable (s.gap t.by).kind t.backwards × (start s t ≡ at) × Each (λ l. start s t ≢ l) seen

walked : (s : Sheet) (l : List Step) (home at : Label) (seen : List Label) (taken : List Step)
    → ((at ≡ home) → (pos 0 <ℤ distance_sum s (onto taken [])) → Such l (onto taken []))
    → ((t : Step) → t.by.0 < s.gaps → Next s at seen t → Walk s l home (finish s t) (start s t ∷ seen) (t ∷ taken))
    → Walk s l home at seen taken
walked s l home at seen taken here next [] r = here r.leads r.above
walked s l home at seen taken here next (t ∷ rest) r =
    next t r.passable.0.0 (r.passable.0.1, r.leads.0, each_map (λ a h. h.0) seen r.unseen) rest
    (record { leads = r.leads.1; passable = r.passable.1; once = r.once.1; unseen = (r.once.0, each_map (λ a h. h.1) seen r.unseen); above = r.above })

begun : (s : Sheet) (l : List Step)
    → ((t : Step) → t.by.0 < s.gaps → Passable (s.gap t.by).kind t.backwards → Walk s l (start s t) (finish s t) (start s t ∷ []) (t ∷ []))
    → (ts : List Step) → IsRing s ts → Such l ts
begun s l first [] r = absurd r
begun s l first (t ∷ ts) r =
    first t r.passable.0.0 r.passable.0.1 ts
    (record { leads = r.closed; passable = r.passable.1; once = r.once.1; unseen = (r.once.0, tt); above = r.above })

abbrev next? : (s : Sheet) (at : Label) (seen : List Label) (t : Step) → Test (¬ (Next s at seen t))
next? s at seen t =
    granted (λ h n. ⊎_elim (λ x. x n.0) (⊎_elim (λ x. x n.1) (λ x. x n.2)) h)
    on (barred? (s.gap t.by).kind t.backwards or unequal_label (start s t) at or seen? (start s t) seen)

abbrev such? : (l ts : List Step) → Test (Such l ts)
such? l ts = granted (λ x y. (x, y)) on equal _ _ on steps? (λ t. member? t ts) l

-- a ring has at most as many steps as the sheet has labels
abbrev walk? : (n : ℕ) (s : Sheet) (l : List Step) (home at : Label) (seen : List Label) (taken : List Step) → Test (Walk s l home at seen taken)
walk? zero s l home at seen taken = denied
walk? (suc n) s l home at seen taken =
    granted (walked s l home at seen taken)
    on provided (unequal_label at home) (provided (granted (λ h k. not_le_of_lt k h) on at_mostℤ _ _) (such? l (onto taken [])))
    on steps (λ t. if_so (next? s at seen t) (λ _. walk? n s l home (finish s t) (start s t ∷ seen) (t ∷ taken)))

abbrev rings? : (s : Sheet) (l : List Step) → Test ((ts : List Step) → IsRing s ts → Such l ts)
rings? s l =
    granted (begun s l)
    on steps (λ t. if_so (barred? (s.gap t.by).kind t.backwards) (λ _. walk? s.labels s l (start s t) (finish s t) (start s t ∷ []) (t ∷ [])))

-- ---- of the cases

abbrev only? : (c : Placed) (by : Source) → Test (Proper (sheet_of c) → Conditions (sheet_of c) (placement c) (multipliers c) → OnlyMultipliers c by)
only? c given =
    granted (λ decided proper right m other e h.
    decided_same (sheet_of c) (placement c) m (multipliers c) proper other right e.0 h (decided e.0 h))
    on below (length c.sheet.gaps) (λ e. decided? (sheet_of c) (placement c) e)
only? c worked_out = granted (λ _ _. tt)

abbrev is_ring? : (s : Sheet) (l : List Step) → Test (IsRing s l)
is_ring? s [] = denied
is_ring? s (t ∷ l) = ring? s t l

abbrev gap_at : Placed → GapNumber → WrittenGap
gap_at c e = get_or c.sheet.gaps e.0 (0 to 0 of pos 0)

abbrev gap? : (a b : WrittenGap) → Test (gap_of a ≡ gap_of b)
gap? a b =
    granted (λ (x : a.left ≡ b.left) (y : a.right ≡ b.right) (z : a.distance ≡ b.distance) (k : a.kind ≡ b.kind) i.
    gap_of (record { left = x i; right = y i; distance = z i; kind = k i }))
    on equal _ _
    on equal _ _
    on equalℤ _ _
    on equal _ _

no_placement : (s : Sheet) (l : List Step) → Proper s → IsRing s l → (p : Placement) → ¬ (Feasible s p)
no_placement s [] h r = absurd r
no_placement s (t ∷ l) h r = ring_excludes s h t l r

abbrev pub placed? : (c : Placed) → Test (RightPlaced c)
placed? c =
    granted (λ proper a k b c' d e o. record {
      weighted = a;
      carrying = k;
      per_label = b;
      per_gap = c';
      conditions = d;
      least = least_of_conditions (sheet_of c) (placement c) (multipliers c) proper d;
      lowest = e;
      only = o proper d;
    })
    on proper? (sheet_of c)
    on equal _ _
    on equal _ _
    on equal _ _
    on equal _ _
    on conditions? _ _ _
    on each lowest? _
    on only? c c.source

abbrev refused? : (c : Refused) → Test (RightRefused c)
refused? c =
    granted (λ proper a k b r o. record {
      weighted = a;
      carrying = k;
      number = b;
      ring = r;
      none = no_placement (written c.sheet) c.ring proper r;
      only = o;
    })
    on proper? (written c.sheet)
    on equal _ _
    on equal _ _
    on equal _ _
    on is_ring? (written c.sheet) c.ring
    on rings? (written c.sheet) c.ring

-- the sheets differ in wants only
abbrev pub same? : (b a : Placed) → Test (SameButWants (sheet_of b) (sheet_of a))
same? b a =
    granted (λ l g w c. record { labels = l; gaps = g; weight = w; gap = c })
    on equal _ _
    on equal _ _
    on labels (λ i. equalℤ _ _)
    on gaps (λ e. gap? (gap_at a e) (gap_at b e))

abbrev moved? : (c : Moved) → Test (RightMoved c)
moved? c =
    granted (λ a b s g h i. record { before = a; after = b; same = s; one = g; want = h; place = i })
    on placed? c.before
    on placed? c.after
    on same? c.before c.after
    on less _ _
    on labels (λ i. equalℤ _ _)
    on labels (λ i. equalℤ _ _)

-- the test of a case, and that a case that passes it is right
abbrev case? : (c : Case) → Test (RightCase c)
case? (placed c) = placed? c
case? (refused c) = refused? c
case? (moved c) = moved? c

-- every case of the list is right, since the whole list passes
pub bench_right : (c : Case) → Memᴰ c bench → RightCase c
unfolding bench total lowest_of euclid
bench_right = (each case? bench).shows tt
