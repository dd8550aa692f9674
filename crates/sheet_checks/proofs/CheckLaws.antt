-- What the checks' searches and tests show of the refusal table: the first offender of a row, and checks one after another.
use Prim.Native.Nat.{ℕ, zero, suc, ◌<◌, ◌≤◌}
use mathlib.Core.Path.{◌≡◌, refl, sym, ◌∙◌, ap}
use mathlib.Core.Bool.{Bool, true, false, cond}
use mathlib.Core.List.{List, [], ◌∷◌, ◌++◌, map}
use native.Mathlib.Omega.{arith}
use lib.Dec.{ltb}
use lib.ListN.{length, get_or}
use lib.IntN.{pos, neg_ℤ}
use borrow.Author.Tests.{ltb-true, ltb-false}
use Rattle.std.specs.Prelude.{Some, None, Ok, Err, position, zip}
use Rattle.std.specs.List.{position_or_len}
use Rattle.std.proofs.lemmas.Bool.{cond_above, cond_below}
use Rattle.std.proofs.lemmas.List.Sums.{fails_before_first, passes_at_first, position_or_len_is}
use Rattle.ground.specs.Limits.{distance_most, wanted_most, weight_least, weight_most}
use Rattle.ground.specs.declared.lists.Lists.{Lists}
use Rattle.ground.specs.declared.Refusal.{Refusal}
use Rattle.ground.specs.Answers.{Answer}
use Rattle.sheet_checks.specs.declared.check.Room.{Room}
use Rattle.sheet_checks.specs.Lent.{Read, gap_count, label_count, sheet_now}
use Rattle.sheet_checks.specs.Refusals.{Row, pass, first_refusal, in_turn, test, refuse, offender_below, offender, size_tests, table_of, outside, unequal, unknown}
use Rattle.sheet_checks.specs.Refusals.{ragged, short, neither, off_plate, bad_weight, stranger, bad_gap, bad_kind, rows, table_for}
use Rattle.sheet_checks.specs.Checks.{Even, contents_of, told}
use Rattle.sheet_checks.proofs.Passed.{offender_same, or_clear, same_of_not, test_pass}

-- ---- the first offender of a row

module _ (number : ℕ) (bad : ℕ → Bool) where
  -- none of n is bad
  none_below : (n : ℕ) → ((j : ℕ) → j < n → bad j ≡ false) → pass ≡ offender_below number n bad
  unfolding offender_below
  none_below zero clear = refl
  none_below (suc n) clear = rw (clear n (omega arith), sym (none_below n (λ j h. clear j (omega arith))))

  -- the first of n that is bad
  first_below : (k n : ℕ) → k < n → ((j : ℕ) → j < k → bad j ≡ false) → bad k ≡ true → refuse number k ≡ offender_below number n bad
  unfolding offender_below
  first_below k zero h clear e = absurd (omega arith)
  first_below k (suc n) h clear e = at (ltb k n) refl (λ l. first_below k n l clear e)
    where
      at : (t : Bool) → ltb k n ≡ t → (k < n → refuse number k ≡ offender_below number n bad)
          → refuse number k ≡ first_refusal (offender_below number n bad) (cond (bad n) (refuse number n) pass)
      at true t before = rw (sym (before (ltb-true k n t)))
      at false t before =
          let same : n ≡ k = omega (arith, ltb-false k n t) in
          rw (same, e, sym (none_below k clear))

-- of a row: none is bad, and the first that is
pub none_bad : (row : Row) → ((j : ℕ) → j < row.count → row.bad j ≡ false) → pass ≡ offender row
none_bad row = none_below row.number row.bad row.count

pub first_bad : (row : Row) (k : ℕ) → k < row.count → ((j : ℕ) → j < k → row.bad j ≡ false) → row.bad k ≡ true → refuse row.number k ≡ offender row
first_bad row k = first_below row.number row.bad k row.count

-- ---- a search, place by place

module _ {A : Type 0} (bad : A → Bool) (list : List A) (none : A) {k : ℕ} (clear : (j : ℕ) → j < k → bad (get_or list j none) ≡ false) where
  -- the first offender, where none stands before it
  pub search_found : k < length list → bad (get_or list k none) ≡ true → Some k ≡ position bad list
  search_found h e =
      let same : position_or_len bad list ≡ k = position_or_len_is bad list k none (omega arith) clear (λ l. e) in
      ap (λ n. Some n) (sym same) ∙ cond_below (position_or_len bad list) (length list) (Some (position_or_len bad list)) None (omega arith)

  -- none in the whole list
  pub search_none : length list ≤ k → None ≡ position bad list
  search_none h =
      let before = λ (j : ℕ) (l : j < length list). clear j (omega arith) in
      let same : position_or_len bad list ≡ length list = position_or_len_is bad list (length list) none (omega arith) before (λ l. absurd (omega arith)) in
      cond_above (position_or_len bad list) (length list) (Some (position_or_len bad list)) None None (omega arith) refl

-- what a search finds is the first of a row's offenders
module _ {A : Type 0} (number : ℕ) (bad : A → Bool) (list : List A) (none : A) where
  pub told_offender : told number (position bad list) ≡ offender_below number (length list) (λ k. bad (get_or list k none))
  told_offender = at (ltb (position_or_len bad list) (length list)) refl
    where
      at : (t : Bool) → ltb (position_or_len bad list) (length list) ≡ t
          → told number (cond t (Some (position_or_len bad list)) None) ≡ offender_below number (length list) (λ k. bad (get_or list k none))
      at true e =
          let within = ltb-true (position_or_len bad list) (length list) e in
          first_below number (λ k. bad (get_or list k none)) (position_or_len bad list) (length list) within
          (λ j h. fails_before_first bad list j none h) (passes_at_first bad list none within)
      at false e =
          none_below number (λ k. bad (get_or list k none)) (length list)
          (λ j h. fails_before_first bad list j none (omega (arith, ltb-false (position_or_len bad list) (length list) e)))

-- lists of one length, side by side
pairs_length : (xs ys : List ℕ) → length ys ≡ length xs → length (zip xs ys) ≡ length xs
pairs_length [] ys e = refl
pairs_length (x ∷ xs) [] e = absurd (omega arith)
pairs_length (x ∷ xs) (y ∷ ys) e = ap suc (pairs_length xs ys (omega arith))

pairs_entry : (xs ys : List ℕ) (k : ℕ) → length ys ≡ length xs → get_or (zip xs ys) k (0, 0) ≡ (get_or xs k 0, get_or ys k 0)
pairs_entry [] [] k e = refl
pairs_entry [] (y ∷ ys) k e = absurd (omega arith)
pairs_entry (x ∷ xs) [] k e = absurd (omega arith)
pairs_entry (x ∷ xs) (y ∷ ys) zero e = refl
pairs_entry (x ∷ xs) (y ∷ ys) (suc k) e = pairs_entry xs ys k (omega arith)

-- ---- one check after another

-- a refusal ends the checks
pub ends : {r c : Answer} {q : Refusal} (later : Answer) → r ≡ Err q → r ≡ c → r ≡ first_refusal c later
ends later e f = e ∙ ap (λ (x : Answer). first_refusal x later) (sym e ∙ f)

-- a pass goes on to the later ones
pub goes_on : {r c d : Answer} (later : Answer) → r ≡ pass → r ≡ c → d ≡ later → d ≡ first_refusal c later
goes_on later e f g = g ∙ ap (λ (x : Answer). first_refusal x later) (sym e ∙ f)

-- the last
pub alone : (c : Answer) → c ≡ first_refusal c pass
alone (Ok _) = refl
alone (Err q) = refl

first_of_first : (a b c : Answer) → first_refusal a (first_refusal b c) ≡ first_refusal (first_refusal a b) c
first_of_first (Ok _) b c = refl
first_of_first (Err q) b c = refl

-- some checks, and then others
turns : (cs ds : List Answer) → in_turn (cs ++ ds) ≡ first_refusal (in_turn cs) (in_turn ds)
turns [] ds = refl
turns (c ∷ cs) ds = ap (first_refusal c) (turns cs ds) ∙ first_of_first c (in_turn cs) (in_turn ds)

-- the table is the sizes' checks, and then the contents'
pub table_parts : (r : Read) (room : Room)
    → first_refusal (in_turn (size_tests (label_count r) (gap_count r) (ragged r room.carried) (short (label_count r) (gap_count r) room))) (contents_of r)
    ≡ table_for r room
unfolding table_of
table_parts r room =
    sym (turns (size_tests (label_count r) (gap_count r) (ragged r room.carried) (short (label_count r) (gap_count r) room)) (map offender (rows r)))

-- ---- the checks of a sheet

module _ (l : Lists) where
  -- lists that are not ragged belong together
  pub even_of_clear : (carried : ℕ) → ragged (sheet_now l) carried ≡ false → Even l
  even_of_clear carried clear =
      let first = or_clear _ (unequal carried (length l.left.now)) clear in
      let second = or_clear (unequal (length l.weight.now) (length l.wanted.now)) _ first.0 in
      let third = or_clear _ (unequal (length l.kind.now) (length l.left.now)) second.1 in
      let fourth = or_clear (unequal (length l.right.now) (length l.left.now)) (unequal (length l.distance.now) (length l.left.now)) third.0 in
      record {
        weights = same_of_not (length l.weight.now) (length l.wanted.now) second.0;
        rights = same_of_not (length l.right.now) (length l.left.now) fourth.0;
        distances = same_of_not (length l.distance.now) (length l.left.now) fourth.1;
        kinds = same_of_not (length l.kind.now) (length l.left.now) third.1;
      }

  -- and so do those that pass check 3
  pub even_of_pass : (carried : ℕ) → test 3 (ragged (sheet_now l) carried) ≡ pass → Even l
  even_of_pass carried e = even_of_clear carried (test_pass 3 (ragged (sheet_now l) carried) e)

  -- lists of one length are counted alike
  module _ (even : Even l) where
    pub plate_told : told 5 (position (outside (neg_ℤ (pos wanted_most)) (pos wanted_most)) l.wanted.now) ≡ offender (off_plate (sheet_now l))
    plate_told = told_offender 5 (outside (neg_ℤ (pos wanted_most)) (pos wanted_most)) l.wanted.now (pos 0)

    pub weights_told : told 6 (position (outside (pos weight_least) (pos weight_most)) l.weight.now) ≡ offender (bad_weight (sheet_now l))
    weights_told =
        told_offender 6 (outside (pos weight_least) (pos weight_most)) l.weight.now (pos 0)
        ∙ ap (λ n. offender_below 6 n (bad_weight (sheet_now l)).bad) even.weights

    pub strangers_told : told 7 (position (unknown (length l.wanted.now)) (zip l.left.now l.right.now)) ≡ offender (stranger (sheet_now l))
    strangers_told =
        let labels = length l.wanted.now in
        let pairs = zip l.left.now l.right.now in
        told_offender 7 (unknown labels) pairs (0, 0)
        ∙ (ap (λ n. offender_below 7 n (λ k. unknown labels (get_or pairs k (0, 0)))) (pairs_length l.left.now l.right.now even.rights)
        ∙ offender_same 7 (λ k. unknown labels (get_or pairs k (0, 0))) (stranger (sheet_now l)).bad (length l.left.now)
        (λ k h. ap (unknown labels) (pairs_entry l.left.now l.right.now k even.rights)))

    pub distances_told : told 8 (position (outside (neg_ℤ (pos distance_most)) (pos distance_most)) l.distance.now) ≡ offender (bad_gap (sheet_now l))
    distances_told =
        told_offender 8 (outside (neg_ℤ (pos distance_most)) (pos distance_most)) l.distance.now (pos 0)
        ∙ ap (λ n. offender_below 8 n (bad_gap (sheet_now l)).bad) even.distances

    pub kinds_told : told 23 (position neither l.kind.now) ≡ offender (bad_kind (sheet_now l))
    kinds_told = told_offender 23 neither l.kind.now 0 ∙ ap (λ n. offender_below 23 n (bad_kind (sheet_now l)).bad) even.kinds

-- what the searches found, row by row
pub ruleset rows_told = (plate_told, weights_told, strangers_told, distances_told, kinds_told)
