-- What holds of every refusal that a check may tell holds of the one that the table tells.
use Prim.Native.Nat.{ℕ, zero, suc, ◌<◌}
use mathlib.Core.Path.{◌≡◌, refl, subst}
use mathlib.Core.Bool.{Bool, true, false, cond}
use Rattle.std.specs.Prelude.{Ok, Err}
use mathlib.Core.List.{List, [], ◌∷◌, map}
use native.Mathlib.Omega.{arith}
use lib.Dec.{ltb}
use Rattle.ground.specs.declared.Refusal.{Refusal}
use Rattle.ground.specs.Answers.{Answer, refused_at}
use Rattle.ground.specs.Entries.{Each}
use Rattle.ground.specs.Limits.{gaps_most, labels_most}
use Rattle.sheet_checks.specs.Refusals.{Row, pass, refuse, first_refusal, in_turn, test, offender_below, offender, table_of}

module _ (P : Refusal → Type 0) where
  -- it holds of what a check refuses, if it refuses
  abbrev pub Told : Answer → Type 0
  Told (Ok _) = Unit {0}
  Told (Err q) = P q

  first_told : (c later : Answer) → Told c → Told later → Told (first_refusal c later)
  first_told (Ok _) later a b = b
  first_told (Err q) later a b = a

  met_told : (number place : ℕ) → P (refused_at number place) → (bad : Bool) → Told (cond bad (refuse number place) pass)
  met_told number place h true = h
  met_told number place h false = tt

  offender_told : (number : ℕ) (bad : ℕ → Bool) (n : ℕ) → ((k : ℕ) → k < n → P (refused_at number k)) → Told (offender_below number n bad)
  unfolding offender_below
  offender_told number bad zero h = tt
  offender_told number bad (suc n) h =
      first_told (offender_below number n bad) (cond (bad n) (refuse number n) pass) (offender_told number bad n (λ k l. h k (omega arith)))
      (met_told number n (h n (omega arith)) (bad n))

  -- it holds of a row's number with each of its places
  abbrev pub TellsRow : Row → Type 0
  TellsRow row = (k : ℕ) → k < row.count → P (refused_at row.number k)

  rows_told : (list : List Row) → Each TellsRow list → Told (in_turn (map offender list))
  rows_told [] h = tt
  rows_told (row ∷ list) h =
      first_told (offender row) (in_turn (map offender list)) (offender_told row.number row.bad row.count h.0) (rows_told list h.1)

  pub table_told : (labels gaps : ℕ) (ragged short : Bool) (list : List Row)
      → P (refused_at 1 0) × P (refused_at 2 0) × P (refused_at 3 0) × P (refused_at 4 0) → Each TellsRow list → Told (table_of labels gaps ragged short list)
  unfolding table_of
  table_told labels gaps ragged short list sizes rows =
      first_told (test 1 (ltb labels_most labels)) (in_turn (test 2 (ltb gaps_most gaps) ∷ test 3 ragged ∷ test 4 short ∷ map offender list))
      (met_told 1 0 sizes.0 (ltb labels_most labels))
      (first_told (test 2 (ltb gaps_most gaps)) (in_turn (test 3 ragged ∷ test 4 short ∷ map offender list)) (met_told 2 0 sizes.1 (ltb gaps_most gaps))
      (first_told (test 3 ragged) (in_turn (test 4 short ∷ map offender list)) (met_told 3 0 sizes.2 ragged)
      (first_told (test 4 short) (in_turn (map offender list)) (met_told 4 0 sizes.3 short) (rows_told list rows))))

-- no check tells a ring
pub table_ringless : (labels gaps : ℕ) (ragged short : Bool) (list : List Row) {q : Refusal} → table_of labels gaps ragged short list ≡ Err q → q.ring ≡ 0
table_ringless labels gaps ragged short list e =
    subst (Told (λ q. q.ring ≡ 0)) e (table_told (λ q. q.ring ≡ 0) labels gaps ragged short list (refl, refl, refl, refl) (each list))
  where
    each : (l : List Row) → Each (TellsRow (λ q. q.ring ≡ 0)) l
    each [] = tt
    each (row ∷ l) = ((λ k h. refl), each l)
