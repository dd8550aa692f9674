-- What follows from the promise of a layout call, whichever way the gaps are lent:
-- when a sheet is placed and when it is refused with 9.
use Rattle.std.specs.Prelude.{Ok, Err}
use Prim.Native.Nat.{ℕ, suc, ◌<◌}
use mathlib.Core.Path.{◌≡◌, refl, sym, ◌∙◌, ap, subst}
use mathlib.Core.Logic.{◌↔◌, ◌≢◌, ⊎_elim}
use native.Mathlib.Omega.{arith}
use Rattle.ground.specs.declared.Refusal.{Refusal}
use Rattle.exact.specs.Fraction.{LowestTerms}
use Rattle.exact.proofs.Divisor.{lowest_unique}
use Rattle.ground.specs.declared.Label.{Label}
use Rattle.least_move.specs.Sheet.{Proper}
use Rattle.least_move.specs.Placement.{Placement, Feasible, LeastMove}
use Rattle.least_move.specs.Multipliers.{Multipliers, Conditions}
use Rattle.least_move.proofs.Laws.{least_same}
use Rattle.sheet_checks.specs.Lent.{Read, Written, label_count, sheet_of, place_of}
use Rattle.sheet_checks.specs.Refusals.{pass, rows, table}
use Rattle.layout.specs.Promise.{Promise, Judged, ByTable, Accepted, RingGiven}
use Rattle.ground.specs.Answers.{Answer, number_of, ring_length_of, refusal}
use Rattle.ground.specs.Answers as answer
use Rattle.sheet_checks.proofs.Passed.{passed_proper}
use Rattle.sheet_checks.proofs.Told.{Told, table_told}

-- ---- the promise

-- an answer is not both placed and refused
pub not_both : {a : Answer} {q : Refusal} → a ≡ answer.placed → a ≡ Err q → ⊥
not_both e f = let z : ◌≡◌ {A = ℕ} 0 1 = cc in omega arith

-- no refusal of the table has the number 0
numbered : (r : Read) (w : Written) → Told (λ q. q.number ≢ 0) (table r w)
numbered r w =
    table_told (λ q. q.number ≢ 0) _ _ _ _ (rows r) (above 0, above 1, above 2, above 3)
    ((λ _ _. above 4), ((λ _ _. above 5), ((λ _ _. above 6), ((λ _ _. above 7), ((λ _ _. above 22), tt)))))
  where
    above : (n : ℕ) → suc n ≢ 0
    above n e = omega (arith, e)

module _ {r : Read} {w after : Written} {a : Answer} (promise : Promise r w a after) where
  -- a sheet that the table refuses has the table's number and place, and nothing is written
  pub refused_by_table : {q : Refusal} → table r w ≡ Err q → (a ≡ refusal q.number q.place 0) × (after ≡ w)
  refused_by_table e = subst (λ v. ByTable v (sheet_of r) w a after) e promise.kept

  -- any other sheet is placed, or no placement meets all its gaps
  pub judged : {P : Type 0} → table r w ≡ pass → (a ≡ answer.placed → Accepted (sheet_of r) w after → P)
      → (a ≡ refusal 9 0 (ring_length_of a) → ((p : Placement) → ¬ (Feasible (sheet_of r) p)) → RingGiven (sheet_of r) w after (ring_length_of a) → P) → P
  judged {P} e yes-placed not-placed = ⊎_elim (λ k. yes-placed k.0 k.1) (λ k. not-placed k.0 k.1 k.2) judgement
    where
      judgement : Judged (sheet_of r) w a after
      judgement = subst (λ v. ByTable v (sheet_of r) w a after) e promise.kept

  -- placed: the table passed
  pub placed_passes : a ≡ answer.placed → table r w ≡ pass
  placed_passes placed = go (table r w) promise.kept
    where
      go : (v : Answer) → ByTable v (sheet_of r) w a after → v ≡ pass
      go (Err q) k = absurd (not_both placed k.0)
      go (Ok _) k = refl

  pub placed_proper : a ≡ answer.placed → Proper (sheet_of r)
  placed_proper placed = passed_proper r w (placed_passes placed)

  pub placed_accepted : a ≡ answer.placed → Accepted (sheet_of r) w after
  placed_accepted placed = judged (placed_passes placed) (λ _ accepted. accepted) (λ refused _ _. absurd (not_both placed refused))

  pub placed_least : a ≡ answer.placed → LeastMove (sheet_of r) (place_of after)
  placed_least placed = (placed_accepted placed).least

  -- the number 0 is told of placed sheets alone
  pub zero_placed : number_of a ≡ 0 → a ≡ answer.placed
  zero_placed none = go (table r w) (numbered r w) promise.kept
    where
      not_zero : ◌≡◌ {A = ℕ} 9 0 → ⊥
      not_zero z = omega arith

      go : (v : Answer) → Told (λ q. q.number ≢ 0) v → ByTable v (sheet_of r) w a after → a ≡ answer.placed
      go (Err q) told k = absurd (told (sym (ap number_of k.0) ∙ none))
      go (Ok _) told k = ⊎_elim (λ j. j.0) (λ j. absurd (not_zero (sym (ap number_of j.0) ∙ none))) k

  -- placed exactly if a placement exists
  pub placed_exactly : table r w ≡ pass → (a ≡ answer.placed) ↔ ((p : Placement) × Feasible (sheet_of r) p)
  placed_exactly e = (
    (λ placed. (place_of after, (placed_least placed).feasible)),
    λ one. judged e (λ placed _. placed) (λ _ none _. absurd (none one.0 one.1)),
  )

  pub accepted_exactly : (a ≡ answer.placed) ↔ ((table r w ≡ pass) × ((p : Placement) × Feasible (sheet_of r) p))
  accepted_exactly = ((λ placed. (placed_passes placed, (placed_exactly (placed_passes placed)).0 placed)), λ both. (placed_exactly both.0).1 both.1)

  -- answered 9 exactly if none does
  pub nine_exactly : table r w ≡ pass → (number_of a ≡ 9) ↔ ((p : Placement) → ¬ (Feasible (sheet_of r) p))
  nine_exactly e = (
    (λ nine. judged e (λ placed _. absurd (not_nine (sym (ap number_of placed) ∙ nine))) (λ _ none _. none)),
    λ none. judged e (λ _ accepted. absurd (none (place_of after) accepted.least.feasible)) (λ refused _ _. ap number_of refused),
  )
    where
      not_nine : ◌≡◌ {A = ℕ} 0 9 → ⊥
      not_nine z = omega arith

  -- with 9 a ring is handed back
  pub nine_ring : table r w ≡ pass → number_of a ≡ 9 → (a ≡ refusal 9 0 (ring_length_of a)) × RingGiven (sheet_of r) w after (ring_length_of a)
  nine_ring e nine = judged e (λ _ accepted. absurd ((nine_exactly e).0 nine (place_of after) accepted.least.feasible)) (λ refused _ ring. (refused, ring))

  -- a placement in lowest terms that has multipliers is the one that is written
  pub places_known : table r w ≡ pass → (p : Placement) (m : Multipliers) → Conditions (sheet_of r) p m
      → ((i : Label) → i.0 < label_count r → LowestTerms (p i)) → (a ≡ answer.placed) × ((i : Label) → i.0 < label_count r → place_of after i ≡ p i)
  unfolding sheet_of
  places_known e p m c lowest =
      let placed : a ≡ answer.placed = (placed_exactly e).1 (p, c.feasible) in
      let written : Accepted (sheet_of r) w after = placed_accepted placed in
      (placed, λ i h. sym (least_same lowest_unique (sheet_of r) p (place_of after) m (passed_proper r w e) c written.least i h (lowest i h) (written.places_lowest i h)))
