-- The end of the core's work: the settled state and the balance are of one forest, so that the loads of the balance are the settled multipliers,
-- and the arrays are a placement with multipliers that satisfy the conditions.
use mathlib.Core.Path.{◌≡◌, refl, sym, ◌∙◌, ap, ap₂}
use mathlib.Core.Bool.{Bool}
use mathlib.Core.List.{[], ◌∷◌}
use Prim.Native.Nat.{ℕ, ◌<◌}
use lib.IntN.{ℤ, pos, neg_ℤ, ◌+ℤ◌, ◌-ℤ◌, ◌*ℤ◌}
use lib.Signed.{◌≤ℤ◌, ◌<ℤ◌}
use lib.Dec.{eqb}
use Rattle.exact.specs.declared.Fraction.{Fraction}
use Rattle.exact.specs.Fraction.{IsFraction}
use Rattle.algebra.proofs.Ring.{ring, quotes}
use Rattle.algebra.specs.Sum.{ind}
use Rattle.exact.proofs.Fractions.{AtScale}
use Rattle.ground.specs.declared.Label.{Label}
use Rattle.ground.specs.declared.GapNumber.{GapNumber}
use Rattle.least_move.specs.Sheet.{Kind, at_least, exactly, kind_of}
use Rattle.least_move.specs.Placement.{Placement, HoldsWith}
use Rattle.least_move.specs.Multipliers.{Multipliers, Conditions}
use Rattle.least_move.specs.Marks.{Marks}
use Rattle.least_move.proofs.Bridge.{Meets-all}
use Rattle.least_move.specs.States.{flow, Independent, Numbers, StateAt}
use Rattle.least_move.proofs.Flow.{flow_lin}
use Rattle.least_move.proofs.Sides.{places_agree}
use Rattle.least_move.proofs.Unscaled.{sound_proper, conditions_of, marks_of_lem, meets_of_numbers, reduced_scale}
use Rattle.ground.specs.Entries.{nat, int}
use Rattle.ground.specs.declared.problem.Problem.{Problem}
use Rattle.core_forest.specs.Problem.{Limits, marks_of, numbers_of, plain, sheet_from}
use Rattle.core_forest.specs.declared.state.State.{State}
use Rattle.core_worst_gap.specs.WorstGap.{slack_at}
use Rattle.core_worst_gap.proofs.WorstGap.{slack_least, slack_none}
use Rattle.std.specs.Prelude.{Ok, Err}
use Rattle.core_ring.specs.declared.Ring.{Ring}
use Rattle.core_standing.specs.Standing.{StandingState, AllHold}
use Rattle.core_settle.specs.Settle.{Found, SettleSays}
use Rattle.core_balance.specs.Balance.{BalancedState}
use Rattle.core_balance.proofs.Balance.{above_of, other_scale, limits_sound}
use Rattle.core_project.specs.Core.{Written, CorePlaced, CoreSays}

-- ---- plain numbers

-- the loads that balance a label at two scales, where the places agree
balance_apart : (N M w d x y f g o : ℤ) → pos 2 *ℤ (w *ℤ (x -ℤ N *ℤ d)) ≡ f +ℤ pos 0 *ℤ o → pos 2 *ℤ (w *ℤ (y -ℤ M *ℤ d)) ≡ g +ℤ pos 0 *ℤ o → M *ℤ x ≡ N *ℤ y → M *ℤ f +ℤ neg_ℤ N *ℤ g ≡ pos 0
balance_apart N M w d x y f g o p q same =
    ring (N ∷ M ∷ f ∷ g ∷ o ∷ []) (search quotes depth 12) (search quotes depth 12) refl
    ∙ ap₂ (λ s t. M *ℤ s +ℤ neg_ℤ N *ℤ t) (sym p) (sym q)
    ∙ ring (N ∷ M ∷ w ∷ d ∷ x ∷ y ∷ []) (search quotes depth 12) (search quotes depth 12) refl
    ∙ ap (λ t. pos 2 *ℤ (w *ℤ (t -ℤ N *ℤ y))) same
    ∙ ring (N ∷ w ∷ y ∷ []) (search quotes depth 12) (search quotes depth 12) refl

apart_same : (N M a b : ℤ) → M *ℤ a +ℤ neg_ℤ N *ℤ b ≡ pos 0 → M *ℤ a ≡ N *ℤ b
apart_same N M a b e =
    ring (N ∷ M ∷ a ∷ b ∷ []) (search quotes depth 12) (search quotes depth 12) refl ∙ ap (λ t. t +ℤ N *ℤ b) e
    ∙ ring (N ∷ b ∷ []) (search quotes depth 12) (search quotes depth 12) refl

-- two states of one forest whose places agree carry the same
pub loads_agree : (z : Numbers) (F : ℕ → Bool) (N M : ℤ) (X Y Λ Γ : ℕ → ℤ) → Independent z.n z.m z.u z.v F → StateAt z F 0 0 N (pos 0) X Λ → StateAt z F 0 0 M (pos 0) Y Γ → ((i : ℕ) → i < z.n → M *ℤ X i ≡ N *ℤ Y i) → (e : ℕ) → e < z.m → M *ℤ Λ e ≡ N *ℤ Γ e
loads_agree z F N M X Y Λ Γ indep one two same e l =
    apart_same N M (Λ e) (Γ e)
    (indep.nothing (λ k. M *ℤ Λ k +ℤ neg_ℤ N *ℤ Γ k)
    (λ k h f. ap₂ (λ x y. M *ℤ x +ℤ neg_ℤ N *ℤ y) (one.off k h f) (two.off k h f) ∙ ring (M ∷ N ∷ []) (search quotes depth 12) (search quotes depth 12) refl)
    (λ i h. flow_lin z.m z.u z.v M (neg_ℤ N) Λ Γ i
    ∙ balance_apart N M (z.w i) (z.d i) (X i) (Y i) (flow z.m z.u z.v Λ i) (flow z.m z.u z.v Γ i) (ind (eqb 0 i) -ℤ ind (eqb 0 i)) (one.balance i h) (two.balance i h) (same i h)) e l)

-- ---- the problem

-- the sign of the slack, by the gap's kind
holds_least : (k : Kind) (slack : Fraction) → HoldsWith k slack → k ≡ at_least → pos 0 ≤ℤ slack.num
holds_least k slack h q = rw q at h

holds_exactly : (k : Kind) (slack : Fraction) → HoldsWith k slack → k ≡ exactly → slack.num ≡ pos 0
holds_exactly k slack h q = rw q at h

module _ {p : Problem} {t : State} (lim : Limits p) (s : StandingState p t) where
  -- the balance's loads are the settled multipliers
  settled_loads : (e : ℕ) → e < p.gaps → s.settled.Λ e *ℤ int t.over e ≡ s.settled.N *ℤ int t.load e
  settled_loads e l =
      let b : BalancedState (plain p) t = s.balanced in
      other_scale s.settled.N b.N (s.settled.Λ e) (b.Λ e) (int t.load e) (int t.over e) b.above
      (loads_agree (numbers_of p) (marks_of t.mark) s.settled.N b.N s.settled.X b.X s.settled.Λ b.Λ s.forest s.settled.state b.state
      (places_agree (numbers_of p) (marks_of t.mark) s.settled.N b.N s.settled.X b.X s.settled.Λ b.Λ (limits_sound lim) s.settled.state b.state) e l)
      (b.loads e l)

  module _ (all : AllHold p t.num t.den) where
    -- every gap is met at the scale of a settled state
    meets_settled : Meets-all (sheet_from p) s.settled.N s.settled.X
    meets_settled e l =
        let placed_above : (i : ℕ) → i < p.labels → pos 0 <ℤ int t.den i = λ i h. above_of (s.found i h).den_least in
        let left_above = placed_above (nat p.left e) (lim.left_in e l) in
        let right_above = placed_above (nat p.right e) (lim.right_in e l) in
        let k = kind_of (nat p.kind e) in
        let slack = slack_at p t.num t.den e in
        meets_of_numbers (numbers_of p) s.settled.N s.settled.X (int t.num) (int t.den) (limits_sound lim) s.settled.above placed_above s.settled.places e l
        (λ q. slack_least p t.num t.den e left_above right_above (holds_least k slack (all e l) q))
        (λ q. slack_none p t.num t.den e left_above right_above (holds_exactly k slack (all e l) q))

    module _ (place : Placement) (multiplier : Multipliers) (wr : Written p t place multiplier) where
      placed : (i : Label) → i.0 < p.labels → IsFraction (place i) × AtScale s.settled.N (s.settled.X i.0) (place i)
      placed i h = reduced_scale s.settled.N (s.settled.X i.0) (int t.num i.0) (int t.den i.0) (place i) (above_of (s.found i.0 h).den_least) (s.settled.places i.0 h) (wr.places i.0 h)

      loaded : (e : GapNumber) → e.0 < p.gaps → IsFraction (multiplier e) × AtScale s.settled.N (s.settled.Λ e.0) (multiplier e)
      loaded e h = reduced_scale s.settled.N (s.settled.Λ e.0) (int t.load e.0) (int t.over e.0) (multiplier e) (above_of (s.balanced.part.over_least e.0 h)) (settled_loads e.0 h) (wr.multipliers e.0 h)

      written_conditions : Conditions (sheet_from p) place multiplier
      written_conditions = conditions_of (sheet_from p) (sound_proper (sheet_from p) (limits_sound lim)) (marks_of t.mark) s.forest s.settled.N s.settled.X s.settled.Λ s.settled.above s.settled.state s.settled.lawful meets_settled place multiplier placed loaded

      written_marks : Marks (sheet_from p) place multiplier (λ e. marks_of t.mark e.0)
      written_marks = marks_of_lem (sheet_from p) (sound_proper (sheet_from p) (limits_sound lim)) (marks_of t.mark) s.forest s.settled.N s.settled.X s.settled.Λ s.settled.above s.settled.state s.settled.lawful meets_settled place multiplier placed loaded (λ e. marks_of t.mark e.0) (λ _ _. refl)

    pub finish : CorePlaced p t
    finish = record {
      bytes = s.bytes;
      den_least = λ i h. (s.found i h).den_least;
      over_least = s.balanced.part.over_least;
      den_most = λ i h. (s.found i h).den_most;
      num_most = λ i h. (s.found i h).num_most;
      conditions = written_conditions;
      marks = written_marks;
      asked = λ e. s.settled.lawful.asked e.0;
      over_most = s.balanced.part.over_most;
    }

-- what settling says, at both outcomes
pub core_says : {p : Problem} (r : Found) (t : State) (ring : Ring) → Limits p → SettleSays p r t ring → CoreSays p r t ring
core_says (Ok _) t ring lim said = finish lim said.0 said.1
core_says (Err size) t ring lim said = said.0
