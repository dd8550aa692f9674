-- What a turn of the outer loop comes to, from what its parts say.
use mathlib.Core.Path.{◌≡◌, refl, sym, ◌∙◌, ap}
use mathlib.Core.Bool.{Bool, true, false}
use mathlib.Core.List.{List, [], ◌∷◌}
use Prim.Native.Nat.{ℕ, zero, suc, ◌≤◌, ◌<◌}
use native.Mathlib.Omega.{arith}
use lib.ListN.{length, length-map, take}
use lib.IntN.{ℤ, pos, neg_ℤ, nat_abs, ◌-ℤ◌}
use lib.Signed.{◌<ℤ◌}
use Rattle.algebra.proofs.Whole.{parts_nat_abs, pp_neg, nn_neg}
use Rattle.algebra.proofs.Ring.{ring, quotes}
use Rattle.ground.specs.declared.GapNumber.{GapNumber}
use Rattle.ground.specs.declared.problem.Problem.{Problem}
use Rattle.least_move.specs.States.{Settled, Reached, measure}
use Rattle.least_move.proofs.Sides.{push_start}
use Rattle.least_move.proofs.Ending.{measure_falls}
use Rattle.ground.specs.Entries.{nat, int}
use Rattle.core_forest.specs.Problem.{Limits, marks_of, numbers_of, plain, IsForest}
use Rattle.core_forest.specs.declared.search.Work.{Work}
use Rattle.core_forest.specs.declared.state.State.{State}
use Rattle.core_advance.specs.declared.Push.{Push}
use Rattle.core_advance.specs.Advance.{PushedBy}
use Rattle.core_balance.specs.Places.{PlacesFound}
use Rattle.core_balance.proofs.Placing.{places_kind}
use Rattle.core_balance.specs.Balance.{BalancedState, PartBalancedState}
use Rattle.core_balance.proofs.Remarking.{part_remarked}
use Rattle.core_worst_gap.specs.declared.Lacking.{Lacking}
use Rattle.core_worst_gap.specs.WorstGap.{Lacks, lacking}
use Rattle.core_worst_gap.proofs.WorstGap.{slack_below, slack_above}
use Rattle.core_ring.specs.declared.Ring.{Ring}
use Rattle.core_ring.specs.declared.RingSize.{RingSize}
use Rattle.core_ring.specs.Way.{Climbable, WayWritten}
use Rattle.core_ring.proofs.Climb.{way_bytes}
use Rattle.core_ring.proofs.RingFound.{PushesAs, pushes_of, climbable, ring_written}
use Rattle.core_settle.specs.Raise.{MarksChanged, PushesBy, Raised, RaisedTo}
use Rattle.core_settle.specs.Settle.{push_of, RingStands}
use Rattle.core_standing.specs.Standing.{StandingState}
use Rattle.core_standing.proofs.Standing.{small, den_above, dens_in, places_in, settled}

-- ---- the push of a gap that does not hold

turned_size : (z : ℤ) → nat_abs (pos 0 -ℤ z) ≡ nat_abs z
turned_size z =
    let same : pos 0 -ℤ z ≡ neg_ℤ z = ring (z ∷ []) (search quotes depth 12) (search quotes depth 12) refl in
    rw same (omega (arith, parts_nat_abs z, parts_nat_abs (neg_ℤ z), pp_neg z, nn_neg z))

pub record Pushing (p : Problem) (s : State) (k : Lacking) (push : Push) : Type 0 where
  pub gap_in : k.gap.0 < p.gaps
  pub from_in : push.from.0 < p.labels
  pub to_in : push.to.0 < p.labels
  pub reach_most : nat_abs push.reach ≤ 20000
  pub pushes : PushesAs k.backwards (numbers_of p) k.gap.0 push.from.0 push.to.0 push.reach
  pub pushed : PushedBy p (marks_of s.mark) push (int s.num) (int s.den)

module _ {p : Problem} {s : State} (lim : Limits p) (st : StandingState p s) where
  above : (i : ℕ) → i < p.labels → pos 0 <ℤ int s.den i
  above = den_above lim s.mark s.num s.den st.found

  lacks_pushes : (e : GapNumber) (backwards : Bool) → e.0 < p.gaps → Lacks p s.num s.den e.0 backwards → Pushing p s (lacking e backwards) (push_of p (lacking e backwards))
  lacks_pushes e false l k =
      let u = nat p.left e.0 in
      let v = nat p.right e.0 in
      let u_in = lim.left_in e.0 l in
      let v_in = lim.right_in e.0 l in
      record {
        gap_in = l;
        from_in = u_in;
        to_in = v_in;
        reach_most = lim.distance_bound e.0 l;
        pushes = (refl, refl, refl, k.0);
        pushed = push_start (numbers_of p) (marks_of s.mark) u v (int p.distance e.0) (int s.num) (int s.den) u_in v_in (above u u_in) (above v v_in) st.settled
            (slack_below p s.num s.den e.0 (above u u_in) (above v v_in) k.1);
      }
  lacks_pushes e true l k =
      let u = nat p.left e.0 in
      let v = nat p.right e.0 in
      let u_in = lim.left_in e.0 l in
      let v_in = lim.right_in e.0 l in
      record {
        gap_in = l;
        from_in = v_in;
        to_in = u_in;
        reach_most = rw (turned_size (int p.distance e.0)) (lim.distance_bound e.0 l);
        pushes = (refl, refl, refl, k.0);
        pushed = push_start (numbers_of p) (marks_of s.mark) v u (pos 0 -ℤ int p.distance e.0) (int s.num) (int s.den) v_in u_in (above v v_in) (above u u_in) st.settled
            (slack_above p s.num s.den e.0 (above u u_in) (above v v_in) k.1);
      }

  pub pushing : {k : Lacking} {push : Push} → (k.gap.0 < p.gaps) × Lacks p s.num s.den k.gap.0 k.backwards → push ≡ push_of p k → Pushing p s k push
  pushing {k} lacks is = rw is (lacks_pushes k.gap k.backwards lacks.0 lacks.1)

-- ---- the end of the turn

-- a list is as long as its front
front_room : (n : ℕ) (l : List ℕ) → length (take n l) ≡ n → n ≤ length l
front_room zero l e = omega arith
front_room (suc n) [] e = absurd (omega (arith, e))
front_room (suc n) (x ∷ l) e = omega (arith, front_room n l (omega (arith, e)))

module _ {p : Problem} {s₀ : State} {k : Lacking} {push : Push} (lim : Limits p) (st : StandingState p s₀) (q : Pushing p s₀ k push) where
  by : PushesBy p k.gap.0 push
  by = pushes_of k.backwards (numbers_of p) k.gap.0 push.from.0 push.to.0 push.reach q.pushes

  module _ (s : State) {w : Work} {r : Bool} (raised : Raised p s₀.mark k.gap.0 push r s.mark w) where
    -- what the raise of the gap comes to
    raised_to : (t : Bool) → r ≡ t → IsForest p s.mark × RaisedTo t p push (int s₀.num) (int s₀.den) s.mark w
    raised_to t is = let o = rw is at raised in (o.forest st.forest by (int s₀.num) (int s₀.den) q.pushed, o.raised st.forest by (int s₀.num) (int s₀.den) q.pushed)

    -- the gap is marked: its block waits for its places
    pub turn_waits : r ≡ true → MarksChanged p s₀ s → IsForest p s.mark × PartBalancedState (plain p) s
    turn_waits is m = ((raised_to true is).0, rw m.nums (part_remarked m.remarked st.balanced.part))

    -- and finds them
    pub turn_again : r ≡ true → (s' : State) → s'.mark ≡ s.mark → BalancedState (plain p) s' → StandingState p s' × (measure (numbers_of p) (int s'.num) (int s'.den) < measure (numbers_of p) (int s₀.num) (int s₀.den))
    turn_again is s' same b =
        let mark = s.mark in
        let here : BalancedState (plain p) (record { mark = mark; num = s'.num; den = s'.den; load = s'.load; over = s'.over }) = rw (sym same) b in
        let found : PlacesFound p mark s'.num s'.den = places_kind p [] mark s'.num s'.den here.found in
        let to : Reached (numbers_of p) (marks_of mark) (int s₀.num) (int s₀.den) = (raised_to true is).1 in
        let at : Settled (numbers_of p) (marks_of mark) (int s'.num) (int s'.den) = settled mark s'.num s'.den found to.N to.X to.Λ to.above to.state to.lawful in (
          rw same (record { forest = (raised_to true is).0; bytes = raised.bytes st.bytes; settled = at; found = found; balanced = here }),
          measure_falls (numbers_of p) (marks_of mark) (int s₀.num) (int s₀.den) (int s'.num) (int s'.den) (small lim) (dens_in lim s₀.mark s₀.num s₀.den st.found) (places_in lim mark s'.num s'.den found) to at.places,
        )

    -- nothing gives way
    pub turn_climbs : r ≡ false → Climbable w.via w.up push.from.0 push.to.0
    turn_climbs is = climbable (raised_to false is).1.1 lim q.to_in

    pub turn_ring : r ≡ false → {size : RingSize} {ring : Ring} → WayWritten k push.from.0 push.to.0 p.left w.via w.up size ring → RingStands p size.0 ring
    turn_ring is {size} {ring} way =
        let to = (raised_to false is).1 in
        record {
          some = omega (arith, way.count);
          most = way.most;
          gaps_room = front_room size.0 ring.gaps (ap length way.gaps ∙ ap suc (length-map _ _) ∙ sym way.count);
          back_room = front_room size.0 ring.back (ap length way.backs ∙ ap suc (length-map _ _) ∙ sym way.count);
          ring = ring_written to.1 to.0 lim q.to_in q.gap_in q.pushes way;
          bytes = way_bytes way;
        }
