-- A problem whose lists pass the checks keeps the core's limits.
use Rattle.std.specs.Prelude.{Ok}
use Prim.Native.Nat.{ℕ, ◌≤◌}
use native.Mathlib.Omega.{arith}
use mathlib.Core.Path.{◌≡◌, sym, ◌∙◌, ap, subst}
use mathlib.Core.List.{List}
use lib.ListN.{length, take, replicate, length-replicate}
use lib.Seq.{length-take-le, get_or-take}
use lib.IntN.{ℤ, pos}
use Rattle.ground.specs.declared.lists.Lists.{Lists}
use Rattle.ground.specs.declared.problem.Problem.{Problem}
use Rattle.core_forest.specs.Problem.{Limits}
use Rattle.core_project.specs.Project.{Copied, Held, problem_in}
use Rattle.core_project.proofs.Agreeing.{limits_work}
use Rattle.sheet_checks.specs.declared.check.Room.{Room}
use Rattle.sheet_checks.specs.Lent.{Written, sheet_now}
use Rattle.sheet_checks.specs.Refusals.{pass, room_of, table_for}
use Rattle.layout.proofs.Judging.{passed_ready}

-- an array holds its front
front : {A : Type 0} (n : ℕ) (array part : List A) (none : A) → part ≡ take n array → n ≤ length array → Copied (length part) part array none
front n array part none e h =
    subst (λ (q : List _). Copied (length q) q array none) (sym e)
    (λ k below. sym (get_or-take n array k none (omega (arith, length-take-le n array h))))

-- buffers that are just long enough, and their sizes
abbrev buffers : (labels gaps : ℕ) → Written
buffers labels gaps =
    record {
      place_num = replicate labels (pos 0);
      place_den = replicate labels (pos 0);
      mult_num = replicate gaps (pos 0);
      mult_den = replicate gaps (pos 0);
      ring = replicate labels 0;
      back = replicate labels 0;
      carried = replicate gaps 0;
    }

abbrev pub room_for : (labels gaps : ℕ) → Room
room_for labels gaps =
    record { places = labels; place_dens = labels; multipliers = gaps; multiplier_dens = gaps; ring = labels; back = labels; carried = gaps }

sized : (labels gaps : ℕ) → room_of (buffers labels gaps) ≡ room_for labels gaps
sized labels gaps = λ j. record {
  places = length-replicate {A = ℤ} labels (pos 0) j;
  place_dens = length-replicate {A = ℤ} labels (pos 0) j;
  multipliers = length-replicate {A = ℤ} gaps (pos 0) j;
  multiplier_dens = length-replicate {A = ℤ} gaps (pos 0) j;
  ring = length-replicate {A = ℕ} labels 0 j;
  back = length-replicate {A = ℕ} labels 0 j;
  carried = length-replicate {A = ℕ} gaps 0 j;
}

-- lists that are the fronts of a problem's arrays
pub record Fronts (p : Problem) (l : Lists) : Type 0 where
  pub wanted : l.wanted.now ≡ take p.labels p.wanted
  pub weight : l.weight.now ≡ take p.labels p.weight
  pub left : l.left.now ≡ take p.gaps p.left
  pub right : l.right.now ≡ take p.gaps p.right
  pub distance : l.distance.now ≡ take p.gaps p.distance
  pub kind : l.kind.now ≡ take p.gaps p.kind

-- arrays that are as long
pub record Roomy (p : Problem) : Type 0 where
  pub wanted : p.labels ≤ length p.wanted
  pub weight : p.labels ≤ length p.weight
  pub left : p.gaps ≤ length p.left
  pub right : p.gaps ≤ length p.right
  pub distance : p.gaps ≤ length p.distance
  pub kind : p.gaps ≤ length p.kind

module _ (p : Problem) (l : Lists) (f : Fronts p l) (r : Roomy p) where
  labels_told : length l.wanted.now ≡ p.labels
  labels_told = ap length f.wanted ∙ length-take-le p.labels p.wanted r.wanted

  gaps_told : length l.left.now ≡ p.gaps
  gaps_told = ap length f.left ∙ length-take-le p.gaps p.left r.left

  -- the fronts of one length hold up to another that is the same
  up_to : {A : Type 0} (n m : ℕ) (array part : List A) (none : A) → length part ≡ n → m ≡ n → Copied (length part) part array none → Copied m part array none
  up_to n m array part none e q held k below = held k (omega (arith, e, q, below))

  held : Held (problem_in l) p
  held = record {
    labels = sym labels_told;
    gaps = sym gaps_told;
    lefts = front p.gaps p.left l.left.now 0 f.left r.left;
    rights = up_to p.gaps _ p.right l.right.now 0 (ap length f.right ∙ length-take-le p.gaps p.right r.right) gaps_told (front p.gaps p.right l.right.now 0 f.right r.right);
    distances =
        up_to p.gaps _ p.distance l.distance.now (pos 0) (ap length f.distance ∙ length-take-le p.gaps p.distance r.distance) gaps_told
        (front p.gaps p.distance l.distance.now (pos 0) f.distance r.distance);
    kinds = up_to p.gaps _ p.kind l.kind.now 0 (ap length f.kind ∙ length-take-le p.gaps p.kind r.kind) gaps_told (front p.gaps p.kind l.kind.now 0 f.kind r.kind);
    wants = front p.labels p.wanted l.wanted.now (pos 0) f.wanted r.wanted;
    weights =
        up_to p.labels _ p.weight l.weight.now (pos 0) (ap length f.weight ∙ length-take-le p.labels p.weight r.weight) labels_told
        (front p.labels p.weight l.weight.now (pos 0) f.weight r.weight);
  }

  pub limits_checked : table_for (sheet_now l) (room_for p.labels p.gaps) ≡ pass → Limits p
  limits_checked checked =
      let ready = passed_ready l (buffers p.labels p.gaps) (ap (table_for (sheet_now l)) (sized p.labels p.gaps) ∙ checked) in
      limits_work ready.listed.limits held
