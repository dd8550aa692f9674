-- Entries that are no gap's and no label's, from one part of an outer step to the next.
use mathlib.Core.Path.{◌≡◌, refl, ◌∙◌, ap}
use Rattle.ground.specs.declared.problem.Problem.{Problem}
use Rattle.ground.specs.Entries.{nat, int}
use Rattle.core_forest.specs.Problem.{Limits, plain}
use Rattle.core_forest.specs.declared.state.State.{State}
use Rattle.core_balance.specs.Hanging.{BeyondKept}
use Rattle.core_settle.specs.Raise.{MarksChanged}
use Rattle.core_settle.specs.Settle.{Outlying}

pub outlying_none : {p : Problem} {s : State} → Outlying p s s
outlying_none = record { marks = λ e h. refl; numbers = record { labels = λ i h. (refl, refl); gaps = λ e h. (refl, refl) } }

pub outlying_then : {p : Problem} {s₀ s₁ s₂ : State} → Outlying p s₀ s₁ → Outlying p s₁ s₂ → Outlying p s₀ s₂
outlying_then a b =
    record {
      marks = λ e h. b.marks e h ∙ a.marks e h;
      numbers =
          record {
            labels = λ i h. ((b.numbers.labels i h).0 ∙ (a.numbers.labels i h).0, (b.numbers.labels i h).1 ∙ (a.numbers.labels i h).1);
            gaps = λ e h. ((b.numbers.gaps e h).0 ∙ (a.numbers.gaps e h).0, (b.numbers.gaps e h).1 ∙ (a.numbers.gaps e h).1);
          };
    }

-- marks that changed
pub outlying_raised : {p : Problem} {s₀ s : State} → Limits p → MarksChanged p s₀ s → Outlying p s₀ s
outlying_raised {p} lim m =
    let u = m.untouched in
    record {
      marks = λ e h. (u.gap e h).0;
      numbers =
          record {
            labels = λ i h. (ap (λ n. int n i) m.nums, u.label p.labels lim.left_in lim.right_in i h);
            gaps = λ e h. ((u.gap e h).1, (u.gap e h).2);
          };
    }

-- blocks that are balanced
pub outlying_balanced : {p : Problem} {s₀ s : State} → s.mark ≡ s₀.mark → BeyondKept (plain p) s₀ s → Outlying p s₀ s
outlying_balanced same b = record { marks = λ e h. ap (λ m. nat m e) same; numbers = record { labels = b.labels; gaps = b.gaps } }
