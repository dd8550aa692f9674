-- Placements and the least move (document 01, "Least move"; document 02, Items 1 and 6).
use Rattle.std.specs.Prelude.{◌<◌, ◌≡◌, ◌↔◌, pos, ◌≤ℤ◌}
use Rattle.exact.specs.declared.Fraction.{Fraction}
use Rattle.exact.specs.Fraction.{IsFraction, ◌≃◌, ◌≼◌, ◌⊕◌, ◌⊖◌, ◌⊛◌, whole, square}
use Rattle.exact.specs.Slack.{slack_between}
use Rattle.exact.specs.Total.{total}
use Rattle.ground.specs.declared.Label.{Label}
use Rattle.ground.specs.declared.GapNumber.{GapNumber}
use Rattle.least_move.specs.Sheet.{Sheet, Gap, Kind, at_least, exactly, ignored, label}

-- "Placement: one fraction per label"
abbrev pub Placement : Type 0
Placement = Label → Fraction

-- "right place less left place less distance, as a fraction in lowest terms" (document 02, Item 1). Source document 003's
-- function called violation returns the slack.
abbrev pub slack_of : Placement → Gap → Fraction
slack_of p c = slack_between (p c.left) (p c.right) c.distance

-- whether a gap of this kind holds is told by the sign of its slack, "negative where the gap is broken": that of the
-- numerator, since the denominator is above zero; an exact gap, "the equality", holds where its slack is zero, and so "is
-- always tight" (`exact_tight` in proofs/Slack); an ignored one asks nothing
abbrev pub HoldsWith : Kind → Fraction → Type 0
HoldsWith at_least slack = pos 0 ≤ℤ slack.num
HoldsWith exactly slack = slack.num ≡ pos 0
HoldsWith ignored slack = Unit {0}

-- the gap holds
abbrev pub Holds : Placement → Gap → Type 0
Holds p c = HoldsWith c.kind (slack_of p c)

-- the gap holds with nothing to spare
abbrev pub Tight : Placement → Gap → Type 0
Tight p c = (slack_of p c).num ≡ pos 0

-- Document 01's form: "asks place(u) + g ≤ place(v)"; an exact gap asks that they are equal
abbrev pub Asks : Kind → Fraction → Fraction → Type 0
Asks at_least a b = a ≼ b
Asks exactly a b = a ≃ b
Asks ignored a b = Unit {0}

-- where a gap would have its right label stand at the least
abbrev pub reach : Placement → Gap → Fraction
reach p c = p c.left ⊕ whole c.distance

-- the law: the gap holds exactly if it is so, and is tight exactly if the two are equal. It is shown of every gap between
-- two fractions (`as_asked` in proofs/Slack)
pub record AsAsked (p : Placement) (c : Gap) : Type 0 where
  pub holds : Holds p c ↔ Asks c.kind (reach p c) (p c.right)
  pub tight : Tight p c ↔ (reach p c ≃ p c.right)

-- "It is feasible if it meets every gap"
pub record Feasible (s : Sheet) (p : Placement) : Type 0 where
  pub fractions : (i : Label) → i.0 < s.labels → IsFraction (p i)
  pub meets : (e : GapNumber) → e.0 < s.gaps → Holds p (s.gap e)

-- how far a label moves from its wanted place
abbrev pub move : Sheet → Placement → Label → Fraction
move s p i = p i ⊖ whole (s.wanted i)

-- "sum of w × (place - d)²"
unfoldable pub cost : Sheet → Placement → Fraction
cost s p = total s.labels (λ k. s.weight (label k) ⊛ square (move s p (label k)))

-- "the feasible placement with the least sum", among all placements in fractions; "Least move, the largest-move law and the
-- slack records now speak of both kinds" (document 02, Item 6). "It is unique when a feasible one exists"
-- (`least_move_unique` in layout/proofs/Laws, by `least_unique` in proofs/Laws)
pub record LeastMove (s : Sheet) (p : Placement) : Type 0 where
  pub feasible : Feasible s p
  pub least : (q : Placement) → Feasible s q → cost s p ≼ cost s q
