-- What gives way first.
use Rattle.std.specs.Prelude.{Option, Some, None, ℤ, pos, ◌+ℤ◌, ◌-ℤ◌, ◌*ℤ◌}
use Rattle.std.specs.declared.cmp.Ordering.{Ordering}
use Rattle.std.specs.declared.cmp.Ordering.TheVariants.{Less, Equal, Greater}
use Rattle.exact.specs.Divide.{order_of}
use Rattle.ground.specs.declared.GapNumber.{GapNumber}
use Rattle.core_elimination.specs.declared.Sums.{Sums}
use Rattle.core_breaking.specs.declared.BreakingPoint.{BreakingPoint}
use Rattle.core_breaking.specs.declared.Outcome.{Outcome}
use Rattle.core_breaking.specs.declared.Outcome.TheVariants.{Dropped, Reached, Ring}
use Rattle.core_breaking.specs.declared.Side.{Side}
use Rattle.core_breaking.specs.Breaking.{over, nearer_of}

-- the numerator of the push at which the gap is tight: 2 × (P₁ × W₂ + h × W₁ × W₂ - P₂ × W₁), over W₁ + W₂
abbrev pub meeting_of : ℤ → Sums → Sums → ℤ
meeting_of h one two =
    pos 2 *ℤ (one.wanted *ℤ two.weight +ℤ h *ℤ (one.weight *ℤ two.weight) -ℤ two.wanted *ℤ one.weight)

-- the gap of a breaking point gives way if that point comes before the push at which the pushing gap is tight
abbrev pub before_tight : Ordering → GapNumber → Outcome
before_tight Less e = Dropped e
before_tight Equal e = Reached
before_tight Greater e = Reached

-- the same of a breaking point, if there is one
abbrev pub against_tight : ℤ → Sums → Sums → Option BreakingPoint → Outcome
against_tight h one two None = Reached
against_tight h one two (Some a) =
    before_tight (order_of a.push (over (meeting_of h one two) (one.weight +ℤ two.weight))) a.gap

-- between two blocks
abbrev pub decided : ℤ → Side → Side → Outcome
decided h one two = against_tight h one.sums two.sums (nearer_of one.first two.first)

-- within one block
abbrev pub within_block : Option BreakingPoint → Outcome
within_block None = Ring
within_block (Some a) = Dropped a.gap
