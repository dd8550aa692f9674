-- The answer to what the core comes to.
use Rattle.std.specs.Prelude.{Result, Ok, Err}
use Rattle.core_ring.specs.declared.RingSize.{RingSize}
use Rattle.ground.specs.Answers.{Answer, placed, refusal}

-- a ring is refusal 9, whose place is 0
abbrev pub answer_of : Result (Unit {0}) RingSize → Answer
answer_of (Ok _) = placed
answer_of (Err size) = refusal 9 0 size.0
