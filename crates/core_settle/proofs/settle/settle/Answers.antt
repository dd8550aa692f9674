-- What a turn says is carried from the start on.
use Rattle.core_settle.proofs.Outlying.{outlying_then}
use Rattle.core_settle.proofs.settle.settle.Goals as goal

pub returns-in-Some : goal.returns-in-Some
returns-in-Some c =
    let i = c.loop-found.invariant in
    let said = rw i.2 at c.in-Some.ensures in
    (said.0, outlying_then i.1 said.1, said.2)
