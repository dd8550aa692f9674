-- Where every gap holds under the proposed marks, their balance is the answer;
-- otherwise they are settled, and the settled forest is in balance (`finish`).
use Rattle.core_standing.proofs.Standing.{standing}
use Rattle.core_project.proofs.Finish.{core_says, finish}
use Rattle.core_project.proofs.solve.solve.Goals as goal

pub returns-then-propose : goal.returns-then-propose
returns-then-propose c =
    let n = c.propose.new.s in
    let said = c.propose.ensures in
    finish c.requires (standing n.num n.den n.load n.over said.0.start said.0.balanced) (said.1 c.if-propose.true)

pub settle-requires : goal.settle-requires
settle-requires c =
    let n = c.propose.new.s in
    let proposed = c.propose.ensures.0 in
    (c.requires, standing n.num n.den n.load n.over proposed.start proposed.balanced)

pub returns : goal.returns
returns c = core_says c.settle.result c.settle.new.s c.settle.new.ring c.requires c.settle.ensures.0
