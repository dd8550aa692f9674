-- What is found of the two ends, and the laws of an advance over them.
use Rattle.std.proofs.Common.{arith, inl, inr, refl}
use Rattle.core_elimination.proofs.Ranges.{read_back}
use Rattle.core_advance.proofs.EndBlock.{sums_range, first_in_range}
use Rattle.core_advance.proofs.AdvanceLaws.{within_gives, decide_gives, searched_from, stands_apart}
use Rattle.core_advance.proofs.advance.advance.Goals as goal

pub returns-then-one : goal.returns-then-one
returns-then-one c =
    let one = c.side-one.ensures.found in
    let lim = c.requires.0 in
    (rw c.within.ensures (within_gives c.args.push lim c.requires.1 c.requires.2 one c.if-one.true), inl (searched_from lim one c.side-one.ensures.rest))

pub decide-requires : goal.decide-requires
decide-requires c =
    let one = c.side-one.ensures.found in
    let two = c.side-two.ensures.found in
    let lim = c.requires.0 in (
      rw (read_back c.args.push.reach c.requires.3 (omega arith)) c.requires.3,
      sums_range lim one,
      sums_range lim two,
      first_in_range lim one (inl refl),
      first_in_range lim two (inr refl),
    )

pub returns : goal.returns
returns c =
    let one = c.side-one.ensures.found in
    let two = c.side-two.ensures.found in
    let lim = c.requires.0 in (
      rw (c.decide.ensures, read_back c.args.push.reach c.requires.3 (omega arith)) (decide_gives c.args.push lim c.requires.1 c.requires.2 one two c.if-one.false _),
      inr (record {
        w₁ = _;
        one = searched_from lim one c.side-one.ensures.rest;
        apart = stands_apart lim one c.if-one.false;
        two = searched_from lim two c.side-two.ensures.rest;
      }),
    )
