-- Each test is one of those of `candidate_of`; signed numbers are read back from their bits.
use Rattle.std.proofs.Common.{rules, w64, FitsSigned, ◌∙◌, sym}
use Rattle.ground.specs.Entries.{nat, int}
use Rattle.core_breaking.proofs.BreakingPoints.{other_kind, no_share_read, other_end_read, point_read}
use Rattle.core_breaking.proofs.breaking.candidate.Goals as goal
use Rattle.core_breaking.proofs.breaking.candidate.Goals.{
  then-p-gap-ne-AT_LEAST-via-then-p-gap-ne-AT_LEAST as kind,
  then-p-gap-ne-AT_LEAST-via-else-p-gap-ne-AT_LEAST+then-share-x-lt1 as share,
  then-p-gap-ne-AT_LEAST-via-else-p-gap-ne-AT_LEAST+else-share-x-lt1+then-ne as end,
}

pub returns-then-p-gap-ne-AT_LEAST : goal.returns-then-p-gap-ne-AT_LEAST
returns-then-p-gap-ne-AT_LEAST c =
    let s = c.args in
    elim c.then-p-gap-ne-AT_LEAST.branch [
      | kind w ↦ other_kind s.p.now s.sign s.w.now s.held.now s.share.now s.k w.if-p-gap-ne-AT_LEAST.true
      | share w ↦
          let fits : FitsSigned w64 (int s.share.now (nat s.w.now.queue s.k)) = search rules in
          no_share_read s.p.now s.sign s.w.now s.held.now s.share.now s.k fits w.if-share-x-lt1.true
      | end w ↦
          let fits : FitsSigned w64 (int s.share.now (nat s.w.now.queue s.k)) = search rules in
          other_end_read s.p.now s.sign s.w.now s.held.now s.share.now s.k fits c.ranges.sign w.losing_end.ensures (sym w.ne.ensures ∙ w.if-ne.true)
    ]

pub returns : goal.returns
returns c =
    let s = c.args in
    let share_fits : FitsSigned w64 (int s.share.now (nat s.w.now.queue s.k)) = search rules in
    let held_fits : FitsSigned w64 (int s.held.now (nat s.w.now.queue s.k)) = search rules in
    point_read s.p.now s.sign s.w.now s.held.now s.share.now s.k share_fits c.ranges.sign
    c.losing_end.ensures held_fits c.if-p-gap-ne-AT_LEAST.false c.if-share-x-lt1.false (sym c.ne.ensures ∙ c.if-ne.false)
