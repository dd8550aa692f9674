-- The nearer breaking point is known, and the order against the meeting point is that of their fractions.
use Rattle.std.proofs.Common.{⊎_elim, ◌≡◌}
use Rattle.std.specs.declared.cmp.Ordering.TheVariants.{Equal, Greater}
use Rattle.core_breaking.specs.Breaking.{BreakInRange}
use Rattle.core_breaking.proofs.BreakingPoints.{nearer_in_range}
use Rattle.core_breaking.proofs.DecideLaws.{tight_read_in_range, decides_at}
use Rattle.core_breaking.proofs.decide.decide.Goals as goal

pub compare-requires : goal.compare-requires
compare-requires c =
    let s = c.args in
    let q = c.requires in
    let near : BreakInRange c.nearer.result = rw c.nearer.ensures (nearer_in_range s.one.first s.two.first q.3 q.4) in
    (rw c.in-Some.is at near, tight_read_in_range s.h s.one.sums s.two.sums q.0 q.1 q.2 c.meeting.ensures)

pub returns-in-Less : goal.returns-in-Less
returns-in-Less c =
    let s = c.args in
    let q = c.requires in
    rw c.in-Less.is at (decides_at s.h s.one s.two q.0 q.1 q.2 c.nearer.ensures c.in-Some.is c.meeting.ensures c.compare.ensures)

pub returns-in-Equal : goal.returns-in-Equal
returns-in-Equal c =
    let s = c.args in
    let q = c.requires in
    let d = decides_at s.h s.one s.two q.0 q.1 q.2 c.nearer.ensures c.in-Some.is c.meeting.ensures c.compare.ensures in
    ⊎_elim (λ (e : c.compare.result ≡ Equal). rw e at d) (λ (e : c.compare.result ≡ Greater). rw e at d) c.in-Equal.is
