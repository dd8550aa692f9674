-- `text_rows::lines::line_at` meets its contract: the first LF ends the line, or the text does.
use Rattle.std.proofs.Common.{◌≡◌, rules, arith}
use Rattle.std.proofs.lemmas.Iterator.{IsFirst-from_position, YieldsList-from_slice}
use Rattle.std.proofs.lemmas.Option.{MatchOption-at_none, MatchOption-at_some}
use borrow.Author.Tests.{tests}
use Rattle.text_rows.specs.Lines.{line_feed}
use Rattle.text_rows.proofs.LineLaws.{fed_line, last_line, rest_at}
use Rattle.text_rows.proofs.lines.line_at.Goals as goal

pub returns-in_default : goal.returns-in_default
returns-in_default c =
    let a = c.args in
    let s = rest_at a.text.now a.from.at in
    let first = IsFirst-from_position _ _ _ (λ x. x ≡ line_feed) (λ x. x ≡ line_feed → ⊥) c.position.ensures.ran
    (YieldsList-from_slice s c.iter.ensures.rest) (λ x q k. search (rules, tests)) (λ x q k. search (rules, tests)) in
    let unfed = MatchOption-at_none _ _ c.in_default.is first in
    last_line a.text.now a.from c.requires.0 (λ k h. unfed k 0 (omega arith) h)

pub returns : goal.returns
returns c =
    let a = c.args in
    let s = rest_at a.text.now a.from.at in
    let first = IsFirst-from_position _ _ _ (λ x. x ≡ line_feed) (λ x. x ≡ line_feed → ⊥) c.position.ensures.ran
    (YieldsList-from_slice s c.iter.ensures.rest) (λ x q k. search (rules, tests)) (λ x q k. search (rules, tests)) in
    let found = MatchOption-at_some _ _ _ c.in-Some.is first in
    rw c.end_before.ensures (fed_line a.text.now a.from c.in-Some.length found.0 (found.1 0) (λ k h. found.2 k 0 (omega arith) h))
