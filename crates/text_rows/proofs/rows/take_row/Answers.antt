-- `text_rows::rows::take_row` meets its contract: the parts between the commas are the line's fields, and there must
-- be four.
use Rattle.std.proofs.Common.{sym, ◌∙◌, rules}
use Rattle.std.proofs.lemmas.Option.{none-some}
use borrow.Author.Tests.{tests}
use Rattle.text_rows.specs.Lines.{fields}
use Rattle.text_rows.proofs.FieldLaws.{left_start, left_done, left_more, left_none, left_some, uncounted}
use Rattle.text_rows.proofs.rows.take_row.Goals.{in_default-via-in_default, in_default-via-in-Some+in_default, in_default-via-in-Some+in-Some+in_default, in_default-via-in-Some+in-Some+in-Some+in_default, in_default-via-in-Some+in-Some+in-Some+in-Some+in_default}
use Rattle.text_rows.proofs.rows.take_row.Goals as goal

pub returns-in_default : goal.returns-in_default
returns-in_default c =
    let s = c.split-fields in
    let cut = left_start s.result _ _ c.args.line.now c.next.ensures.steps s.ensures.rest s.ensures.done (λ a r q k. search (rules, tests)) in
    uncounted c.args.earlier (fields c.args.line.now) c.at.result (search rules) (search rules)
    (λ four.
    let word = left_more _ cut c.next.ensures.steps four in
    let second = left_more _ word.3 c.next-2.ensures.steps word.2 in
    let third = left_more _ second.3 c.next-3.ensures.steps second.2 in
    let fourth = left_more _ third.3 c.next-4.ensures.steps third.2 in
    let past = left_done _ fourth.3 c.next-5.ensures.steps fourth.2 in
    elim c.in_default.branch [
      | in_default-via-in_default w ↦ word.0 w.in_default.is-0
      | in_default-via-in-Some+in_default w ↦ second.0 w.in_default.is-1
      | in_default-via-in-Some+in-Some+in_default w ↦ third.0 w.in_default.is-2
      | in_default-via-in-Some+in-Some+in-Some+in_default w ↦ fourth.0 w.in_default.is-3
      | in_default-via-in-Some+in-Some+in-Some+in-Some+in_default w ↦ none-some _ (sym past ∙ w.in_default.is-4)
    ])

pub returns : goal.returns
returns c =
    let s = c.split-fields in
    let m = c.in-Some-Some-Some-Some-None in
    let cut = left_start s.result _ _ c.args.line.now c.next.ensures.steps s.ensures.rest s.ensures.done (λ a r q k. search (rules, tests)) in
    let word = left_some _ cut c.next.ensures.steps m.word m.is-0 in
    let second = left_some _ word.2 c.next-2.ensures.steps m.second m.is-1 in
    let third = left_some _ second.2 c.next-3.ensures.steps m.third m.is-2 in
    let fourth = left_some _ third.2 c.next-4.ensures.steps m.fourth m.is-3 in
    let past = left_none _ fourth.2 c.next-5.ensures.steps m.is-4 in
    rw (word.1, second.1, third.1, fourth.1, past) c.row_of.ensures
