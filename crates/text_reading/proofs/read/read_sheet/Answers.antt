-- `text_reading::read::read_sheet` meets its contract: 11 first, then the lines, then what is handed over.
use Rattle.std.proofs.Common.{rules}
use Rattle.std.proofs.lemmas.Result.{err_from_is_err_and}
use Rattle.text_reading.specs.Works.{lists_in}
use Rattle.text_reading.specs.Texts.{lists_now}
use Rattle.text_reading.proofs.ReadLaws.{long_text, read_bad, read_refused, read_sheet, same_lists}
use Rattle.text_reading.proofs.read.read_sheet.Goals as goal

pub returns-then-text-gt-TEXT_MOST : goal.returns-then-text-gt-TEXT_MOST
returns-then-text-gt-TEXT_MOST c =
    let a = c.args in
    let lent = lists_now a.wanted a.weight a.left a.right a.distance a.kind in
    long_text a.text.now lent _ c.if-text-gt-TEXT_MOST.true c.whole.ensures

pub returns-in_err-counts : goal.returns-in_err-counts
returns-in_err-counts c =
    let a = c.args in
    let lent = lists_now a.wanted a.weight a.left a.right a.distance a.kind in
    let p = err_from_is_err_and c.from_residual.result c.from_residual.ensures.1 in
    rw (p.1, p.2) (read_bad a.text.now (lists_in c.read_lines.new.work) lent c.if-text-gt-TEXT_MOST.false _ c.in_err-counts.ensures)

pub returns-in_err-judge : goal.returns-in_err-judge
returns-in_err-judge c =
    let a = c.args in
    let lent = lists_now a.wanted a.weight a.left a.right a.distance a.kind in
    let p = err_from_is_err_and c.from_residual-in_err-judge.result c.from_residual-in_err-judge.ensures.1 in
    rw (p.1, p.2)
    (read_refused a.text.now (lists_in c.read_lines.new.work) lent c.if-text-gt-TEXT_MOST.false c.in_ok-counts.counts _ c.in_ok-counts.ensures
    (search rules) (search rules) _ c.in_err-judge.ensures.judged)

pub returns : goal.returns
returns c =
    let a = c.args in
    let lent = lists_now a.wanted a.weight a.left a.right a.distance a.kind in
    read_sheet a.text.now (lists_in c.read_lines.new.work) lent c.if-text-gt-TEXT_MOST.false c.in_ok-counts.counts _ c.in_ok-counts.ensures
    (search rules) (search rules) _ c.in_ok-judge.ensures.judged
    (same_lists c.copy_front.ensures c.copy_front-2.ensures c.copy_front-3.ensures c.copy_front-4.ensures c.copy_front-5.ensures c.copy_front-6.ensures)
