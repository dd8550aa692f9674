use Rattle.std.proofs.Common.{◌≡◌, sym, ◌∙◌, rules}
use Rattle.std.proofs.lemmas.Result.{err_from_is_err_and}
use Rattle.text_reading.specs.Readings.{unread}
use Rattle.text_reading.proofs.ReadLaws.{mapped_err, mapped_ok, reached_start, reached_bad, reached_turn, reached_end}
use Rattle.text_reading.proofs.read.read_lines.Goals as goal

pub loop-from-init : goal.loop-from-init
loop-from-init c = reached_start _ _ c.args.work.now.sizes

pub returns-in_err-row : goal.returns-in_err-row
returns-in_err-row c =
    let p = err_from_is_err_and c.from_residual.result c.from_residual.ensures.1 in
    let m = mapped_err _ c.take_row-taken.result c.map_err.result c.map_err.ensures.cases c.in_err-row.field-0.0 c.in_err-row.was in
    let told : c.in_err-row.field-0.0 ≡ unread m.0.number c.loop-from.from.line m.0.field = search rules in
    rw (p.1, p.2, told) (reached_bad c.loop-from.invariant c.line_at-line.ensures m.0 (sym c.take_row-taken.ensures ∙ m.1))

pub loop-from-preserved : goal.loop-from-preserved
loop-from-preserved c =
    let m = mapped_ok _ c.take_row-taken.result c.map_err.result c.map_err.ensures.cases c.in_ok-row.row c.in_ok-row.was in
    reached_turn c.loop-from.invariant c.line_at-line.ensures _ (sym c.take_row-taken.ensures ∙ m) c.store-counts.ensures

pub returns : goal.returns
returns c = reached_end c.loop-from.invariant c.loop-from-test.false
