-- A sheet that passed the checks keeps the core's limits.
use Rattle.std.proofs.Common.{arith, sym, ◌∙◌}
use Rattle.hard_sheets.proofs.Fronts.{limits_checked}
use Rattle.hard_sheets.proofs.show_text.Goals as goal

pub show_sheet-requires : goal.show_sheet-requires
show_sheet-requires g c =
    let p = c.in-Ok.problem in
    let l = c.lists_of in
    let few = c.in-Ok.ensures.within in
    limits_checked p l.result
    (record {
      wanted = l.ensures.wanted;
      weight = l.ensures.weight;
      left = l.ensures.left;
      right = l.ensures.right;
      distance = l.ensures.distance;
      kind = l.ensures.kind;
    })
    (record { wanted = omega (arith, few); weight = omega (arith, few); left = omega (arith, few); right = omega (arith, few); distance = omega (arith, few); kind = omega (arith, few) })
    (sym c.check.ensures ∙ c.in-Ok-check.is)
