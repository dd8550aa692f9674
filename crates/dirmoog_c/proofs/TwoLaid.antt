-- What holds of two layout calls from C follows from what holds of any two calls: 0 is returned for placed sheets alone.
use Prim.Native.Nat.{ℕ}
use mathlib.Core.Path.{◌≡◌, sym}
use mathlib.Core.List.{List}
use Rattle.ground.specs.Answers as answer
use Rattle.sheet_checks.specs.Lent.{Read, Written}
use Rattle.layout.specs.TwoCalls.{BothPromised}
use Rattle.layout.proofs.Facts.{zero_placed}
use Rattle.layout.proofs.TwoCalls.{any_two_calls}
use Rattle.dirmoog_c.specs.Exported.{Laid}
use Rattle.dirmoog_c.specs.TwoLaid.{TwoLaid}

placed : {r : Read} {w : Written} {out : List ℕ} {after : Written} {out_after : List ℕ} (call : Laid r w out 0 after out_after) → call.answer ≡ answer.placed
placed call = zero_placed call.kept (sym call.returned)

pub two_laid : TwoLaid
two_laid r w out after out_after r' w' out' after' out_after' one two same =
    let both : BothPromised r w one.answer after r' w' two.answer after' = any_two_calls _ _ _ _ _ _ _ _ one.kept two.kept in (
      (both.demand_3 same).largest_move (placed one) (placed two),
      (both.demand_3 same).same_numbers (placed one) (placed two),
      both.moved_wants same (placed one) (placed two),
    )
