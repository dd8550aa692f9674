-- What two promises come to is the law `any_two_calls`.
use Rattle.layout.proofs.TwoCalls.{any_two_calls}
use Rattle.two_calls.proofs.lay_out_both.Goals as goal

pub returns : goal.returns
returns c = any_two_calls _ _ _ _ _ _ _ _ c.lay_out-first.ensures c.lay_out_records-second.ensures
