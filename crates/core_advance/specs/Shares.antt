-- The shares of a push that the labels of a block start from.
use Rattle.std.specs.Prelude.{ℕ, ◌≡◌, Bool, cond, List, ltb, ℤ}
use Rattle.ground.specs.Entries.{nat, int}
use Rattle.core_elimination.specs.Block.{Given, only_at}

-- the whole share at the other end where that stands in the block, else each label's weight
pub record Shared (count : ℕ) (at queue : List ℕ) (weight : List ℤ) (other : ℕ) (total : ℤ) (joined : Bool) (before after : List ℤ) : Type 0 where
  pub joined_is : joined ≡ ltb 0 (nat at other)
  pub given : Given count queue (λ x. cond joined (only_at other total x) (int weight x)) before after
