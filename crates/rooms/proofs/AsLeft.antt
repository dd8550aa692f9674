-- A call is lent the front of the carried record: what it left there stands in the room, and the bytes beyond stay.
use mathlib.Core.Path.{◌≡◌, ◌∙◌}
use Prim.Native.Nat.{ℕ, ◌≤◌}
use mathlib.Core.List.{List, ◌++◌}
use lib.ListN.{length, take, drop}
use lib.Seq.{take_at, drop_at, length_front, length-take-le}
use Rattle.ground.specs.Entries.{Filled}

-- a front of the same length before the bytes beyond
pub record Fronted (gaps : ℕ) (left before : List ℕ) : Type 0 where
  pub front : take gaps (left ++ drop gaps before) ≡ left
  pub beyond : Filled gaps before (left ++ drop gaps before)

pub fronted : (gaps : ℕ) (left before : List ℕ) → length left ≡ length (take gaps before) → gaps ≤ length before → Fronted gaps left before
fronted gaps left before same enough =
    let count : length left ≡ gaps = same ∙ length-take-le gaps before enough in
    record {
      front = take_at left (drop gaps before) gaps count;
      beyond = record { size = length_front before left gaps same; beyond = drop_at left (drop gaps before) gaps count };
    }
