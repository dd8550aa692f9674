-- A list of records as four lists.
use Rattle.std.specs.Prelude.{ℕ, ◌≡◌, List, length, map, take, ℤ}
use Rattle.ground.specs.declared.GapRecord.{GapRecord}

-- the fronts of four lists hold the numbers of the records
pub record Apart (gs : List GapRecord) (left right : List ℕ) (distance : List ℤ) (kind : List ℕ) : Type 0 where
  pub lefts : take (length gs) left ≡ map (λ g. g.left) gs
  pub rights : take (length gs) right ≡ map (λ g. g.right) gs
  pub distances : take (length gs) distance ≡ map (λ g. g.distance) gs
  pub kinds : take (length gs) kind ≡ map (λ g. g.kind) gs
