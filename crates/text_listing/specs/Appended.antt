-- A text with a piece put behind it.
use Rattle.std.specs.Prelude.{ℕ, ◌≡◌, List, ◌++◌}

pub record Appended (before piece after : List ℕ) : Type 0 where
  pub joined : after ≡ before ++ piece
