-- The kinds of gaps as bytes.
use mathlib.Core.Path.{◌≡◌, refl}
use Prim.Native.Nat.{ℕ, zero, suc}
use Rattle.least_move.specs.Sheet.{at_least, kind_of}

-- 0 alone stands for at least
pub kind_least : (b : ℕ) → kind_of b ≡ at_least → b ≡ 0
kind_least zero e = refl
kind_least (suc zero) e = cc
kind_least (suc (suc b)) e = cc
