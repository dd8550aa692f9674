-- Wrong guesses: bytes that the definitions rule out.
use mathlib.Core.Logic.{⊎_elim}
use mathlib.Core.Bool.{true, false}
use Prim.Native.Nat.{ℕ}
use mathlib.Core.Path.{ap, refl}
use mathlib.Core.List.{List, [], ◌∷◌}
use native.Mathlib.Omega.{arith}
use Rattle.ground.specs.Entries.{nat}
use Rattle.core_guess.specs.Guess.{Extended, Wished}

-- a gap is wished by a byte that is neither 0 nor 1
pub no_byte_of_two : Wished 1 (0 ∷ []) (2 ∷ []) → ⊥
no_byte_of_two w = ⊎_elim (λ q. omega (arith, q)) (λ q. omega (arith, q)) (w.each 0)

-- a byte beyond the gaps is written
pub none_beyond : Wished 1 (0 ∷ (0 ∷ [])) (0 ∷ (1 ∷ [])) → ⊥
none_beyond w = omega (arith, w.beyond 1 (omega arith))

-- a gap is wished though none is said to lack
pub no_wish_in_silence : Extended false 1 (0 ∷ []) (1 ∷ []) → ⊥
no_wish_in_silence x = omega (arith, ap (λ (l : List ℕ). nat l 0) (x.no refl))

-- a byte that was neither 0 nor 1 is left where gaps are wished anew
pub no_byte_left : Extended true 1 (2 ∷ []) (2 ∷ []) → ⊥
no_byte_left x = omega (arith, x.yes refl 0 (omega arith))
