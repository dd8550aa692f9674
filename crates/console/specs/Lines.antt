-- The first line of a text.
use Rattle.std.specs.Prelude.{ℕ, suc, List, [], ◌∷◌, cond, eqb}

-- how many bytes the first line has: those up to the first LF (10) and with it, or all where there is none
unfoldable pub first_line_size : List ℕ → ℕ
first_line_size [] = 0
first_line_size (b ∷ bs) = cond (eqb b 10) 1 (suc (first_line_size bs))
