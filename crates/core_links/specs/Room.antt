-- Room in the work arrays of the first guess, and gaps that stand in it.
use Rattle.std.specs.Prelude.{ℕ, Bool, ltb}
use Rattle.ground.specs.Limits.{gaps_most}

-- for each label in an array
abbrev pub room : ℕ
room = 64

-- whether a byte is the number of one of the gaps that a sheet may have
abbrev pub is_gap : ℕ → Bool
is_gap byte = ltb byte gaps_most
