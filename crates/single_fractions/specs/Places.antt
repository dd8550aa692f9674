-- The fractions that refusal 12 does not meet (document 01, "Refusal table"). It belongs to every entry over single
-- fractions (document 02, Item 1: "12 no longer belongs to rounding alone").
use Rattle.std.specs.Prelude.{Bool, ◌&&◌, leb, ℤ, pos, nat_abs}
use Rattle.std.specs.Int.Signed.{le_z}
use Rattle.ground.specs.Limits.{place_den_most, place_num_most}

-- a denominator from 1 to 4,800 and a numerator within 5,472,000,000 either way
unfoldable pub within_places : ℤ → ℤ → Bool
within_places num den = le_z (pos 1) den && le_z den (pos place_den_most) && leb (nat_abs num) place_num_most
