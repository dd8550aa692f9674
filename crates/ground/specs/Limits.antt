-- The limits of a sheet (document 01), and those of the core, which are the widest that any of its users needs.
use Rattle.std.specs.Prelude.{ℕ, ◌^◌}

-- "labels on a sheet", "gaps on a sheet"
abbrev pub labels_most : ℕ
labels_most = 48

abbrev pub gaps_most : ℕ
gaps_most = 192

-- "wanted place", either way; "weight"; "gap", either way
abbrev pub wanted_most : ℕ
wanted_most = 200000

abbrev pub weight_least : ℕ
weight_least = 1

abbrev pub weight_most : ℕ
weight_most = 100

abbrev pub distance_most : ℕ
distance_most = 20000

-- refusal 12: a place's denominator, and its numerator either way
abbrev pub place_den_most : ℕ
place_den_most = 4800

abbrev pub place_num_most : ℕ
place_num_most = 5472000000

-- "within 1,140,000 of zero": the largest want and the largest offset
abbrev pub place_most : ℕ
place_most = 1140000

-- a fraction that is compared or whose slack is taken: its denominator; and, compared, its numerator either way
abbrev pub fraction_den_most : ℕ
fraction_den_most = 518400

abbrev pub fraction_num_most : ℕ
fraction_num_most = 2 ^ 62

-- the numerator, either way, of a place whose slack is taken: 3 × 266,112,000,000 (`moment_most`), since a later request
-- scales places by up to 3
abbrev pub slack_num_most : ℕ
slack_num_most = 798336000000

-- numbers that a byte holds are below this
abbrev pub bytes_most : ℕ
bytes_most = 256

-- ---- the core: wants and weights of a sheet whose labels are scaled by up to 3

abbrev pub core_wanted_most : ℕ
core_wanted_most = 600000

abbrev pub core_weight_most : ℕ
core_weight_most = 3600

-- the weight of a block of so many labels, and how far its ends are apart: one gap less than labels
abbrev pub block_weight_most : ℕ
block_weight_most = 172800

abbrev pub offset_most : ℕ
offset_most = 940000

-- a place over a block's weight: within the largest want and the largest offset
abbrev pub moment_most : ℕ
moment_most = 266112000000

-- what a label of a block hands on, and a multiplier over a block's weight: that of so many labels
abbrev pub share_most : ℕ
share_most = 4000000000000000

abbrev pub multiplier_most : ℕ
multiplier_most = 192000000000000000
