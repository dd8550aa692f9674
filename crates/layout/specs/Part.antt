-- The part of a ring buffer that is handed back (document 01, "Refusal table"; document 02, Item 6).
use Rattle.std.specs.Prelude.{ℕ, cond, List, [], leb, length, take}

-- "the filled front part of the lent ring buffer .. for a length beyond the buffer it is the empty part"; the second ring
-- buffer is "kept as the first is"
abbrev pub filled_part : {A : Type 0} → List A → ℕ → List A
filled_part ring size = cond (leb size (length ring)) (take size ring) []
