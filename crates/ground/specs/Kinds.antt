-- A gap's kind as a byte (document 02, Item 6).
use Rattle.std.specs.Prelude.{ℕ}

-- "0 at least and 1 exactly"
abbrev pub at_least_byte : ℕ
at_least_byte = 0

abbrev pub exactly_byte : ℕ
exactly_byte = 1
