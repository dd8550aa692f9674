-- Views of what is lent: a parameter that is a reference, as an `ensures` sees it,
-- is a pair of what was lent and what is there afterwards.
use Rattle.std.specs.Prelude.{List}
use Rattle.std.specs.Borrow.{Bor, MutBor}
use denote.Triple.Both.{Both}

-- a list lent to read, at entry and at exit
abbrev pub Param : Type 0 → Type 0
Param A = Both (Bor (List A)) (Bor (List A))

-- a list lent to write, at entry and at exit
abbrev pub MutParam : Type 0 → Type 0
MutParam A = Both (MutBor (List A)) (MutBor (List A))
