-- Two layout calls from C (document 01, demand 3; document 02, Item 7).
use Rattle.std.specs.Prelude.{ℕ, List}
use Rattle.least_move.specs.Moved.{SameButWants, LargestMove, SameNumbers, MovedWants}
use Rattle.sheet_checks.specs.Lent.{Read, Written, sheet_of, place_of}
use Rattle.dirmoog_c.specs.Exported.{Laid}

-- where both return 0, on sheets that differ in wants only, the largest move, the same numbers and the two laws for moved
-- wants hold of the places, whatever they were lent to write (`two_laid` in proofs/TwoLaid)
abbrev pub TwoLaid : Type 0
TwoLaid =
    (r : Read) (w : Written) (out : List ℕ) (after : Written) (out_after : List ℕ) →
    (r' : Read) (w' : Written) (out' : List ℕ) (after' : Written) (out_after' : List ℕ) →
    Laid r w out 0 after out_after → Laid r' w' out' 0 after' out_after' → SameButWants (sheet_of r) (sheet_of r') →
    LargestMove (sheet_of r) (sheet_of r') (place_of after) (place_of after')
    × SameNumbers (sheet_of r) (sheet_of r') (place_of after) (place_of after')
    × MovedWants (sheet_of r) (sheet_of r') (place_of after) (place_of after')
