-- What reading an input into a buffer promises.
use Rattle.std.specs.Prelude.{ℕ, ◌<◌, List, length, IfOk, Result, Option}
use Rattle.std.specs.Io.KnownBytes.{IsAtEnd}

-- at `Ok(n)` the n bytes fill the buffer, or no known byte of the input is left
abbrev pub FullOrAtEnd : {E : Type 0} → Result ℕ E → List ℕ → Option (List ℕ) → Type 0
FullOrAtEnd result buffer left = IfOk result (λ n. n < length buffer → IsAtEnd left)
