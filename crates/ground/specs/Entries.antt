-- Entries of lists, what holds of each, and lists whose front was written.
use Rattle.std.specs.Prelude.{ℕ, ◌≡◌, List, [], ◌∷◌, ◌++◌, length, get_or, take, drop, ℤ, pos}
use Rattle.ground.specs.declared.GapRecord.{GapRecord}
use Rattle.ground.specs.Kinds.{at_least_byte}

-- an entry of a list, zero past its end
abbrev pub nat : List ℕ → ℕ → ℕ
nat xs i = get_or xs i 0

abbrev pub int : List ℤ → ℕ → ℤ
int xs i = get_or xs i (pos 0)

-- every entry has a property
abbrev pub Each : {A : Type 0} → (A → Type 0) → List A → Type 0
Each P [] = Unit {0}
Each P (x ∷ xs) = P x × Each P xs

-- no gap: what stands past the end of a list of records
abbrev pub no_record : GapRecord
no_record = record { left = 0; right = 0; distance = pos 0; kind = at_least_byte }

-- a list whose first n entries were written: "Entries beyond stay"
pub record Filled {A : Type 0} (n : ℕ) (before after : List A) : Type 0 where
  pub size : length after ≡ length before
  pub beyond : drop n after ≡ drop n before

-- the first n entries of one list over the front of another
abbrev pub over : {A : Type 0} → ℕ → List A → List A → List A
over n a b = take n a ++ drop n b
