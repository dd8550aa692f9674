-- Properties of every entry of a list.
use mathlib.Core.List.{List, [], ◌∷◌}
use Rattle.ground.specs.Entries.{Each}

-- one property gives another
pub each_map : {A : Type 0} {P Q : A → Type 0} → ((x : A) → P x → Q x) → (xs : List A) → Each P xs → Each Q xs
each_map f [] _ = tt
each_map f (x ∷ xs) h = (f x h.0, each_map f xs h.1)
