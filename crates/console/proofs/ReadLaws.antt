-- The bytes that an input gives in two reads, one after the other.
use Rattle.std.proofs.Common.{◌≡◌, ℕ, ◌+◌, ◌≤◌, List, ◌++◌, length, take, sym, ap, subst, ◌∙◌, length-take-le}
use Rattle.std.proofs.lemmas.List.{take-append-le}
use Rattle.std.proofs.Math.Seq.{take-append-add}
use Rattle.std.specs.Io.KnownBytes.{Consumes}
use Rattle.std.specs.declared.option.Option.{Option}
use Rattle.std.proofs.KnownBytes.{Consumes-trans}

-- the front up to a, and n more of what was put behind it
front_more : (xs ys rest : List ℕ) (a n : ℕ) → a ≤ length xs → n ≤ length ys → take (a + n) (take a xs ++ (ys ++ rest)) ≡ take a xs ++ take n ys
front_more xs ys rest a n h k =
    ap (λ j. take (j + n) (take a xs ++ (ys ++ rest))) (sym (length-take-le a xs h))
    ∙ (take-append-add (take a xs) (ys ++ rest) n ∙ ap (λ t. take a xs ++ t) (take-append-le n ys rest k))

-- the bytes that an input gave before a read, and those that it gave in it
pub read_more : (old was now : Option (List ℕ)) (xs ys rest : List ℕ) (a n : ℕ) → a ≤ length xs → Consumes old was (take a xs)
    → n ≤ length ys → Consumes was now (take n ys) → Consumes old now (take (a + n) (take a xs ++ (ys ++ rest)))
read_more old was now xs ys rest a n h before k more = subst (Consumes old now) (sym (front_more xs ys rest a n h k)) (Consumes-trans old was now _ _ before more)
