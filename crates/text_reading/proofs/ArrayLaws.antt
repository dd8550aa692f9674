-- Work arrays: a pass that copies their first entries, and what they hold after a store.
use Prim.Native.Nat.{ℕ, suc, ◌≤◌, ◌<◌}
use native.Mathlib.Omega.{arith}
use native.Mathlib.Numerals.{add-one}
use mathlib.Core.Path.{◌≡◌, refl, ap, subst, ◌∙◌}
use mathlib.Core.Bool.{Bool, true, false, cond}
use mathlib.Core.List.{List, [], ◌∷◌, ◌++◌, map}
use borrow.Author.Tests.{ltb-true, ltb-false}
use lib.Dec.{ltb}
use lib.ListN.{length, take, drop, set, length-set, length-append, length-map}
use lib.Seq.{take-suc-set}
use Rattle.text_rows.specs.declared.Row.{Row}
use Rattle.text_rows.specs.declared.Row.TheVariants.{Label, Gap}
use Rattle.text_reading.specs.Texts.{Typed, Lists, nothing_typed, add, counts_of, front}
use Rattle.text_reading.specs.Parts.{stored, stored_in, counted_with, Holds, WorkArrays, Held}
use Rattle.ground.specs.Entries.{over}
use Rattle.ground.specs.Limits.{gaps_most, labels_most}

module _ {A : Type 0} where
  -- the copied entries are the list that an array holds
  pub over_front :
      {room : ℕ} {a xs : List A} (n : ℕ) (b : List A) → Holds room a xs → length xs ≤ room → n ≡ length xs → over n a
      b ≡ front xs b
  over_front {xs} n b h most e = rw e (ap (λ (l : List A). l ++ drop (length xs) b) (h.held most))

  pub holds_none : (room : ℕ) (a : List A) → length a ≡ room → Holds room a []
  holds_none room a e = record { size = e; held = λ h. refl }

  snoc_length : (xs : List A) (x : A) → length (xs ++ (x ∷ [])) ≡ suc (length xs)
  snoc_length xs x = length-append xs (x ∷ []) ∙ add-one (length xs)

  -- one more entry, stored where there is room
  pub holds_stored :
      {room : ℕ} {a xs : List A} (k : ℕ) (x : A) → Holds room a xs → length xs ≡ k → Holds room (stored room k x a)
      (xs ++ (x ∷ []))
  holds_stored {room} {a} {xs} k x h e = split (ltb k room) refl where
    split : (t : Bool) → ltb k room ≡ t → Holds room (cond t (set a k x) a) (xs ++ (x ∷ []))
    split true q =
        let below : k < room = ltb-true k room q in
        let inside : k < length a = omega (arith, h.size) in
        let same : take k a ≡ xs = subst (λ (n : ℕ). take n a ≡ xs) e (h.held (omega arith)) in
        let more : length (xs ++ (x ∷ [])) ≡ suc k = snoc_length xs x ∙ ap suc e in
        record {
          size = length-set a k x ∙ h.size;
          held = λ _. rw more (take-suc-set a k x inside ∙ ap (λ (l : List A). l ++ (x ∷ [])) same);
        }
    split false q = record {
      size = h.size;
      held = λ (m : length (xs ++ (x ∷ [])) ≤ room). absurd (omega (arith, ltb-false k room q, snoc_length xs x));
    }

map_snoc : {A B : Type 0} (f : A → B) (xs : List A) (x : A) → map f (xs ++ (x ∷ [])) ≡ map f xs ++ (f x ∷ [])
map_snoc f [] x = refl
map_snoc {B = B} f (y ∷ ys) x = ap (λ (l : List B). f y ∷ l) (map_snoc f ys x)

holds_mapped :
    {A B : Type 0} (f : A → B) {room : ℕ} {a : List B} (xs : List A) (x : A) → Holds room a (map f xs) → Holds room
    (stored room (length xs) (f x) a) (map f (xs ++ (x ∷ [])))
holds_mapped f xs x h = rw (map_snoc f xs x) (holds_stored (length xs) (f x) h (length-map xs f))

pub held_none : (w : Lists) → WorkArrays w → Held nothing_typed w
held_none w s =
    record {
      wanted = holds_none labels_most w.wanted s.wanted;
      weight = holds_none labels_most w.weight s.weight;
      left = holds_none gaps_most w.left s.left;
      right = holds_none gaps_most w.right s.right;
      distance = holds_none gaps_most w.distance s.distance;
      kind = holds_none gaps_most w.kind s.kind;
    }

pub held_stored : (t : Typed) (w : Lists) (row : Row) → Held t w → Held (add t row) (stored_in row (counts_of t) w)
held_stored t w (Label r) h =
    record {
      wanted = holds_mapped (λ l. l.wanted) t.labels r h.wanted;
      weight = holds_mapped (λ l. l.weight) t.labels r h.weight;
      left = h.left;
      right = h.right;
      distance = h.distance;
      kind = h.kind;
    }
held_stored t w (Gap g) h =
    record {
      wanted = h.wanted;
      weight = h.weight;
      left = holds_mapped (λ e. e.left) t.gaps g h.left;
      right = holds_mapped (λ e. e.right) t.gaps g h.right;
      distance = holds_mapped (λ e. e.distance) t.gaps g h.distance;
      kind = holds_mapped (λ e. e.kind) t.gaps g h.kind;
    }

pub counted_add : (t : Typed) (row : Row) → counted_with row (counts_of t) ≡ counts_of (add t row)
counted_add t (Label r) = rw length-append
counted_add t (Gap g) = rw length-append

-- work arrays that hold something have their sizes
pub sizes_held : (t : Typed) (w : Lists) → Held t w → WorkArrays w
sizes_held t w h = record {
  wanted = h.wanted.size;
  weight = h.weight.size;
  left = h.left.size;
  right = h.right.size;
  distance = h.distance.size;
  kind = h.kind.size;
}
