-- Copies of the first entries of a list, and lists whose front is written: one turn of the loop, and what holds afterwards.
use Prim.Native.Nat.{ℕ, suc, ◌+◌, ◌≤◌, ◌<◌}
use native.Mathlib.Omega.{arith}
use native.Mathlib.Numerals.{add-one}
use mathlib.Core.Path.{◌≡◌, refl, sym, ap, ◌∙◌}
use mathlib.Core.List.{List, ◌++◌}
use lib.ListN.{length, get_or, take, drop, set, length-set}
use lib.Seq.{drop-cons, drop-drop, drop-set-lt, take-suc, set_at, append_snoc, length-take-le, length_front}
use Rattle.ground.specs.Entries.{Filled, over}

module _ {A : Type 0} where
  -- one turn of the pass that copies
  pub over_turn : (from before : List A) (k : ℕ) (none : A) → k < length from → k < length before → set (over k from before) k (get_or from k none) ≡ over (k + 1) from before
  over_turn from before k none h g =
      let v = get_or from k none in
      rw add-one
      (ap (λ (l : List A). set (take k from ++ l) k v) (drop-cons before k none g)
      ∙ (set_at (take k from) (get_or before k none) (drop (suc k) before) v k (length-take-le k from (omega arith))
      ∙ (sym (append_snoc (take k from) v (drop (suc k) before)) ∙ ap (λ (l : List A). l ++ drop (suc k) before) (sym (take-suc from k none h)))))

  pub over_length : (from before : List A) (k : ℕ) → k ≤ length from → k ≤ length before → length (over k from before) ≡ length before
  over_length from before k h g = length_front before (take k from) k (length-take-le k from h ∙ sym (length-take-le k before g))

  -- a list whose front is written: nothing, a store in the front, one entry more, one writer after another
  pub filled_start : (n : ℕ) (before : List A) → Filled n before before
  filled_start n before = record { size = refl; beyond = refl }

  pub filled_set : (n k : ℕ) (before : List A) (v : A) → k < n → Filled n before (set before k v)
  filled_set n k before v h = record { size = length-set before k v; beyond = drop-set-lt n before k v h }

  pub filled_turn : (k : ℕ) (before after : List A) (v : A) → Filled k before after → Filled (k + 1) before (set after k v)
  filled_turn k before after v f =
      record { size = simp length-set f.size; beyond = drop-set-lt (k + 1) after k v (omega arith) ∙ (sym (drop-drop 1 k after) ∙ (ap (drop 1) f.beyond ∙ drop-drop 1 k before)) }

  pub filled_then : {n : ℕ} {a b c : List A} → Filled n a b → Filled n b c → Filled n a c
  filled_then f g = record { size = g.size ∙ f.size; beyond = g.beyond ∙ f.beyond }
