-- The first line's size where the bytes are cut at the first LF, and where there is none.
use Rattle.std.proofs.Common.{◌≡◌, ℕ, suc, ◌+◌, ◌≢◌, List, [], ◌∷◌, ◌++◌, length, refl, sym, ap, ◌∙◌, add-one, arith, eqb, false}
use Rattle.std.proofs.lemmas.Bool.{ne_eqb}
use Rattle.std.specs.List.{Contains}
use Rattle.console.specs.Lines.{first_line_size}

-- a byte that does not stand in b ∷ bs is not b, and does not stand in bs
not_head : (b x : ℕ) (bs : List ℕ) → (Contains (b ∷ bs) x → ⊥) → b ≢ x
not_head b x bs h e = h (0, omega arith, e)

not_tail : (b x : ℕ) (bs : List ℕ) → (Contains (b ∷ bs) x → ⊥) → Contains bs x → ⊥
not_tail b x bs h (k, lt, at) = h (suc k, omega arith, at)

cut_size : (front rest : List ℕ) → (Contains front 10 → ⊥) → first_line_size (front ++ 10 ∷ rest) ≡ suc (length front)
unfolding first_line_size
cut_size [] rest h = refl
cut_size (b ∷ bs) rest h =
    let ne : eqb b 10 ≡ false = ne_eqb b 10 (not_head b 10 bs h) in
    rw ne (ap suc (cut_size bs rest (not_tail b 10 bs h)))

-- the bytes before the first LF, and it
pub first_line_cut : (xs front rest : List ℕ) → xs ≡ front ++ 10 ∷ rest → (Contains front 10 → ⊥) → first_line_size xs ≡ length front + 1
first_line_cut xs front rest e h = ap first_line_size e ∙ cut_size front rest h ∙ sym (add-one _)

-- with no LF, all of them
pub first_line_whole : (xs : List ℕ) → (Contains xs 10 → ⊥) → first_line_size xs ≡ length xs
unfolding first_line_size
first_line_whole [] h = refl
first_line_whole (b ∷ bs) h =
    let ne : eqb b 10 ≡ false = ne_eqb b 10 (not_head b 10 bs h) in
    rw ne (ap suc (first_line_whole bs (not_tail b 10 bs h)))
