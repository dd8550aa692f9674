-- The first line of a text, by the place of its LF.
use Prim.Native.Nat.{ℕ, zero, suc, ◌+◌, ◌-◌, ◌≤◌, ◌<◌}
use native.Mathlib.Omega.{arith}
use mathlib.Core.Logic.{inl, inr}
use mathlib.Core.Path.{◌≡◌, refl, sym, ap, subst, ◌∙◌}
use mathlib.Core.Bool.{Bool, true, false, cond, ◌&&◌}
use mathlib.Core.List.{List, [], ◌∷◌}
use borrow.Author.Tests.{eq-eqb, ne_eqb}
use lib.Dec.{eqb}
use lib.ListN.{length, get_or, take, drop, length-drop, drop_of_length-le}
use lib.Seq.{drop-drop, get_or-drop, take_all}
use Rattle.text_rows.specs.declared.lines.Cursor.{Cursor}
use Rattle.text_rows.specs.Lines.{lines, push, starts_with, line_feed, carriage_return}
use Rattle.text_rows.specs.LineAt.{line_end, LineAt}

and_false : (t : Bool) → (t && false) ≡ false
and_false true = refl
and_false false = refl

-- no LF among the first n bytes
abbrev pub Unfed : List ℕ → ℕ → Type 0
Unfed s n = (k : ℕ) → k < n → get_or s k 0 ≡ line_feed → ⊥

starts_other : (s : List ℕ) → (get_or s 0 0 ≡ line_feed → ⊥) → starts_with line_feed s ≡ false
starts_other [] h = refl
starts_other (b ∷ bs) h = ne_eqb b line_feed h

-- a byte that ends nothing, in front of another that is no LF
ordinary :
    (b : ℕ) (bs : List ℕ) → (b ≡ line_feed → ⊥) → (get_or bs 0 0 ≡ line_feed → ⊥) → lines (b ∷ bs) ≡ push b (lines bs)
unfolding lines
ordinary b bs h g = rw (ne_eqb b line_feed h, starts_other bs g, and_false (eqb b carriage_return))

-- one byte before the LF
one_before :
    (t : Bool) (b : ℕ) (s : List ℕ) (ls : List (List ℕ)) → cond (t && true) ([] ∷ ls) (push b ([] ∷ ls)) ≡ take
    (cond t 0 1) (b ∷ s) ∷ ls
one_before true b s ls = refl
one_before false b s ls = refl

longer :
    (t : Bool) (b n : ℕ) (s : List ℕ) → b ∷ take (cond t n (suc n)) s ≡ take (cond t (suc n) (suc (suc n))) (b ∷ s)
longer true b n s = refl
longer false b n s = refl

pub line_fed :
    (s : List ℕ) (n : ℕ) → n < length s → get_or s n 0 ≡ line_feed → Unfed s n → lines s ≡ take (line_end s n) s ∷ lines
    (drop (suc n) s)
unfolding lines
line_fed [] n h e u = absurd (omega arith)
line_fed (b ∷ bs) zero h e u = rw (eq-eqb b line_feed e)
line_fed (b ∷ []) (suc zero) h e u = absurd (omega arith)
line_fed (b ∷ (c ∷ cs)) (suc zero) h e u =
    rw (ne_eqb b line_feed (u 0 (omega arith)), eq-eqb c line_feed e)
    (one_before (eqb b carriage_return) b (c ∷ cs) (lines cs))
line_fed (b ∷ bs) (suc (suc n)) h e u =
    ordinary b bs (u 0 (omega arith)) (u 1 (omega arith))
    ∙ (ap (push b) (line_fed bs (suc n) (omega arith) e (λ k g. u (suc k) (omega arith)))
    ∙ ap (λ (l : List ℕ). l ∷ lines (drop (suc (suc n)) bs)) (longer (eqb (get_or bs n 0) carriage_return) b n bs))

pub line_last : (b : ℕ) (bs : List ℕ) → Unfed (b ∷ bs) (suc (length bs)) → lines (b ∷ bs) ≡ (b ∷ bs) ∷ []
unfolding lines
line_last b [] u = ordinary b [] (u 0 (omega arith)) (λ e. absurd (omega arith))
line_last b (c ∷ cs) u =
    ordinary b (c ∷ cs) (u 0 (omega arith)) (u 1 (omega arith)) ∙ ap (push b)
    (line_last c cs (λ k g. u (suc k) (omega arith)))

pub end_most : (s : List ℕ) (n : ℕ) → line_end s n ≤ n
end_most s zero = omega arith
end_most s (suc n) = picked (eqb (get_or s n 0) carriage_return) n where
  picked : (t : Bool) (m : ℕ) → cond t m (suc m) ≤ suc m
  picked true m = omega arith
  picked false m = omega arith

line_whole : (s : List ℕ) → 0 < length s → Unfed s (length s) → lines s ≡ s ∷ []
line_whole [] h u = absurd (omega arith)
line_whole (b ∷ bs) h u = line_last b bs u

-- what is left of a text at a position
abbrev pub rest_at : List ℕ → ℕ → List ℕ
rest_at text at = take (length text - at) (drop at text)

pub rest_is : (text : List ℕ) (at : ℕ) → rest_at text at ≡ drop at text
rest_is text at = take_all (length text - at) (drop at text) (omega (arith, length-drop at text))

-- the line at a position whose LF stands after n bytes
pub fed_line :
    (text : List ℕ) (from : Cursor) (n : ℕ) → n < length (rest_at text from.at) → get_or (rest_at text from.at) n 0 ≡ line_feed
    → Unfed (rest_at text from.at) n
    → LineAt text from
    (record {
      end = from.at + line_end (drop from.at text) (from.at + n - from.at);
      next = record { at = from.at + n + 1; line = from.line + 1 };
    })
fed_line text from n h e u =
    let s = drop from.at text in
    let same : rest_at text from.at ≡ s = rest_is text from.at in
    let within : n < length s = subst (λ (x : List ℕ). n < length x) same h in
    let shown : get_or s n 0 ≡ line_feed = subst (λ (x : List ℕ). get_or x n 0 ≡ line_feed) same e in
    let unfed : Unfed s n = subst (λ (x : List ℕ). Unfed x n) same u in
    let back : from.at + n - from.at ≡ n = omega arith in
    let most : line_end s n ≤ n = end_most s n in
    let size : from.at + line_end s n - from.at ≡ line_end s n = omega arith in
    let after : drop (suc n) s ≡ drop (from.at + n + 1) text = drop-drop (suc n) from.at text ∙ ap (λ (k : ℕ). drop k text) (omega arith) in
    rw back (record {
      start = omega arith;
      stop = omega (arith, length-drop from.at text);
      on = omega arith;
      rest = omega (arith, length-drop from.at text);
      number = refl;
      parted = rw (size, ← after) (line_fed s n within shown unfed);
      fed = inr (from.at + n, (refl, sym (get_or-drop from.at text n 0) ∙ shown));
    })

-- the line at a position after which there is no LF
pub last_line :
    (text : List ℕ) (from : Cursor) → from.at < length text → Unfed (rest_at text from.at) (length (rest_at text from.at))
    → LineAt text from (record { end = length text; next = record { at = length text; line = from.line + 1 } })
unfolding lines
last_line text from h u =
    let s = drop from.at text in
    let same : rest_at text from.at ≡ s = rest_is text from.at in
    let unfed : Unfed s (length s) = subst (λ (x : List ℕ). Unfed x (length x)) same u in
    let none : drop (length text) text ≡ [] = drop_of_length-le text (omega arith) in
    record {
      start = omega arith;
      stop = omega arith;
      on = omega arith;
      rest = omega arith;
      number = refl;
      parted = rw (same, none) (line_whole s (omega (arith, length-drop from.at text)) unfed);
      fed = inl refl;
    }

-- the ends of `line_end` by a test of the byte before the LF
pub end_none : (text : List ℕ) (at feed : ℕ) → feed ≡ at → at ≡ at + line_end (drop at text) (feed - at)
end_none text at feed h = let e : feed - at ≡ 0 = omega arith in rw e (omega arith)

module _ (text : List ℕ) (at feed : ℕ) (h : at < feed) where
  before : feed - at ≡ suc (feed - at - 1)
  before = omega arith

  byte : get_or (drop at text) (feed - at - 1) 0 ≡ get_or text (feed - 1) 0
  byte = get_or-drop at text (feed - at - 1) 0 ∙ ap (λ (k : ℕ). get_or text k 0) (omega arith)

  pub end_return : get_or text (feed - 1) 0 ≡ carriage_return → feed - 1 ≡ at + line_end (drop at text) (feed - at)
  end_return e =
      rw before (rw (eq-eqb (get_or (drop at text) (feed - at - 1) 0) carriage_return (byte ∙ e)) (omega arith))

  pub end_other : (get_or text (feed - 1) 0 ≡ carriage_return → ⊥) → feed ≡ at + line_end (drop at text) (feed - at)
  end_other e =
      rw before (rw (ne_eqb (get_or (drop at text) (feed - at - 1) 0) carriage_return
      (λ (g : get_or (drop at text) (feed - at - 1) 0 ≡ carriage_return). e (sym byte ∙ g))) (omega arith))
