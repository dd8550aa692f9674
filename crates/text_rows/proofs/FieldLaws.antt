-- Laws of words and of the fields of a line.
use Prim.Native.Nat.{ℕ, suc, ◌+◌, ◌<◌}
use mathlib.Core.Path.{◌≡◌, refl, sym, ap, subst, ◌∙◌}
use mathlib.Core.Bool.{Bool, true, false, cond, ◌&&◌}
use mathlib.Core.List.{List, [], ◌∷◌, ◌++◌}
use native.Mathlib.Omega.{arith}
use borrow.Author.Tests.{eq-eqb, ne_eqb, eqb-true}
use denote.Param.Members.{Mut, Called}
use denote.Ref.{Bor}
use lib.Dec.{eqb}
use lib.ListN.{length, drop, get_or}
use lib.Seq.{drop-cons}
use Rattle.std.specs.Prelude.{Option, None, Some, Err}
use Rattle.std.specs.Bool.{MatchBool}
use Rattle.std.specs.Fn.{ComputesKey}
use Rattle.std.specs.List.{All, IsFirstMatchOrLen, onto_first, slice_split}
use Rattle.std.proofs.lemmas.Fn.{always_returns_same}
use Rattle.std.proofs.lemmas.Grind.{common_steps}
use Rattle.std.proofs.lemmas.List.Splits.{slice_split_at, slice_split_none}
use Rattle.std.specs.declared.slice.Split.{Split}
use Rattle.std.specs.Slice.Iter.{split_rest, split_done, split_callee, split_steps}
use Rattle.text_rows.specs.declared.BadLine.{BadLine}
use Rattle.text_rows.specs.declared.Earlier.{Earlier}
use Rattle.text_rows.specs.Lines.{comma, push, fields}
use Rattle.text_rows.specs.Taking.{no_field, same_bytes, row_of}

-- ---- words

-- the bytes of a word stand in a field from a place on
abbrev pub Spelled : List ℕ → ℕ → List ℕ → Type 0
Spelled f k [] = Unit {0}
Spelled f k (b ∷ bs) = (get_or f k 0 ≡ b) × Spelled f (suc k) bs

spelled_rest : (a : ℕ) (f : List ℕ) (k : ℕ) (w : List ℕ) → Spelled (a ∷ f) (suc k) w → Spelled f k w
spelled_rest a f k [] s = tt
spelled_rest a f k (b ∷ bs) s = (s.0, spelled_rest a f (suc k) bs s.1)

pub spelled : (f w : List ℕ) → length f ≡ length w → Spelled f 0 w → same_bytes f w ≡ true
unfolding same_bytes
spelled [] [] e s = refl
spelled [] (b ∷ bs) e s = absurd (omega arith)
spelled (a ∷ f) [] e s = absurd (omega arith)
spelled (a ∷ f) (b ∷ bs) e s = rw (eq-eqb a b s.0) (spelled f bs (omega arith) (spelled_rest a f 0 bs s.1))

-- a field that is a word has its length and its bytes
spelled_self : (w f : List ℕ) (k : ℕ) → ((j : ℕ) → get_or f (k + j) 0 ≡ get_or w j 0) → Spelled f k w
spelled_self [] f k h = tt
spelled_self (b ∷ bs) f k h =
    (ap (λ (j : ℕ). get_or f j 0) (omega arith) ∙ h 0, spelled_self bs f (suc k) (λ j. ap (λ (i : ℕ). get_or f i 0) (omega arith) ∙ h (suc j)))

same_list : (f w : List ℕ) → same_bytes f w ≡ true → f ≡ w
unfolding same_bytes
same_list [] [] e = refl
same_list [] (b ∷ bs) e = absurd (cc)
same_list (a ∷ f) [] e = absurd (cc)
same_list (a ∷ f) (b ∷ bs) e = go (eqb a b) refl e (same_list f bs)
  where
    go : (t : Bool) → eqb a b ≡ t → (t && same_bytes f bs) ≡ true → (same_bytes f bs ≡ true → f ≡ bs) → a ∷ f ≡ b ∷ bs
    go true p q rest = rw (eqb-true a b p, rest q)
    go false p q rest = absurd (cc)

pub other_word : (f w : List ℕ) → (length f ≡ length w → Spelled f 0 w → ⊥) → same_bytes f w ≡ false
other_word f w h = go (same_bytes f w) refl
  where
    go : (t : Bool) → same_bytes f w ≡ t → t ≡ false
    go true p =
        let e : f ≡ w = same_list f w p in
        absurd (h (ap length e) (spelled_self w f 0 (λ j. ap (λ (k : ℕ). get_or f k 0) (omega arith) ∙ ap (λ (x : List ℕ). get_or x j 0) e)))
    go false p = refl

-- one byte more of both
pub bytes_drop :
    (xs ys : List ℕ) (i : ℕ) → i < length xs → i < length ys → same_bytes (drop i xs) (drop i ys)
    ≡ (eqb (get_or xs i 0) (get_or ys i 0) && same_bytes (drop (suc i) xs) (drop (suc i) ys))
unfolding same_bytes
bytes_drop xs ys i h l = rw (drop-cons xs i 0 h, drop-cons ys i 0 l)

-- ---- fields

-- a line has a field
pub some_field : (line : List ℕ) → 0 < length (fields line)
unfolding fields
some_field [] = omega arith
some_field (b ∷ bs) = go (eqb b comma) (fields bs)
  where
    go : (t : Bool) (fs : List (List ℕ)) → 0 < length (cond t ([] ∷ fs) (push b fs))
    go true fs = omega arith
    go false [] = omega arith
    go false (f ∷ fs) = omega arith

-- where a line is cut
abbrev pub is_comma : ℕ → Bool
is_comma b = eqb b comma

fields_are : (line : List ℕ) → fields line ≡ slice_split is_comma line
unfolding fields
fields_are [] = refl
fields_are (b ∷ bs) = rw (fields_are bs) (ap (cond (eqb b comma) ([] ∷ slice_split is_comma bs)) (go (slice_split is_comma bs)))
  where
    go : (ss : List (List ℕ)) → push b ss ≡ onto_first b ss
    go [] = refl
    go (s ∷ ss) = refl

-- the first field of what is left, and what is left behind it
first_field :
    (xs x rest : List ℕ) (done : Bool) → MatchBool done (xs ≡ x) ((y : ℕ) × (xs ≡ x ++ (y ∷ rest))) → IsFirstMatchOrLen is_comma xs (length x)
    → fields xs ≡ x ∷ cond done [] (fields rest)
first_field xs x rest true e h =
    ap fields e ∙ fields_are x ∙ slice_split_none is_comma x (λ k d l. subst (λ (ys : List ℕ). is_comma (get_or ys k d) ≡ false) e (h.0 k d (omega arith) l))
first_field xs x rest false e h =
    let front : All (λ z. is_comma z ≡ false) x = λ k d l. let a = h.0 k d (omega arith) l in let b = e.1 in grind (arith, common_steps) in
    let hit : is_comma e.0 ≡ true = let b = e.1 in let a = h.1 (grind (arith, common_steps)) e.0 in grind (arith, common_steps) in
    ap fields e.1 ∙ fields_are (x ++ (e.0 ∷ rest)) ∙ slice_split_at is_comma x e.0 rest front hit ∙ ap (λ (l : List (List ℕ)). x ∷ l) (sym (fields_are rest))

-- the fields that are left where a line is being cut
pub record Left {F : Type 0} (g : Mut F (Bor ℕ × Unit {0}) Bool) (s : Split ℕ F) (fs : List (List ℕ)) : Type 0 where
  pub cuts : ComputesKey g is_comma (split_callee s)
  pub shown : fs ≡ cond (split_done s) [] (fields (split_rest s))

module _ {F : Type 0} {g : Mut F (Bor ℕ × Unit {0}) Bool} where
  -- all of them, before the first step
  pub left_start :
      (s t : Split ℕ F) (r : Option (Bor (List ℕ))) (line : List ℕ) → split_steps g s r t → split_rest s ≡ line → split_done s ≡ false
      → ((a : Bor ℕ × Unit {0}) (r : Bool) (q : F) → Called g (split_callee s) a r q → (r ≡ is_comma a.0.now) × (q ≡ split_callee s)) → Left g s (fields line)
  left_start s t r line k rest done tests = record {
    cuts = always_returns_same g (λ a r. r ≡ is_comma a.0.now) (split_callee s) tests;
    shown = rw (rest, done);
  }

  module _ {s : Split ℕ F} {fs : List (List ℕ)} (t : Split ℕ F) {r : Option (Bor (List ℕ))} (l : Left g s fs) (k : split_steps g s r t) where
    pub left_none : r ≡ None → fs ≡ []
    left_none e = let m = subst (λ (o : Option (Bor (List ℕ))). split_steps g s o t) e k in l.shown ∙ rw m.0

    pub left_some : (x : Bor (List ℕ)) → r ≡ Some x → (rest : List (List ℕ)) × (fs ≡ x.now ∷ rest) × Left g t rest
    left_some x e =
        let m = subst (λ (o : Option (Bor (List ℕ))). split_steps g s o t) e k in
        let n = m.2 is_comma l.cuts in
        let rest = cond (split_done t) [] (fields (split_rest t)) in (
          rest,
          l.shown ∙ rw m.0 (first_field (split_rest s) x.now (split_rest t) (split_done t) m.1 n.1),
          record { cuts = n.0; shown = refl },
        )

    -- where more fields are left there is a next one, and where none is left there is none
    pub left_more : {n : ℕ} → length fs ≡ suc n → (r ≡ None → ⊥) × (rest : List (List ℕ)) × (length rest ≡ n) × Left g t rest
    left_more {n} h = go r refl
      where
        go : (o : Option (Bor (List ℕ))) → r ≡ o → (r ≡ None → ⊥) × (rest : List (List ℕ)) × (length rest ≡ n) × Left g t rest
        go None e = absurd (omega (arith, ap length (left_none e)))
        go (Some x) e =
            let m = left_some x e in
            ((λ f. absurd (cc)), m.0, omega (arith, ap length m.1), m.2)

    pub left_done : length fs ≡ 0 → r ≡ None
    left_done h = go r refl
      where
        go : (o : Option (Bor (List ℕ))) → r ≡ o → r ≡ None
        go None e = e
        go (Some x) e = absurd (omega (arith, ap length (left_some x e).1))

-- a line whose fields are not four
pub uncounted : (earlier : Earlier) (fs : List (List ℕ)) (b : BadLine) → b.number ≡ 10 → b.field ≡ no_field → (length fs ≡ 4 → ⊥) → Err b ≡ row_of earlier fs
unfolding row_of
uncounted earlier fs b e f h = rw (ne_eqb (length fs) 4 h) (ap Err (λ i. record { number = e i; field = f i }))
