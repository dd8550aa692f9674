-- The bytes of a line that is taken: "Quotes are not taken", and a CR that "belongs to its field, and so makes a bad line"
-- (document 01, "Sheet text").
use Prim.Native.Nat.{ℕ, ◌≤◌}
use mathlib.Core.Path.{◌≡◌, refl, sym, subst}
use mathlib.Core.Logic.{◌≢◌}
use mathlib.Core.Bool.{Bool, true, false, cond, ◌&&◌, true≢false}
use mathlib.Core.List.{List, [], ◌∷◌}
use Rattle.std.specs.Prelude.{Option, None, Some, Ok, Err, option_map}
use native.Mathlib.Omega.{arith}
use borrow.Author.Tests.{eqb-true, leb-true}
use lib.Dec.{eqb, leb}
use lib.ListN.{length}
use lib.IntN.{ℤ, pos, neg_ℤ}
use Rattle.ground.specs.Entries.{Each}
use Rattle.text_rows.specs.declared.Earlier.{Earlier}
use Rattle.text_rows.specs.declared.Row.{Row}
use Rattle.text_rows.specs.Lines.{carriage_return, comma, fields, push}
use Rattle.text_rows.specs.Numeral.{all_digits, digit_nine, digit_zero, digits_most, minus, number, signed, value_of, weight_of}
use Rattle.text_rows.specs.Taking.{Taken, field_at, gap_word, kind_word, label_word, same_bytes, same_word, taken}
use Rattle.text_rows.proofs.LineCases.{by_kind, taken_cases}

-- what holds if a line is taken
abbrev IfTaken : Type 0 → Taken → Type 0
IfTaken A (Ok row) = A
IfTaken A (Err b) = Unit {0}

both : (a b : Bool) → (a && b) ≡ true → (a ≡ true) × (b ≡ true)
both true b e = (refl, e)
both false b e = absurd (true≢false (sym e))

-- ---- bytes of words, of digits, the minus sign and the comma

module _
    (P : ℕ → Type 0) (words : Each P label_word × Each P gap_word × Each P same_word) (digit : (b : ℕ) → digit_zero ≤ b → b ≤ digit_nine → P b)
    (sign : P minus) (between : P comma)
  where
    word_bytes : (f word : List ℕ) → same_bytes f word ≡ true → Each P word → Each P f
    unfolding same_bytes
    word_bytes [] [] e h = tt
    word_bytes [] (b ∷ bs) e h = absurd (true≢false (sym e))
    word_bytes (a ∷ xs) [] e h = absurd (true≢false (sym e))
    word_bytes (a ∷ xs) (b ∷ bs) e h =
        let t = both (eqb a b) (same_bytes xs bs) e in
        (subst P (sym (eqb-true a b t.0)) h.0, word_bytes xs bs t.1 h.1)

    digit_bytes : (f : List ℕ) → all_digits f ≡ true → Each P f
    unfolding all_digits
    digit_bytes [] e = tt
    digit_bytes (b ∷ bs) e =
        let t = both (leb digit_zero b && leb b digit_nine) (all_digits bs) e in
        let d = both (leb digit_zero b) (leb b digit_nine) t.0 in
        (digit b (leb-true digit_zero b d.0) (leb-true b digit_nine d.1), digit_bytes bs t.1)

    number_bytes : (f : List ℕ) (n : ℕ) → number f ≡ Some n → Each P f
    unfolding number
    number_bytes f n = go (leb 1 (length f) && leb (length f) digits_most && all_digits f) refl
      where
        go :
            (t : Bool) → (leb 1 (length f) && leb (length f) digits_most && all_digits f) ≡ t
            → cond t (Some (value_of 0 f)) None ≡ Some n → Each P f
        go true e k = digit_bytes f (both (leb 1 (length f) && leb (length f) digits_most) (all_digits f) e).1
        go false e k = absurd (cc)

    -- a number with its sign put to it
    mapped_bytes : (f : List ℕ) (h : ℕ → ℤ) (z : ℤ) (o : Option ℕ) → number f ≡ o → option_map h o ≡ Some z → Each P f
    mapped_bytes f h z None e k = absurd (cc)
    mapped_bytes f h z (Some n) e k = number_bytes f n e

    signed_bytes : (f : List ℕ) (z : ℤ) → signed f ≡ Some z → Each P f
    unfolding signed
    signed_bytes [] z k = tt
    signed_bytes (b ∷ bs) z k = go (eqb b minus) refl k
      where
        go :
            (t : Bool) → eqb b minus ≡ t → cond t (option_map (λ n. neg_ℤ (pos n)) (number bs)) (option_map pos (number (b ∷ bs))) ≡ Some z
            → Each P (b ∷ bs)
        go true e k = (subst P (sym (eqb-true b minus e)) sign, mapped_bytes bs _ z (number bs) refl k)
        go false e k = mapped_bytes (b ∷ bs) pos z (number (b ∷ bs)) refl k

    weight_bytes : (f : List ℕ) (z : ℤ) → weight_of f ≡ Some z → Each P f
    unfolding weight_of
    weight_bytes [] z k = tt
    weight_bytes (b ∷ bs) z k = mapped_bytes (b ∷ bs) pos z (number (b ∷ bs)) refl k

    -- ---- the fields of a line, and the line

    four_bytes :
        (fs : List (List ℕ)) → length fs ≡ 4 → Each P (field_at fs 1) → Each P (field_at fs 2) → Each P (field_at fs 3) → Each P (field_at fs 4)
        → Each (Each P) fs
    four_bytes (a ∷ b ∷ c ∷ d ∷ []) e w x y z = (w, (x, (y, (z, tt))))
    four_bytes [] e w x y z = absurd (omega arith)
    four_bytes (a ∷ []) e w x y z = absurd (omega arith)
    four_bytes (a ∷ b ∷ []) e w x y z = absurd (omega arith)
    four_bytes (a ∷ b ∷ c ∷ []) e w x y z = absurd (omega arith)
    four_bytes (a ∷ b ∷ c ∷ d ∷ f ∷ fs) e w x y z = absurd (omega arith)

    pushed : (b : ℕ) (ss : List (List ℕ)) → Each (Each P) (push b ss) → P b × Each (Each P) ss
    pushed b [] h = (h.0.0, tt)
    pushed b (s ∷ ss) h = (h.0.0, (h.0.1, h.1))

    line_bytes : (line : List ℕ) → Each (Each P) (fields line) → Each P line
    unfolding fields
    line_bytes [] h = tt
    line_bytes (b ∷ bs) h = go (eqb b comma) refl h (line_bytes bs)
      where
        go :
            (t : Bool) → eqb b comma ≡ t → Each (Each P) (cond t ([] ∷ fields bs) (push b (fields bs)))
            → (Each (Each P) (fields bs) → Each P bs) → Each P (b ∷ bs)
        go true e k rest = (subst P (sym (eqb-true b comma e)) between, rest k.1)
        go false e k rest = let p = pushed b (fields bs) k in (p.0, rest p.1)

    if_taken : (earlier : Earlier) (line : List ℕ) → IfTaken (Each P line) (taken earlier line)
    if_taken earlier line =
        taken_cases (IfTaken (Each P line))
        (record { count = tt; word = tt; number = λ field l m. tt; turn = tt })
        earlier line
        (λ n z m k. line_bytes line (four_bytes (fields line) k.four (word_bytes _ label_word k.word words.0)
        (number_bytes _ n k.second) (signed_bytes _ z k.third) (weight_bytes _ m k.fourth)))
        (λ kind u v z k. line_bytes line (four_bytes (fields line) k.four (word_bytes _ (kind_word kind) k.word (by_kind (Each P) words.1 words.2 kind))
        (number_bytes _ u k.second) (number_bytes _ v k.third) (signed_bytes _ z k.fourth)))

    pub taken_bytes : (earlier : Earlier) (line : List ℕ) (row : Row) → taken earlier line ≡ Ok row → Each P line
    taken_bytes earlier line row e = subst (IfTaken (Each P line)) e (if_taken earlier line)

-- ---- so no line with one of these is taken, wherever it stands

pub no_return : (earlier : Earlier) (line : List ℕ) (row : Row) → taken earlier line ≡ Ok row → Each (λ b. b ≢ carriage_return) line
no_return = taken_bytes (λ b. b ≢ carriage_return) (omega arith) (λ b l m e. omega arith) (λ e. omega arith) (λ e. omega arith)

-- the byte of a quote
abbrev pub quote : ℕ
quote = 34

pub no_quote : (earlier : Earlier) (line : List ℕ) (row : Row) → taken earlier line ≡ Ok row → Each (λ b. b ≢ quote) line
no_quote = taken_bytes (λ b. b ≢ quote) (omega arith) (λ b l m e. omega arith) (λ e. omega arith) (λ e. omega arith)
