-- The lines of a text and the fields of a line (document 01, "Sheet text"; RFC 4180 without quotes).
use Rattle.std.specs.Prelude.{ℕ, Bool, false, cond, ◌&&◌, List, [], ◌∷◌, ◌++◌, eqb}

-- the bytes LF, CR and the comma
abbrev pub line_feed : ℕ
line_feed = 10

abbrev pub carriage_return : ℕ
carriage_return = 13

abbrev pub comma : ℕ
comma = 44

-- a byte in front of the first of some strings
abbrev pub push : ℕ → List (List ℕ) → List (List ℕ)
push b [] = (b ∷ []) ∷ []
push b (s ∷ ss) = (b ∷ s) ∷ ss

-- whether a string starts with a byte
abbrev pub starts_with : ℕ → List ℕ → Bool
starts_with b [] = false
starts_with b (c ∷ cs) = eqb c b

-- "Records end in CRLF; a bare LF is also taken, and the last end may lack.
-- A CR that is not just before a LF belongs to its field, and so makes a bad line" (`no_return` in proofs/TakenBytes)
unfoldable pub lines : List ℕ → List (List ℕ)
lines [] = []
lines (b ∷ bs) =
    cond (eqb b line_feed) ([] ∷ lines bs)
    (cond (eqb b carriage_return && starts_with line_feed bs) (lines bs)
    (push b (lines bs)))

-- "comma-separated records .. Quotes are not taken": a quote is a byte like any other, and stands in no line that is taken
-- (`no_quote` in proofs/TakenBytes)
unfoldable pub fields : List ℕ → List (List ℕ)
fields [] = [] ∷ []
fields (b ∷ bs) = cond (eqb b comma) ([] ∷ fields bs) (push b (fields bs))

-- how records are written: a field after the first, and the end of a record
abbrev pub next : List ℕ → List ℕ
next field = comma ∷ field

abbrev pub record_end : List ℕ
record_end = carriage_return ∷ line_feed ∷ []

-- four fields joined: as a line, and as a record with its end
abbrev pub line_of : (word second third fourth : List ℕ) → List ℕ
line_of word a b c = word ++ (next a ++ (next b ++ next c))

abbrev pub record_of : (word second third fourth : List ℕ) → List ℕ
record_of word a b c = word ++ (next a ++ (next b ++ (next c ++ record_end)))
