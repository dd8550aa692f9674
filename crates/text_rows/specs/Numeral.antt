-- Numbers as digits (document 01, "Sheet text"): how they are read, and how they are written.
use Rattle.std.specs.Prelude.{ℕ, zero, suc, ◌+◌, ◌-◌, ◌*◌, ◌/◌, ◌%◌, Bool, true, cond, ◌&&◌, List, [], ◌∷◌, ◌++◌, eqb, ltb, leb, length, ℤ, pos, negsuc, neg_ℤ, Option, Some, None, option_map}

-- the bytes '0', '9' and '-'
abbrev pub digit_zero : ℕ
digit_zero = 48

abbrev pub digit_nine : ℕ
digit_nine = 57

abbrev pub minus : ℕ
minus = 45

-- whether a byte is a digit, and whether all bytes are
abbrev pub is_digit : ℕ → Bool
is_digit b = leb digit_zero b && leb b digit_nine

unfoldable pub all_digits : List ℕ → Bool
all_digits [] = true
all_digits (b ∷ bs) = is_digit b && all_digits bs

-- the number that digits tell after a number n
unfoldable pub value_of : ℕ → List ℕ → ℕ
value_of n [] = n
value_of n (b ∷ bs) = value_of (10 * n + (b - digit_zero)) bs

-- "A number is 1 to 9 digits, leading zeros allowed"; so none is blank
abbrev pub digits_most : ℕ
digits_most = 9

unfoldable pub number : List ℕ → Option ℕ
number f = cond (leb 1 (length f) && leb (length f) digits_most && all_digits f) (Some (value_of 0 f)) None

-- "a minus sign in front only in a wanted place or distance"
unfoldable pub signed : List ℕ → Option ℤ
signed [] = None
signed (b ∷ bs) =
    cond (eqb b minus) (option_map (λ n. neg_ℤ (pos n)) (number bs))
    (option_map pos (number (b ∷ bs)))

-- "From this release a blank weight is 10, in the text only" (document 02, Item 3)
unfoldable pub weight_of : List ℕ → Option ℤ
weight_of [] = Some (pos 10)
weight_of (b ∷ bs) = option_map pos (number (b ∷ bs))

-- the decimal digits of a number, at most so many
unfoldable pub digits_of : ℕ → ℕ → List ℕ
digits_of zero n = []
digits_of (suc most) n =
    cond (ltb n 10) ((digit_zero + n) ∷ [])
    (digits_of most (n / 10) ++ ((digit_zero + n % 10) ∷ []))

-- a number of 64 bits has at most so many digits
abbrev pub decimal_most : ℕ
decimal_most = 20

-- the decimal digits of a number without leading zeros
abbrev pub decimal : ℕ → List ℕ
decimal n = digits_of decimal_most n

-- with a minus sign where it is below zero
abbrev pub signed_decimal : ℤ → List ℕ
signed_decimal (pos n) = decimal n
signed_decimal (negsuc n) = minus ∷ decimal (suc n)
