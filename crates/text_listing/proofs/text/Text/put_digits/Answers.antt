-- `text_listing::text::Text::put_digits` meets its contract: up to four digits by pairs, more as they are formatted.
use Rattle.std.proofs.Common.{◌≡◌, ◌∙◌, ◌≤◌, ◌<◌, ◌+◌, ◌/◌, ◌%◌, ◌^◌, [], ◌∷◌, ◌++◌, List, ℕ, length, length-append, append_assoc, sym, ap, arith}
use Rattle.text_rows.specs.Numeral.{digit_zero, decimal}
use Rattle.text_rows.proofs.Decimal.{decimal_by_last}
use Rattle.text_listing.proofs.Appending.{longer, then, told}
use Rattle.text_listing.proofs.text.Text.put_digits.Goals as goal

-- two digits
abbrev pair : ℕ → List ℕ
pair n = (digit_zero + n / 10) ∷ (digit_zero + n % 10) ∷ []

-- the digits of a hundredth, then two more
by_pair : (n : ℕ) → 100 ≤ n → n < 2 ^ 64 → decimal (n / 100) ++ pair (n % 100) ≡ decimal n
by_pair n h f =
    let front : n / 100 ≡ n / 10 / 10 = omega arith in
    let tens : n % 100 / 10 ≡ n / 10 % 10 = omega arith in
    let ones : n % 100 % 10 ≡ n % 10 = omega arith in
    rw (front, tens, ones)
    (sym (append_assoc (decimal (n / 10 / 10)) ((digit_zero + n / 10 % 10) ∷ []) ((digit_zero + n % 10) ∷ []))
    ∙ ap (λ (d : List ℕ). d ++ ((digit_zero + n % 10) ∷ [])) (decimal_by_last (n / 10) (omega arith) (omega arith))
    ∙ decimal_by_last n (omega arith) f)

-- so it is two digits longer
two_more : (n : ℕ) → 100 ≤ n → n < 2 ^ 64 → length (decimal n) ≡ length (decimal (n / 100)) + 2
two_more n h f = sym (ap length (by_pair n h f)) ∙ length-append (decimal (n / 100)) (pair (n % 100))

pub put_short-requires-then-n-lt10000 : goal.put_short-requires-then-n-lt10000
put_short-requires-then-n-lt10000 g c = omega (arith, two_more c.args.n c.if-n-lt100.false c.ranges.n.fits)

pub put_pair-requires : goal.put_pair-requires
put_pair-requires g c = omega (arith, longer c.put_short-then-n-lt10000.ensures, two_more c.args.n c.if-n-lt100.false c.ranges.n.fits)

pub returns-then-n-lt10000 : goal.returns-then-n-lt10000
returns-then-n-lt10000 g c = told (by_pair c.args.n c.if-n-lt100.false c.ranges.n.fits) (then c.put_short-then-n-lt10000.ensures c.put_pair.ensures)
