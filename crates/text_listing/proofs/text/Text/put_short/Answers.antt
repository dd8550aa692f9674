-- `text_listing::text::Text::put_short` meets its contract: one digit, or two.
use Rattle.std.proofs.Common.{◌≡◌, ◌∙◌, ◌≤◌, ◌<◌, ◌+◌, ◌/◌, ◌%◌, [], ◌∷◌, ◌++◌, List, ℕ, length, ap, arith}
use Rattle.text_rows.specs.Numeral.{digit_zero, decimal}
use Rattle.text_rows.proofs.Decimal.{decimal_below_ten, decimal_by_last}
use Rattle.text_listing.proofs.Appending.{told}
use Rattle.text_listing.proofs.text.Text.put_short.Goals as goal

two_digits : (n : ℕ) → 10 ≤ n → n < 100 → (digit_zero + n / 10) ∷ (digit_zero + n % 10) ∷ [] ≡ decimal n
two_digits n h l =
    ap (λ (d : List ℕ). d ++ ((digit_zero + n % 10) ∷ [])) (decimal_below_ten (n / 10) (omega arith))
    ∙ decimal_by_last n h (omega arith)

pub put-requires : goal.put-requires
put-requires g c = omega (arith, ap length (decimal_below_ten c.args.n c.if-n-lt10.true))

pub returns-then-n-lt10 : goal.returns-then-n-lt10
returns-then-n-lt10 g c = told (decimal_below_ten c.args.n c.if-n-lt10.true) c.put.ensures

pub put_pair-requires : goal.put_pair-requires
put_pair-requires g c = omega (arith, ap length (two_digits c.args.n c.if-n-lt10.false c.requires.0))

pub returns : goal.returns
returns g c = told (two_digits c.args.n c.if-n-lt10.false c.requires.0) c.put_pair.ensures
