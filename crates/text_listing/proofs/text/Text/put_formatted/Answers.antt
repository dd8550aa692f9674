-- `text_listing::text::Text::put_formatted` meets its contract: the digits are those of the number, and nothing else is put.
use Rattle.std.proofs.Common.{◌≡◌, ◌^◌, ◌<◌, ◌+◌, ◌-◌, ◌++◌, ◌∙◌, [], List, ℕ, length, take, drop, take_all, append-nil, ap, arith}
use Rattle.std.specs.Fmt as printed
use Rattle.std.proofs.lemmas.Fmt.{length-decimal-le}
use Rattle.text_rows.specs.Numeral.{decimal, decimal_most}
use Rattle.text_listing.proofs.Appending.{told}
use Rattle.text_listing.proofs.PrintedDigits.{same_digits}
use Rattle.text_listing.proofs.text.Text.put_formatted.Goals as goal

-- what stands from the start on is the number
told_from :
    (n start : ℕ) (buf : List ℕ) → n < 2 ^ 64 → start + length (printed.decimal n) ≡ decimal_most
    → drop start buf ≡ printed.decimal n ++ [] → take (decimal_most - start) (drop start buf) ≡ decimal n
told_from n start buf f e w =
    let same : drop start buf ≡ printed.decimal n = w ∙ append-nil (printed.decimal n) in
    take_all (decimal_most - start) (drop start buf) (omega (arith, ap length same)) ∙ same ∙ same_digits n f

pub write_digits-start-requires : goal.write_digits-start-requires
write_digits-start-requires g c = (length-decimal-le 20 c.args.n (omega arith) (omega (arith, c.ranges.n.fits)) c.ranges.n.fits, omega arith)

pub put-requires : goal.put-requires
put-requires g c =
    let w = c.write_digits-start in
    omega (arith, ap length (told_from c.args.n w.result w.new.buf c.ranges.n.fits w.ensures.start w.ensures.written))

pub returns : goal.returns
returns g c =
    let w = c.write_digits-start in
    told (told_from c.args.n w.result w.new.buf c.ranges.n.fits w.ensures.start w.ensures.written) c.put.ensures
