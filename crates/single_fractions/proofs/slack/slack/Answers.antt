-- Each test is that of the definition, and what passes them all is measured and brought to lowest terms, which are unique.
use Rattle.std.proofs.Common.{◌≡◌, sym, subst, ◌∙◌, ap, true, ◌≤◌, arith, ℤ, nat_abs}
use borrow.Author.Tests.{le-leb, lt-leb}
use mir.ValLaws.{to_z-of_z}
use Rattle.std.specs.Prelude.{Ok}
use Rattle.ground.specs.Limits.{distance_most}
use Rattle.algebra.proofs.Quotient.{kept}
use Rattle.exact.specs.declared.Fraction.{Fraction}
use Rattle.exact.specs.Fraction.{IsFraction, Reduced}
use Rattle.exact.specs.Slack.{difference}
use Rattle.exact.proofs.Slacks.{difference_above, lowest_is}
use Rattle.single_fractions.specs.Places.{within_places}
use Rattle.single_fractions.specs.Slack.{slack_answer}
use Rattle.single_fractions.proofs.Slacks.{left_refused, right_refused, distance_refused, slack_of_places, place_measurable}
use Rattle.single_fractions.proofs.slack.slack.Goals as goal

-- a fraction as its two numbers are read back
abbrev read_back : Fraction → Fraction
read_back q = record { num = kept q.num; den = kept q.den }

module _ (l r : Fraction) (g : ℤ) (left : within_places l.num l.den ≡ true) (right : within_places r.num r.den ≡ true) where
  apart_above : IsFraction (difference l r g)
  apart_above = difference_above l r g (place_measurable l left).above (place_measurable r right).above

  read_above : (q : Fraction) → read_back q ≡ difference l r g → IsFraction (read_back q)
  read_above q e = subst IsFraction (sym e) apart_above

  gives : (q s : Fraction) → read_back q ≡ difference l r g → nat_abs g ≤ distance_most → Reduced (read_back q) s → Ok s ≡ slack_answer l r g
  gives q s e most k =
      ap Ok (lowest_is (difference l r g) s apart_above (subst (λ (p : Fraction). Reduced p s) e k))
      ∙ sym (slack_of_places l r g left right (le-leb (nat_abs g) distance_most most))

pub returns-then-not-within_places : goal.returns-then-not-within_places
returns-then-not-within_places c = grind (arith, to_z-of_z, left_refused, right_refused)

pub returns-then-unsigned_abs : goal.returns-then-unsigned_abs
returns-then-unsigned_abs c = grind (arith, to_z-of_z, lt-leb, distance_refused)

pub between-apart-requires : goal.between-apart-requires
between-apart-requires c =
    let left : within_places c.args.left.num c.args.left.den ≡ true = grind (arith, to_z-of_z) in
    let right : within_places c.args.right.num c.args.right.den ≡ true = grind (arith, to_z-of_z) in
    (place_measurable c.args.left left, place_measurable c.args.right right, grind (arith, to_z-of_z))

pub lowest-requires : goal.lowest-requires
lowest-requires c =
    let left : within_places c.args.left.num c.args.left.den ≡ true = grind (arith, to_z-of_z) in
    let right : within_places c.args.right.num c.args.right.den ≡ true = grind (arith, to_z-of_z) in
    read_above c.args.left c.args.right c.args.distance left right c.between-apart.result (grind (arith, to_z-of_z))

pub returns : goal.returns
returns c =
    let left : within_places c.args.left.num c.args.left.den ≡ true = grind (arith, to_z-of_z) in
    let right : within_places c.args.right.num c.args.right.den ≡ true = grind (arith, to_z-of_z) in
    gives c.args.left c.args.right c.args.distance left right c.between-apart.result c.lowest.result (grind (arith, to_z-of_z)) (grind (arith, to_z-of_z)) c.lowest.ensures
