-- The number and the whole number are those of the rounding.
use Rattle.std.proofs.Common.{◌≡◌, ◌∙◌, ap, w64, to_z-of_z}
use Rattle.ground.specs.Answers.{number_of}
use Rattle.single_fractions.specs.Round.{Rounded, rounded, whole_of}
use Rattle.dirmoog_c.proofs.Telling.{told_at, round_place}
use Rattle.dirmoog_c.proofs.round_told.Goals as goal

pub returns : goal.returns
returns c =
    let a = c.args in
    -- the answer is that of the fraction given: neither number changes on the way
    let answered : c.round-answer.result ≡ rounded a.ties a.num a.den =
    rw (to_z-of_z c.ranges.num, to_z-of_z c.ranges.den) at c.round-answer.ensures in
    record {
      returned = c.number_of.ensures ∙ ap (λ (r : Rounded). number_of r) answered;
      out_told = told_at a.out.now 0 c.put.ensures
          (to_z-of_z {w = w64} (record { sfits = c.whole_of.type_inv }) ∙ c.whole_of.ensures ∙ ap whole_of answered);
      no_place = round_place a.ties a.num a.den;
    }
