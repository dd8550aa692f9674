-- Wrong second calls on a revision, P4 after P3: each breaks what is promised of the two (specs/TwoCalls), in whichever forms they
-- are lent. The laws for moved wants alone do not ask for a least move: a layout that stays as it was meets them. So the promise
-- of each call stands beside them. Nothing cites them.
use Rattle.std.specs.Prelude.{Err}
use mathlib.Core.Path.{◌≡◌, sym, ◌∙◌, ap}
use native.Mathlib.Omega.{arith}
use Prim.Native.Nat.{ℕ}
use lib.Dec.{lit<}
use lib.IntN.{nat_abs}
use Rattle.exact.specs.declared.Fraction.{Fraction}
use Rattle.exact.specs.Total.{total}
use Rattle.ground.specs.declared.Refusal.{Refusal}
use Rattle.ground.specs.Answers.{Answer}
use Rattle.least_move.specs.Sheet.{label}
use Rattle.least_move.specs.Moved.{MovedWants, sum_of_squares, sum_of_products}
use Rattle.least_move.specs.Bench.{bench, P3, P4, placement, written}
use Rattle.exact.proofs.Fractions.{≼_refl}
use Rattle.sheet_checks.specs.Lent.{Written, place_of}
use Rattle.layout.specs.TwoCalls.{BothPromised}
use Rattle.layout.specs.BenchCalls.{Form, lend, LentWith, EachCall, PlacedSo}
use Rattle.layout.proofs.Facts.{not_both}
use Rattle.layout.proofs.BenchCalls.{case_answers}
use Rattle.layout.proofs.WrongParts.{apart, zeros}

-- what calls on the two sheets come to
P3-lays : EachCall P3.sheet (PlacedSo P3)
unfolding bench
P3-lays = case_answers 2 (lit< tt)

P4-lays : EachCall P4.sheet (PlacedSo P4)
unfolding bench
P4-lays = case_answers 3 (lit< tt)

-- the places of P3 handed out again meet the laws for moved wants
pub staying_is_lawful : MovedWants (written P3.sheet) (written P4.sheet) (placement P3) (placement P3)
unfolding sum_of_squares sum_of_products total
staying_is_lawful =
    record {
      rising = λ _ i _. ≼_refl (placement P3 i);
      falling = λ _ i _. ≼_refl (placement P3 i);
      squares = record { le = tt };
    }

module _ (f f' : Form) (w w' : Written) (a a' : Answer) (after after' : Written) (l : LentWith f P3.sheet w) (l' : LentWith f' P4.sheet w')
    (both : BothPromised (lend f P3.sheet) w a after (lend f' P4.sheet) w' a' after') where
  first_so : PlacedSo P3 a after
  first_so = P3-lays f w a after l both.first

  second_so : PlacedSo P4 a' after'
  second_so = P4-lays f' w' a' after' l' both.second

  -- a second call that hands out the places of the first
  pub stays_as_it_was : place_of after' (label 0) ≡ place_of after (label 0) → ⊥
  stays_as_it_was again =
      apart {q = placement P3 (label 0)} {r = placement P4 (label 0)} (λ e. omega arith)
      (again ∙ first_so.places (label 0) (lit< tt)) (second_so.places (label 0) (lit< tt))

  -- one that refuses the revision
  pub refuses_revision : {q : Refusal} → a' ≡ Err q → ⊥
  refuses_revision refused = not_both second_so.answered refused

  -- one that writes nothing, into buffers of zeros
  pub leaves_zeros : w' ≡ zeros P4.sheet → after' ≡ w' → ⊥
  leaves_zeros blank nothing =
      let denominators : ◌≡◌ {A = ℕ} 0 1 =
      ap (λ (left : Written). nat_abs (place_of left (label 0)).den) (sym (nothing ∙ blank)) ∙ ap (λ (q : Fraction). nat_abs q.den) (second_so.places (label 0) (lit< tt)) in
      omega arith
