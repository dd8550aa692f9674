-- Revisions of one strip, worked out (document 02, Item 7): what the two sums of specs/Moved come to on right places.
-- One test computed over the list, as in Bench. Nothing cites them.
use mathlib.Core.List.{List, [], ◌∷◌, Memᴰ}
use lib.IntN.{pos}
use Rattle.exact.specs.declared.Fraction.{Fraction}
use Rattle.exact.specs.Fraction.{◌≃◌}
use Rattle.exact.specs.Slack.{euclid, lowest_of}
use Rattle.exact.specs.Total.{total}
use Rattle.least_move.specs.Moved.{SameButWants, sum_of_squares, sum_of_products}
use Rattle.least_move.specs.Bench.{Placed, sheet, given, worked_out, minus, ◌over◌, ◌to◌of◌, ◌to◌exactly◌, sheet_of, placement, P1, P3, P4, joined_mixed, RightPlaced}
use Rattle.least_move.proofs.Bench.{Test, granted, ◌on◌, each, equalℤ, placed?, same?}

-- two placed sheets, and the two sums from the one to the other
pub record Revision : Type 0 where
  pub before : Placed
  pub after : Placed
  pub squares : Fraction
  pub products : Fraction

-- both are right, the sheets differ in wants only, and the sums are these
pub record RightRevision (c : Revision) : Type 0 where
  pub before : RightPlaced c.before
  pub after : RightPlaced c.after
  pub same : SameButWants (sheet_of c.before) (sheet_of c.after)
  pub squares : sum_of_squares (sheet_of c.before) (placement c.before) (placement c.after) ≃ c.squares
  pub products : sum_of_products (sheet_of c.before) (sheet_of c.after) (placement c.before) (placement c.after) ≃ c.products

-- P3 to P4: both places go up by 1/2, and one want by 1
abbrev half : Revision
half = record { before = P3; after = P4; squares = pos 1 over 2; products = pos 1 over 2 }

-- P1 with the second want at 20: the gap is no longer tight, and places go up by 5 and 15
abbrev opened : Revision
opened =
    record {
      before = P1;
      after =
          record {
            sheet = sheet (pos 0 ∷ pos 20 ∷ []) (pos 1 ∷ pos 1 ∷ []) (0 to 1 of pos 10 ∷ []);
            places = pos 0 over 1 ∷ pos 20 over 1 ∷ [];
            multipliers = pos 0 over 1 ∷ [];
            source = worked_out;
          };
      squares = pos 250 over 1;
      products = pos 300 over 1;
    }

-- weights 1, 2, 1, an exact gap and one of the other kind; a want goes up and one down, and so do places
abbrev both_ways : Revision
both_ways =
    record {
      before = joined_mixed;
      after =
          record {
            sheet =
                sheet (pos 0 ∷ pos 5 ∷ pos 3 ∷ []) (pos 1 ∷ pos 2 ∷ pos 1 ∷ [])
                (0 to 1 exactly pos 4 ∷ 1 to 2 of pos 3 ∷ []);
            places = minus 1 over 2 ∷ pos 7 over 2 ∷ pos 13 over 2 ∷ [];
            multipliers = pos 1 over 1 ∷ pos 7 over 1 ∷ [];
            source = worked_out;
          };
      squares = pos 61 over 3;
      products = pos 110 over 3;
    }

-- weights 2, 3 and a gap of 0: without the weights the sums would be 25 and 24, and the law false
abbrev weights_count : Revision
weights_count =
    record {
      before =
          record {
            sheet = sheet (pos 5 ∷ pos 0 ∷ []) (pos 2 ∷ pos 3 ∷ []) (0 to 1 of pos 0 ∷ []);
            places = pos 2 over 1 ∷ pos 2 over 1 ∷ [];
            multipliers = pos 12 over 1 ∷ [];
            source = worked_out;
          };
      after =
          record {
            sheet = sheet (pos 5 ∷ pos 6 ∷ []) (pos 2 ∷ pos 3 ∷ []) (0 to 1 of pos 0 ∷ []);
            places = pos 5 over 1 ∷ pos 6 over 1 ∷ [];
            multipliers = pos 0 over 1 ∷ [];
            source = worked_out;
          };
      squares = pos 66 over 1;
      products = pos 72 over 1;
    }

-- joined labels whose wants move by as much, the one up and the other down: they stay
abbrev joined_stay : Revision
joined_stay =
    record {
      before =
          record {
            sheet = sheet (pos 0 ∷ pos 0 ∷ []) (pos 1 ∷ pos 1 ∷ []) (0 to 1 exactly pos 10 ∷ []);
            places = minus 5 over 1 ∷ pos 5 over 1 ∷ [];
            multipliers = pos 10 over 1 ∷ [];
            source = given;
          };
      after =
          record {
            sheet = sheet (pos 3 ∷ minus 3 ∷ []) (pos 1 ∷ pos 1 ∷ []) (0 to 1 exactly pos 10 ∷ []);
            places = minus 5 over 1 ∷ pos 5 over 1 ∷ [];
            multipliers = pos 16 over 1 ∷ [];
            source = given;
          };
      squares = pos 0 over 1;
      products = pos 0 over 1;
    }

unfoldable pub revisions : List Revision
revisions = half ∷ opened ∷ both_ways ∷ weights_count ∷ joined_stay ∷ []

abbrev revision? : (c : Revision) → Test (RightRevision c)
revision? c =
    granted (λ b a s x y. record { before = b; after = a; same = s; squares = x; products = y })
    on placed? c.before
    on placed? c.after
    on same? c.before c.after
    on equalℤ _ _
    on equalℤ _ _

pub revisions_right : (c : Revision) → Memᴰ c revisions → RightRevision c
unfolding revisions total lowest_of euclid sum_of_squares sum_of_products
revisions_right = (each revision? revisions).shows tt
