-- Sheets whose wants have moved, and laws of two sheets and a placement of each (document 01, demand 3; document 02, Items 6
-- and 7). The laws are meant for placements in fractions, whose denominators are above zero; where they hold is said at the
-- end.
use Rattle.std.specs.Prelude.{◌≡◌, ◌<◌, ℤ, pos, ◌-ℤ◌, ◌≤ℤ◌}
use Rattle.exact.specs.declared.Fraction.{Fraction}
use Rattle.exact.specs.Fraction.{IsFraction, LowestTerms, ◌≼◌, ◌⊖◌, ◌⊛◌, whole, square}
use Rattle.exact.specs.Total.{total}
use Rattle.ground.specs.declared.Label.{Label}
use Rattle.ground.specs.declared.GapNumber.{GapNumber}
use Rattle.least_move.specs.Sheet.{Sheet, Proper, label}
use Rattle.least_move.specs.Placement.{Placement, LeastMove}

-- at every label of the sheet
abbrev pub EachLabel : Sheet → (Label → Type 0) → Type 0
EachLabel s P = (i : Label) → i.0 < s.labels → P i

-- "as many labels and as many gaps and agree, number by number, in weight, left, right and distance" (document 01), and "in
-- kind too" (document 02, Item 6): the sheets "differ in wants only" (Item 7)
pub record SameButWants (s t : Sheet) : Type 0 where
  pub labels : t.labels ≡ s.labels
  pub gaps : t.gaps ≡ s.gaps
  pub weight : EachLabel s (λ i. t.weight i ≡ s.weight i)
  pub gap : (e : GapNumber) → e.0 < s.gaps → t.gap e ≡ s.gap e

-- ---- the largest move (document 01)

-- the two differ by at most the distance: "Differences are taken without sign"
abbrev pub Within : Fraction → Fraction → Fraction → Type 0
Within r a b = (a ⊖ b ≼ r) × (b ⊖ a ≼ r)

-- no place moves by more than a distance if no want does, "and a distance is any fraction from zero up": places are
-- nonexpansive in the largest difference
abbrev pub LargestMove : (s t : Sheet) (p q : Placement) → Type 0
LargestMove s t p q =
    (r : Fraction) → IsFraction r → whole (pos 0) ≼ r →
    EachLabel s (λ i. Within r (whole (s.wanted i)) (whole (t.wanted i))) → EachLabel s (λ i. Within r (p i) (q i))

-- where no want moves, every place is the same numerator over the same denominator
abbrev pub SameNumbers : (s t : Sheet) (p q : Placement) → Type 0
SameNumbers s t p q = EachLabel s (λ i. t.wanted i ≡ s.wanted i) → EachLabel s (λ i. q i ≡ p i)

-- ---- the two laws for moved wants (document 02, Item 7)

-- no want goes down from the first sheet to the second
abbrev pub NoWantDown : (s t : Sheet) → Type 0
NoWantDown s t = EachLabel s (λ i. s.wanted i ≤ℤ t.wanted i)

-- no place goes down from the first placement to the second
abbrev pub NoPlaceDown : (s : Sheet) (p q : Placement) → Type 0
NoPlaceDown s p q = EachLabel s (λ i. p i ≼ q i)

-- a label's change of want and its change of place, with their signs
abbrev pub want_change : (s t : Sheet) → Label → ℤ
want_change s t i = t.wanted i -ℤ s.wanted i

abbrev pub place_change : (p q : Placement) → Label → Fraction
place_change p q i = q i ⊖ p i

-- "over all labels, the sum of weight times squared change of place"
unfoldable pub sum_of_squares : (s : Sheet) (p q : Placement) → Fraction
sum_of_squares s p q = total s.labels (λ k. s.weight (label k) ⊛ square (place_change p q (label k)))

-- "the sum of weight times change of place times change of want"; here the whole number comes first
unfoldable pub sum_of_products : (s t : Sheet) (p q : Placement) → Fraction
sum_of_products s t p q =
    total s.labels (λ k. s.weight (label k) ⊛ (want_change s t (label k) ⊛ place_change p q (label k)))

-- "if no want goes down, no place goes down": places are monotone in the wants. The same from the second to the first, since
-- a contract names the two in one order; the sums are the same either way.
-- And the first sum "is at most" the second: places are firmly nonexpansive in the weighted norm.
pub record MovedWants (s t : Sheet) (p q : Placement) : Type 0 where
  pub rising : NoWantDown s t → NoPlaceDown s p q
  pub falling : NoWantDown t s → NoPlaceDown t q p
  pub squares : sum_of_squares s p q ≼ sum_of_products s t p q

-- ---- where they hold

-- the laws together, the last where the places are in lowest terms
pub record RevisionLaws (s t : Sheet) (p q : Placement) : Type 0 where
  pub largest_move : LargestMove s t p q
  pub moved_wants : MovedWants s t p q
  pub same_numbers : EachLabel s (λ i. LowestTerms (p i)) → EachLabel s (λ i. LowestTerms (q i)) → SameNumbers s t p q

-- They hold of the least moves of any two sheets that differ in wants only and have weights above zero and gaps between
-- their own labels, whatever laid them out (`least_move_laws` in proofs/Moved)
abbrev pub LeastMoveLaws : Type 0
LeastMoveLaws =
    (s t : Sheet) (p q : Placement) → Proper s → SameButWants s t → LeastMove s p → LeastMove t q → RevisionLaws s t p q
