-- Listings that a wrong writer would print otherwise (document 01, "Sheet text"; document 02, Items 1, 4 and 5).
use mathlib.Core.Path.{◌≡◌, refl, ap}
use mathlib.Core.Logic.{◌≢◌}
use mathlib.Core.List.{List, [], ◌∷◌, ◌++◌}
use Prim.Native.Nat.{ℕ}
use native.Mathlib.Omega.{arith}
use lib.ListN.{length, get_or, replicate}
use lib.IntN.{ℤ, pos, negsuc, nat_abs}
use Rattle.std.specs.Prelude.{Ok}
use Rattle.exact.specs.declared.Fraction.{Fraction}
use Rattle.exact.specs.Fraction.{whole}
use Rattle.single_fractions.specs.Places.{within_places}
use Rattle.exact.specs.Nearest.{round_half_up}
use Rattle.single_fractions.specs.Round.{rounded}
use Rattle.exact.specs.Slack.{euclid, lowest_of}
use Rattle.single_fractions.specs.Slack.{slack_answer}
use Rattle.text_rows.specs.Bytes.{bytes}
use Rattle.text_rows.specs.Numeral.{digits_of}
use Rattle.text_rows.specs.Taking.{no_field}
use Rattle.text_listing.specs.Listing.{unit_of, place_record, place_records, printed_slack, refused_record, slack_record, slack_records}
use Rattle.text_listing.specs.Listing.{Listable, listing, listed_as, not_listed, listed_in}
use Rattle.text_listing.proofs.Samples.{first_record, second_record, slack_record_sample, run}

-- texts that differ in a byte, or in length
differ : {s t : List ℕ} (k : ℕ) → get_or s k 0 ≢ get_or t k 0 → s ≢ t
differ k h e = h (ap (λ (l : List ℕ). get_or l k 0) e)

longer : {s t : List ℕ} → length s ≢ length t → s ≢ t
longer h e = h (ap length e)

-- the numerator does not stand for the denominator: 9 halves are not 9 ninths
pub numerator_twice : place_record 1 (pos 9) (pos 2) (unit_of (pos 9) (pos 2)) ≢ bytes "place,1,9,9,5\r\n"
unfolding place_record digits_of unit_of rounded round_half_up within_places
numerator_twice = differ 10 (λ e. omega arith)

-- a record does not end in LF and CR
pub feed_return : place_record 1 (pos 9) (pos 2) (unit_of (pos 9) (pos 2)) ≢ bytes "place,1,9,2,5\n\r"
unfolding place_record digits_of unit_of rounded round_half_up within_places
feed_return = differ 13 (λ e. omega arith)

-- halves do not go away from zero: -3/2 has whole unit -1, and not -2; -1/2 has 0, and neither -1 nor -0
pub away_from_zero : place_record 0 (negsuc 2) (pos 2) (unit_of (negsuc 2) (pos 2)) ≢ bytes "place,0,-3,2,-2\r\n"
unfolding place_record digits_of unit_of rounded round_half_up within_places
away_from_zero = differ 14 (λ e. omega arith)

pub half_away_from_zero : place_record 1 (negsuc 0) (pos 2) (unit_of (negsuc 0) (pos 2)) ≢ bytes "place,1,-1,2,-1\r\n"
unfolding place_record digits_of unit_of rounded round_half_up within_places
half_away_from_zero = differ 13 (λ e. omega arith)

pub minus_zero : place_record 1 (negsuc 0) (pos 2) (unit_of (negsuc 0) (pos 2)) ≢ bytes "place,1,-1,2,-0\r\n"
unfolding place_record digits_of unit_of rounded round_half_up within_places
minus_zero = differ 13 (λ e. omega arith)

-- a place outside the limits has whole unit 0, and not that of its fraction
pub unit_past : unit_of (pos 4801) (pos 4801) ≡ pos 0
unfolding unit_of rounded within_places
unit_past = refl

-- ---- the slacks

-- they do not stand in front of the places
pub slacks_first : listing (Ok tt) no_field run ≢ slack_record_sample ++ first_record ++ second_record
unfolding place_records place_record slack_records slack_record printed_slack slack_answer lowest_of euclid digits_of unit_of rounded round_half_up within_places
slacks_first = differ 0 (λ e. omega arith)

-- no gap is left out
pub gap_missed : listing (Ok tt) no_field run ≢ first_record ++ second_record
unfolding place_records place_record slack_records slack_record printed_slack slack_answer lowest_of euclid digits_of unit_of rounded round_half_up within_places
gap_missed = longer (λ e. omega arith)

-- two labels and a gap of 1
abbrev over : (place_num place_den : List ℤ) (left right : ℕ) → Listable
over place_num place_den left right =
    record { place_num = place_num; place_den = place_den; left = left ∷ []; right = right ∷ []; distance = pos 1 ∷ [] }

abbrev places : (left right : ℕ) → Listable
places left right = over (pos 1 ∷ pos 3 ∷ []) (pos 1 ∷ pos 1 ∷ []) left right

-- from 1 to 3 the gap has 1 to spare, and from 3 to 1 it is broken by 3
pub places_between : printed_slack (places 0 1) 0 ≡ whole (pos 1)
unfolding printed_slack slack_answer lowest_of euclid within_places
places_between = refl

pub places_turned : printed_slack (places 1 0) 0 ≡ whole (negsuc 2)
unfolding printed_slack slack_answer lowest_of euclid within_places
places_turned = refl

-- an end that is no label has no place: 0/1 is printed, and not what a place of 0 would leave
pub right_no_label : printed_slack (places 0 2) 0 ≡ whole (pos 0)
unfolding printed_slack
right_no_label = refl

pub left_no_label : printed_slack (places 2 1) 0 ≡ whole (pos 0)
unfolding printed_slack
left_no_label = refl

pub place_made_up : printed_slack (places 0 2) 0 ≢ whole (negsuc 1)
unfolding printed_slack
place_made_up e = let z : ◌≡◌ {A = ℕ} 0 2 = ap (λ (q : Fraction). nat_abs q.num) e in omega arith

-- and so for a place outside the limits
pub numerator_past : printed_slack (over (pos 1 ∷ pos 5472000001 ∷ []) (pos 1 ∷ pos 1 ∷ []) 0 1) 0 ≡ whole (pos 0)
unfolding printed_slack slack_answer within_places
numerator_past = refl

pub denominator_past : printed_slack (over (pos 1 ∷ pos 3 ∷ []) (pos 4801 ∷ pos 1 ∷ []) 0 1) 0 ≡ whole (pos 0)
unfolding printed_slack slack_answer within_places
denominator_past = refl

-- ---- the refused record

-- a bad number in the fourth field of line 31: it has four fields and not three, the line before the field, and the field
-- counted from 1. That of a ring is `ring_listed` in Samples: its length does not stand for the field.
pub slip_listed : refused_record (record { number = 14; place = 31; ring = 0 }) 4 ≡ bytes "refused,14,31,4\r\n"
unfolding refused_record digits_of
slip_listed = refl

-- ---- what is refused

-- one label, and a gap from it to itself
abbrev one : Listable
one = record { place_num = pos 9 ∷ []; place_den = pos 2 ∷ []; left = 0 ∷ []; right = 0 ∷ []; distance = pos 0 ∷ [] }

-- a buffer of the listing's length is written
pub long_enough : listed_in (Ok tt) no_field one (replicate 28 0) ≡ listed_as (Ok 28) (bytes "place,0,9,2,5\r\nslack,0,0,1\r\n")
unfolding listed_in place_records place_record slack_records slack_record printed_slack slack_answer lowest_of euclid digits_of unit_of rounded round_half_up within_places
long_enough = refl

-- a buffer one byte short is refused with 4 and stays
pub one_byte_short : listed_in (Ok tt) no_field one (replicate 27 0) ≡ not_listed 4 (replicate 27 0)
unfolding listed_in place_records place_record slack_records slack_record printed_slack slack_answer lowest_of euclid digits_of unit_of rounded round_half_up within_places
one_byte_short = refl

-- so many labels and gaps, all zeros
abbrev zeros : (labels gaps right distance : ℕ) → Listable
zeros labels gaps right distance = record {
  place_num = replicate labels (pos 0);
  place_den = replicate labels (pos 1);
  left = replicate gaps 0;
  right = replicate right 0;
  distance = replicate distance (pos 0);
}

-- 193 gaps are refused with 2, but after 49 labels with 1; the buffer stays
pub too_many_gaps : listed_in (Ok tt) no_field (zeros 1 193 193 193) (replicate 3 7) ≡ not_listed 2 (replicate 3 7)
unfolding listed_in
too_many_gaps = refl

pub labels_first : listed_in (Ok tt) no_field (zeros 49 193 193 193) (replicate 3 7) ≡ not_listed 1 (replicate 3 7)
unfolding listed_in
labels_first = refl

-- right labels or distances that are not as many as the left labels are refused with 3
pub right_short : listed_in (Ok tt) no_field (zeros 1 2 1 2) (replicate 3 7) ≡ not_listed 3 (replicate 3 7)
unfolding listed_in
right_short = refl

pub distance_long : listed_in (Ok tt) no_field (zeros 1 2 2 3) (replicate 3 7) ≡ not_listed 3 (replicate 3 7)
unfolding listed_in
distance_long = refl
