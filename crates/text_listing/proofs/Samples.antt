-- The listings of document 01, "Sheet text": the whole of one run, a refused sheet, and a sheet of no labels; those of
-- document 02, Items 3 to 5; and one whose gaps are not all tight.
use mathlib.Core.Path.{◌≡◌, refl}
use mathlib.Core.List.{List, [], ◌∷◌, ◌++◌}
use Prim.Native.Nat.{ℕ}
use lib.IntN.{pos, negsuc}
use Rattle.std.specs.Prelude.{Ok, Err}
use Rattle.single_fractions.specs.Places.{within_places}
use Rattle.exact.specs.Nearest.{round_half_up}
use Rattle.single_fractions.specs.Round.{rounded}
use Rattle.exact.specs.Slack.{euclid, lowest_of}
use Rattle.single_fractions.specs.Slack.{slack_answer}
use Rattle.text_rows.specs.Bytes.{bytes}
use Rattle.text_rows.specs.Numeral.{digits_of}
use Rattle.text_rows.specs.Taking.{no_field}
use Rattle.text_listing.specs.Listing.{Listable, unit_of, place_record, place_records, printed_slack, slack_record, slack_records, refused_record, listing}

-- the records of the document's run
abbrev pub first_record : List ℕ
first_record = bytes "place,0,-3,2,-1\r\n"

abbrev pub second_record : List ℕ
second_record = bytes "place,1,9,2,5\r\n"

abbrev pub slack_record_sample : List ℕ
slack_record_sample = bytes "slack,0,0,1\r\n"

-- its places are minus 3 halves and 9 halves, 6 apart as its gap asks
abbrev pub run : Listable
run = record {
  place_num = negsuc 2 ∷ pos 9 ∷ [];
  place_den = pos 2 ∷ pos 2 ∷ [];
  left = 0 ∷ [];
  right = 1 ∷ [];
  distance = pos 6 ∷ [];
}

pub run_listed : listing (Ok tt) no_field run ≡ first_record ++ second_record ++ slack_record_sample
unfolding place_records place_record slack_records slack_record printed_slack slack_answer lowest_of euclid digits_of unit_of rounded round_half_up within_places
run_listed = refl

-- document 02, Item 3: -1 and 21, 22 apart as the gap asks
abbrev pub mixed_places : Listable
mixed_places = record {
  place_num = negsuc 0 ∷ pos 21 ∷ [];
  place_den = pos 1 ∷ pos 1 ∷ [];
  left = 0 ∷ [];
  right = 1 ∷ [];
  distance = pos 22 ∷ [];
}

abbrev pub mixed_listing : List ℕ
mixed_listing = bytes "place,0,-1,1,-1\r\nplace,1,21,1,21\r\nslack,0,0,1\r\n"

pub mixed_listed : listing (Ok tt) no_field mixed_places ≡ mixed_listing
unfolding place_records place_record slack_records slack_record printed_slack slack_answer lowest_of euclid digits_of unit_of rounded round_half_up within_places
mixed_listed = refl

-- document 02, Item 4: 1/2 and -1/2, the second 1 left of the first as the gap allows; "the pair prints as 1 and 0"
abbrev pub crossing_places : Listable
crossing_places = record {
  place_num = pos 1 ∷ negsuc 0 ∷ [];
  place_den = pos 2 ∷ pos 2 ∷ [];
  left = 0 ∷ [];
  right = 1 ∷ [];
  distance = negsuc 0 ∷ [];
}

abbrev pub crossing_listing : List ℕ
crossing_listing = bytes "place,0,1,2,1\r\nplace,1,-1,2,0\r\nslack,0,0,1\r\n"

pub crossing_listed : listing (Ok tt) no_field crossing_places ≡ crossing_listing
unfolding place_records place_record slack_records slack_record printed_slack slack_answer lowest_of euclid digits_of unit_of rounded round_half_up within_places
crossing_listed = refl

-- document 02, Item 6: wants 0 and 10, and an exact gap of 6
abbrev pub pair_places : Listable
pair_places = record {
  place_num = pos 2 ∷ pos 8 ∷ [];
  place_den = pos 1 ∷ pos 1 ∷ [];
  left = 0 ∷ [];
  right = 1 ∷ [];
  distance = pos 6 ∷ [];
}

abbrev pub pair_listing : List ℕ
pair_listing = bytes "place,0,2,1,2\r\nplace,1,8,1,8\r\nslack,0,0,1\r\n"

pub pair_listed : listing (Ok tt) no_field pair_places ≡ pair_listing
unfolding place_records place_record slack_records slack_record printed_slack slack_answer lowest_of euclid digits_of unit_of rounded round_half_up within_places
pair_listed = refl

-- the places for wants 0, 1, 40 and 41: two gaps are tight, and the third has 37 sixths to spare
abbrev pub pairs : Listable
pairs = record {
  place_num = negsuc 7 ∷ pos 7 ∷ pos 77 ∷ pos 85 ∷ [];
  place_den = pos 3 ∷ pos 3 ∷ pos 2 ∷ pos 2 ∷ [];
  left = 0 ∷ 2 ∷ 1 ∷ [];
  right = 1 ∷ 3 ∷ 2 ∷ [];
  distance = pos 5 ∷ pos 4 ∷ pos 30 ∷ [];
}

pub pairs_listed :
    listing (Ok tt) no_field pairs ≡ bytes "place,0,-8,3,-3\r\nplace,1,7,3,2\r\nplace,2,77,2,39\r\nplace,3,85,2,43\r\n"
    ++ bytes "slack,0,0,1\r\nslack,1,0,1\r\nslack,2,37,6\r\n"
unfolding place_records place_record slack_records slack_record printed_slack slack_answer lowest_of euclid digits_of unit_of rounded round_half_up within_places
pairs_listed = refl

-- no labels and no gaps
abbrev pub none : Listable
none = record { place_num = []; place_den = []; left = []; right = []; distance = [] }

-- a ring is refused with 9
pub ring_listed : listing (Err (record { number = 9; place = 0; ring = 2 })) no_field none ≡ bytes "refused,9,0,0\r\n"
unfolding refused_record digits_of
ring_listed = refl

-- "a sheet of no labels .. prints nothing"
pub none_listed : listing (Ok tt) no_field none ≡ []
unfolding place_records slack_records
none_listed = refl
