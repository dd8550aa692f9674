-- Lines that a wrong reader would take for something else, by computation (document 01, "Sheet text"; document 02,
-- Items 3, 5 and 6).
use Prim.Native.Nat.{ℕ}
use mathlib.Core.Path.{◌≡◌, refl, ap}
use mathlib.Core.Logic.{◌≢◌}
use mathlib.Core.List.{[], ◌∷◌}
use native.Mathlib.Omega.{arith}
use lib.IntN.{pos, negsuc}
use Rattle.ground.specs.Kinds.{at_least_byte, exactly_byte}
use Rattle.text_rows.specs.declared.Earlier.{Earlier}
use Rattle.text_rows.specs.declared.Row.TheVariants.{Label, Gap}
use Rattle.std.specs.Prelude.{Ok, Err}
use Rattle.text_rows.specs.Bytes.{bytes}
use Rattle.text_rows.specs.Lines.{lines, fields}
use Rattle.text_rows.specs.Numeral.{all_digits, value_of, number, signed, weight_of}
use Rattle.text_rows.specs.Taking.{Taken, bad, no_field, same_bytes, row_of, taken}

-- ---- lines

-- a CR without a LF does not end a line
pub return_alone : lines (bytes "a\rb") ≡ bytes "a\rb" ∷ []
unfolding lines
return_alone = refl

-- a LF does, alone or after a CR, and nothing follows the last end
pub feeds_end : lines (bytes "a\nb\r\n") ≡ bytes "a" ∷ bytes "b" ∷ []
unfolding lines
feeds_end = refl

-- ---- records that are taken

-- after so many labels
abbrev after : ℕ → Earlier
after labels = record { labels = labels }

-- places and distances may have a minus sign, and a blank weight is 10 (document 02, Item 3)
pub good_label : taken (after 0) (bytes "label,0,-7,") ≡ Ok (Label (record { wanted = negsuc 6; weight = pos 10 }))
unfolding fields all_digits value_of number signed weight_of same_bytes row_of
good_label = refl

-- it is as if the ten were typed
pub blank_as_ten : taken (after 0) (bytes "label,0,-7,") ≡ taken (after 0) (bytes "label,0,-7,10")
unfolding fields all_digits value_of number signed weight_of same_bytes row_of
blank_as_ten = refl

-- a gap may come before the labels it names
pub good_gap : taken (after 0) (bytes "gap,1,0,-20") ≡ Ok (Gap (record { left = 1; right = 0; distance = negsuc 19; kind = at_least_byte }))
unfolding fields all_digits value_of number signed weight_of same_bytes row_of
good_gap = refl

-- the word same makes it exact, and changes nothing else (document 02, Item 6)
pub good_same : taken (after 0) (bytes "same,1,0,-20") ≡ Ok (Gap (record { left = 1; right = 0; distance = negsuc 19; kind = exactly_byte }))
unfolding fields all_digits value_of number signed weight_of same_bytes row_of
good_same = refl

-- so it is not read as one of at least its distance
abbrev kind_taken : Taken → ℕ
kind_taken (Ok (Gap g)) = g.kind
kind_taken (Ok (Label r)) = at_least_byte
kind_taken (Err b) = at_least_byte

pub same_not_gap : taken (after 0) (bytes "same,0,1,6") ≢ taken (after 0) (bytes "gap,0,1,6")
unfolding fields all_digits value_of number signed weight_of same_bytes row_of
same_not_gap e = let kinds : exactly_byte ≡ at_least_byte = ap kind_taken e in omega arith

-- ---- 10: "a line without four fields"

-- three are too few, and so is one, the blank field of a blank line
pub three_fields : taken (after 0) (bytes "label,0,0") ≡ bad 10 no_field
unfolding fields all_digits value_of number signed weight_of same_bytes row_of
three_fields = refl

pub blank_line : taken (after 0) (bytes "") ≡ bad 10 no_field
unfolding fields all_digits value_of number signed weight_of same_bytes row_of
blank_line = refl

-- a fifth field, even a blank one, is one too many
pub five_fields : taken (after 0) (bytes "label,0,0,1,") ≡ bad 10 no_field
unfolding fields all_digits value_of number signed weight_of same_bytes row_of
five_fields = refl

-- 10 comes before 13 and 14: neither the word nor a number is looked at
pub count_before_word : taken (after 0) (bytes "x,0") ≡ bad 10 no_field
unfolding fields all_digits value_of number signed weight_of same_bytes row_of
count_before_word = refl

pub count_before_number : taken (after 0) (bytes "x,y,z,1,") ≡ bad 10 no_field
unfolding fields all_digits value_of number signed weight_of same_bytes row_of
count_before_number = refl

-- ---- 13: "A first field that is neither kind"

-- words are compared byte for byte
pub capital_word : taken (after 0) (bytes "Gap,0,1,6") ≡ bad 13 1
unfolding fields all_digits value_of number signed weight_of same_bytes row_of
capital_word = refl

pub capital_same : taken (after 0) (bytes "Same,0,1,6") ≡ bad 13 1
unfolding fields all_digits value_of number signed weight_of same_bytes row_of
capital_same = refl

-- a word with the start of another is none
pub longer_same : taken (after 0) (bytes "same ,0,1,6") ≡ bad 13 1
unfolding fields all_digits value_of number signed weight_of same_bytes row_of
longer_same = refl

pub quoted_word : taken (after 0) (bytes "\"label\",0,0,1") ≡ bad 13 1
unfolding fields all_digits value_of number signed weight_of same_bytes row_of
quoted_word = refl

pub blank_word : taken (after 0) (bytes ",0,0,1") ≡ bad 13 1
unfolding fields all_digits value_of number signed weight_of same_bytes row_of
blank_word = refl

-- 13 comes before 14 and 15
pub word_before_number : taken (after 0) (bytes "x,y,z,") ≡ bad 13 1
unfolding fields all_digits value_of number signed weight_of same_bytes row_of
word_before_number = refl

-- ---- 14: "a number that breaks its rule", at its first bad field

-- a blank number of a label, a signed one, and one of ten digits
pub blank_number : taken (after 0) (bytes "label,,0,1") ≡ bad 14 2
unfolding fields all_digits value_of number signed weight_of same_bytes row_of
blank_number = refl

pub signed_number : taken (after 0) (bytes "label,-0,0,1") ≡ bad 14 2
unfolding fields all_digits value_of number signed weight_of same_bytes row_of
signed_number = refl

pub ten_zeros : taken (after 0) (bytes "label,0000000000,0,1") ≡ bad 14 2
unfolding fields all_digits value_of number signed weight_of same_bytes row_of
ten_zeros = refl

-- no number has a plus sign
pub plus_sign : taken (after 0) (bytes "label,0,+5,1") ≡ bad 14 3
unfolding fields all_digits value_of number signed weight_of same_bytes row_of
plus_sign = refl

-- a blank place is neither 0 nor 1
pub blank_place : taken (after 0) (bytes "label,0,,1") ≡ bad 14 3
unfolding fields all_digits value_of number signed weight_of same_bytes row_of
blank_place = refl

-- ten digits are no number; nine are, leading zeros among them
pub ten_digits : taken (after 0) (bytes "label,0,0000000012,1") ≡ bad 14 3
unfolding fields all_digits value_of number signed weight_of same_bytes row_of
ten_digits = refl

pub nine_digits : taken (after 0) (bytes "label,0,000000012,1") ≡ Ok (Label (record { wanted = pos 12; weight = pos 1 }))
unfolding fields all_digits value_of number signed weight_of same_bytes row_of
nine_digits = refl

-- a space is no blank weight, a weight has no minus sign, and a CR belongs to its field
pub space_for_weight : taken (after 0) (bytes "label,0,0, ") ≡ bad 14 4
unfolding fields all_digits value_of number signed weight_of same_bytes row_of
space_for_weight = refl

pub weight_below_zero : taken (after 0) (bytes "label,0,0,-1") ≡ bad 14 4
unfolding fields all_digits value_of number signed weight_of same_bytes row_of
weight_below_zero = refl

pub return_in_weight : taken (after 0) (bytes "label,0,0,1\r") ≡ bad 14 4
unfolding fields all_digits value_of number signed weight_of same_bytes row_of
return_in_weight = refl

-- the first bad field is told, and not the last: of three, and of the last two
pub first_of_three : taken (after 0) (bytes "label,x,y,z") ≡ bad 14 2
unfolding fields all_digits value_of number signed weight_of same_bytes row_of
first_of_three = refl

pub first_of_two : taken (after 0) (bytes "label,0,y,z") ≡ bad 14 3
unfolding fields all_digits value_of number signed weight_of same_bytes row_of
first_of_two = refl

-- so with a gap, whose left and right labels have no sign either
pub gap_left : taken (after 0) (bytes "gap,-1,y,z") ≡ bad 14 2
unfolding fields all_digits value_of number signed weight_of same_bytes row_of
gap_left = refl

pub gap_right : taken (after 0) (bytes "gap,1,-1,z") ≡ bad 14 3
unfolding fields all_digits value_of number signed weight_of same_bytes row_of
gap_right = refl

pub gap_distance : taken (after 0) (bytes "gap,1,1,") ≡ bad 14 4
unfolding fields all_digits value_of number signed weight_of same_bytes row_of
gap_distance = refl

-- and with an exact one, after 10
pub same_count : taken (after 0) (bytes "same,0,1") ≡ bad 10 no_field
unfolding fields all_digits value_of number signed weight_of same_bytes row_of
same_count = refl

pub same_left : taken (after 0) (bytes "same,-1,y,z") ≡ bad 14 2
unfolding fields all_digits value_of number signed weight_of same_bytes row_of
same_left = refl

pub same_right : taken (after 0) (bytes "same,0,x,6") ≡ bad 14 3
unfolding fields all_digits value_of number signed weight_of same_bytes row_of
same_right = refl

pub same_distance : taken (after 0) (bytes "same,0,1,+6") ≡ bad 14 4
unfolding fields all_digits value_of number signed weight_of same_bytes row_of
same_distance = refl

-- ---- 15: "a label number out of turn"

-- a label's number is not above the count of labels before it, and not below it
pub number_above : taken (after 1) (bytes "label,2,0,1") ≡ bad 15 2
unfolding fields all_digits value_of number signed weight_of same_bytes row_of
number_above = refl

pub number_below : taken (after 1) (bytes "label,0,0,1") ≡ bad 15 2
unfolding fields all_digits value_of number signed weight_of same_bytes row_of
number_below = refl

-- numbers are compared by their value: leading zeros do not matter
pub zeros_in_front : taken (after 1) (bytes "label,001,0,1") ≡ Ok (Label (record { wanted = pos 0; weight = pos 1 }))
unfolding fields all_digits value_of number signed weight_of same_bytes row_of
zeros_in_front = refl

-- 14 comes before 15, even at a later field
pub number_before_turn : taken (after 0) (bytes "label,7,0,x") ≡ bad 14 4
unfolding fields all_digits value_of number signed weight_of same_bytes row_of
number_before_turn = refl

-- a gap is never out of turn, of either kind
pub gap_in_turn : taken (after 0) (bytes "gap,7,9,1") ≡ Ok (Gap (record { left = 7; right = 9; distance = pos 1; kind = at_least_byte }))
unfolding fields all_digits value_of number signed weight_of same_bytes row_of
gap_in_turn = refl

pub same_in_turn : taken (after 0) (bytes "same,7,9,1") ≡ Ok (Gap (record { left = 7; right = 9; distance = pos 1; kind = exactly_byte }))
unfolding fields all_digits value_of number signed weight_of same_bytes row_of
same_in_turn = refl
