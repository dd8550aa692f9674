-- The refusal table (document 01; document 02, Item 6), in the order of its checks.
-- What it decides is 1 to 8 and 23; 9 is tied to the absence of a placement in Promise.
use Rattle.std.specs.Prelude.{ℕ, zero, suc, Bool, false, cond, not, ◌&&◌, ◌||◌, List, [], ◌∷◌, ◌++◌, map, ltb, eqb, length, Ok, Err, ℤ, pos, neg_ℤ}
use Rattle.std.specs.Int.Signed.{lt_z}
use Rattle.sheet_checks.specs.declared.check.Room.{Room}
use Rattle.sheet_checks.specs.Lent.{Read, Written, LentGaps, lists, records, label_count, gap_count, record_at}
use Rattle.ground.specs.Answers.{Answer, refused_at}
use Rattle.ground.specs.Entries.{int}
use Rattle.ground.specs.Kinds.{at_least_byte, exactly_byte}
use Rattle.ground.specs.Limits.{distance_most, gaps_most, labels_most, wanted_most, weight_least, weight_most}

-- ---- what a check answers

-- a check that passes
abbrev pub pass : Answer
pass = Ok tt

-- "refused with its number and its place"
abbrev pub refuse : (number place : ℕ) → Answer
refuse number place = Err (refused_at number place)

-- of two checks the first that refuses
abbrev pub first_refusal : Answer → Answer → Answer
first_refusal (Ok _) later = later
first_refusal (Err r) later = Err r

-- "Checks run in this order .. by number, each over the whole sheet before the next"
abbrev pub in_turn : List Answer → Answer
in_turn [] = pass
in_turn (c ∷ later) = first_refusal c (in_turn later)

-- a check whose place is 0
abbrev pub test : ℕ → Bool → Answer
test number bad = cond bad (refuse number 0) pass

-- a check of each label or gap: its number, how many there are, and which of them are bad
pub record Row : Type 0 where
  pub number : ℕ
  pub count : ℕ
  pub bad : ℕ → Bool

-- "the place is the first offender": the first of n that is bad
unfoldable pub offender_below : (number n : ℕ) → (ℕ → Bool) → Answer
offender_below number zero bad = pass
offender_below number (suc n) bad = first_refusal (offender_below number n bad) (cond (bad n) (refuse number n) pass)

abbrev pub offender : Row → Answer
offender row = offender_below row.number row.count row.bad

-- 1 and 2, from the counts; 3 and 4, from whether they are met
abbrev pub size_tests : (labels gaps : ℕ) (is_ragged is_short : Bool) → List Answer
size_tests labels gaps is_ragged is_short =
    test 1 (ltb labels_most labels) ∷ test 2 (ltb gaps_most gaps) ∷ test 3 is_ragged ∷ test 4 is_short ∷ []

-- the table of every entry that is lent a sheet: 1 to 4, and then a row for each check of labels or gaps
unfoldable pub table_of : (labels gaps : ℕ) (is_ragged is_short : Bool) → List Row → Answer
table_of labels gaps is_ragged is_short checks = in_turn (size_tests labels gaps is_ragged is_short ++ map offender checks)

-- ---- when each check is met

abbrev pub unequal : ℕ → ℕ → Bool
unequal a b = not (eqb a b)

-- outside a range from least to most
abbrev pub outside : ℤ → ℤ → ℤ → Bool
outside least most z = lt_z z least || lt_z most z

-- the sizes of what is lent to write
abbrev pub room_of : Written → Room
room_of w = record {
  places = length w.place_num;
  place_dens = length w.place_den;
  multipliers = length w.mult_num;
  multiplier_dens = length w.mult_den;
  ring = length w.ring;
  back = length w.back;
  carried = length w.carried;
}

-- 3 "lists that belong together differ in length:
-- places with weights, the three gap lists, the carried record with the gaps"; "3 and 4 cover the new list and buffer"
abbrev pub ragged_sizes : (labels gaps weights carried : ℕ) (is_uneven : Bool) → Bool
ragged_sizes labels gaps weights carried is_uneven = unequal weights labels || is_uneven || unequal carried gaps

abbrev pub uneven_sizes : (gaps rights distances kinds : ℕ) → Bool
uneven_sizes gaps rights distances kinds = unequal rights gaps || unequal distances gaps || unequal kinds gaps

abbrev pub uneven : LentGaps → Bool
uneven (lists l r g k) = uneven_sizes (length l) (length r) (length g) (length k)
uneven (records gs) = false

abbrev pub ragged : Read → (carried : ℕ) → Bool
ragged r carried = ragged_sizes (label_count r) (gap_count r) (length r.weight) carried (uneven r.gaps)

-- 4 "a place or ring buffer below the label count, or a multiplier buffer below the gap count"; there are two ring buffers
abbrev pub short : (labels gaps : ℕ) → Room → Bool
short labels gaps room =
    ltb room.places labels || ltb room.place_dens labels || ltb room.ring labels
    || ltb room.back labels || ltb room.multipliers gaps || ltb room.multiplier_dens gaps

-- a check that each number is in its range
abbrev pub range_row : (number count : ℕ) (least most : ℤ) → (ℕ → ℤ) → Row
range_row number count least most of = record { number = number; count = count; bad = λ k. outside least most (of k) }

-- 5 "wanted place outside its range", 6 "weight outside its range"
abbrev pub off_plate : Read → Row
off_plate r = range_row 5 (label_count r) (neg_ℤ (pos wanted_most)) (pos wanted_most) (int r.wanted)

abbrev pub bad_weight : Read → Row
bad_weight r = range_row 6 (label_count r) (pos weight_least) (pos weight_most) (int r.weight)

-- 7 "left or right is no label of the sheet"
abbrev pub unknown : (labels : ℕ) (ends : ℕ × ℕ) → Bool
unknown labels ends = not (ltb ends.0 labels) || not (ltb ends.1 labels)

abbrev pub stranger : Read → Row
stranger r = record {
  number = 7;
  count = gap_count r;
  bad = λ k. unknown (label_count r) ((record_at r.gaps k).left, (record_at r.gaps k).right);
}

-- 8 "gap outside its range"
abbrev pub bad_gap : Read → Row
bad_gap r = range_row 8 (gap_count r) (neg_ℤ (pos distance_most)) (pos distance_most) (λ k. (record_at r.gaps k).distance)

-- "23 for a kind that is neither, place the gap, after 8"
abbrev pub neither : ℕ → Bool
neither kind = unequal kind at_least_byte && unequal kind exactly_byte

abbrev pub bad_kind : Read → Row
bad_kind r = record { number = 23; count = gap_count r; bad = λ k. neither (record_at r.gaps k).kind }

abbrev pub rows : Read → List Row
rows r = off_plate r ∷ bad_weight r ∷ stranger r ∷ bad_gap r ∷ bad_kind r ∷ []

-- the table of a layout call, from the sizes of what it is lent to write
abbrev pub table_for : Read → Room → Answer
table_for r room =
    table_of (label_count r) (gap_count r) (ragged r room.carried) (short (label_count r) (gap_count r) room) (rows r)

abbrev pub table : Read → Written → Answer
table r w = table_for r (room_of w)
