-- What wrong checks would let pass or tell in another order, and what the table says of it:
-- sheets with one or two faults, computed.
-- Nothing cites them.
use Prim.Native.Nat.{ℕ, zero, suc, ◌+◌}
use mathlib.Core.Path.{◌≡◌, refl}
use mathlib.Core.List.{List, [], ◌∷◌}
use lib.ListN.{length}
use lib.IntN.{ℤ, pos, neg_ℤ}
use Rattle.ground.specs.Limits.{distance_most, wanted_most, weight_most}
use Rattle.ground.specs.Entries.{no_record}
use Rattle.sheet_checks.specs.Lent.{LentGaps, Read, Written, lists, records}
use Rattle.sheet_checks.specs.Refusals.{pass, refuse, offender_below, table_of, table}

-- ---- sheets, and what is lent to write

-- the same entry so often
abbrev many : {A : Type 0} → ℕ → A → List A
many zero a = []
many (suc n) a = a ∷ many n a

abbrev joined : (wanted weight : List ℤ) (left right : List ℕ) (distance : List ℤ) (kind : List ℕ) → Read
joined wanted weight left right distance kind =
    record { wanted = wanted; weight = weight; gaps = lists left right distance kind }

-- every gap asks for at least its distance
abbrev lent : (wanted weight : List ℤ) (left right : List ℕ) (distance : List ℤ) → Read
lent wanted weight left right distance = joined wanted weight left right distance (many (length left) 0)

-- room for so many labels and gaps, and so long ring buffers
abbrev rooms : (labels gaps ring back : ℕ) → Written
rooms labels gaps ring back = record {
  place_num = many labels (pos 0);
  place_den = many labels (pos 0);
  mult_num = many gaps (pos 0);
  mult_den = many gaps (pos 0);
  ring = many ring 0;
  back = many back 0;
  carried = many gaps 0;
}

abbrev room : (labels gaps ring : ℕ) → Written
room labels gaps ring = rooms labels gaps ring ring

-- two labels with nothing wrong
abbrev wants : List ℤ
wants = pos 0 ∷ pos 0 ∷ []

abbrev weights : List ℤ
weights = pos 1 ∷ pos 1 ∷ []

-- and a gap between them
right_sheet : table (lent wants weights (0 ∷ []) (1 ∷ []) (pos 10 ∷ [])) (room 2 1 2) ≡ pass
unfolding table_of offender_below
right_sheet = refl

-- ---- one fault

labels_49 : table (lent (many 49 (pos 0)) (many 49 (pos 1)) [] [] []) (room 49 0 49) ≡ refuse 1 0
unfolding table_of offender_below
labels_49 = refl

-- the ring buffer is held to the label count
ring_short : table (lent wants weights (0 ∷ []) (1 ∷ []) (pos 10 ∷ [])) (room 2 1 1) ≡ refuse 4 0
unfolding table_of offender_below
ring_short = refl

-- and so is the second
back_short : table (lent wants weights (0 ∷ []) (1 ∷ []) (pos 10 ∷ [])) (rooms 2 1 2 1) ≡ refuse 4 0
unfolding table_of offender_below
back_short = refl

-- a list of kinds that is too short
kinds_ragged : table (joined wants weights (0 ∷ []) (1 ∷ []) (pos 10 ∷ []) []) (room 2 1 2) ≡ refuse 3 0
unfolding table_of offender_below
kinds_ragged = refl

-- one unit off the plate, on either side
off_plate_right : table (lent (pos 0 ∷ pos (wanted_most + 1) ∷ []) weights [] [] []) (room 2 0 2) ≡ refuse 5 1
unfolding table_of offender_below
off_plate_right = refl

off_plate_left : table (lent (pos 0 ∷ neg_ℤ (pos (wanted_most + 1)) ∷ []) weights [] [] []) (room 2 0 2) ≡ refuse 5 1
unfolding table_of offender_below
off_plate_left = refl

-- an end that equals the label count is no label
left_stranger : table (lent wants weights (2 ∷ []) (1 ∷ []) (pos 10 ∷ [])) (room 2 1 2) ≡ refuse 7 0
unfolding table_of offender_below
left_stranger = refl

right_stranger : table (lent wants weights (0 ∷ []) (2 ∷ []) (pos 10 ∷ [])) (room 2 1 2) ≡ refuse 7 0
unfolding table_of offender_below
right_stranger = refl

-- a sheet of no labels has no gap
no_labels : table (lent [] [] (0 ∷ []) (0 ∷ []) (pos 0 ∷ [])) (room 0 1 0) ≡ refuse 7 0
unfolding table_of offender_below
no_labels = refl

-- a gap one unit below its limit
gap_low : table (lent wants weights (0 ∷ []) (1 ∷ []) (neg_ℤ (pos (distance_most + 1)) ∷ [])) (room 2 1 2) ≡ refuse 8 0
unfolding table_of offender_below
gap_low = refl

-- an exact gap passes, and a kind that is neither does not, in either form of lending
exact_passes : table (joined wants weights (0 ∷ []) (1 ∷ []) (pos 10 ∷ []) (1 ∷ [])) (room 2 1 2) ≡ pass
unfolding table_of offender_below
exact_passes = refl

kind_neither : table (joined wants weights (0 ∷ 0 ∷ []) (1 ∷ 1 ∷ []) (pos 10 ∷ pos 10 ∷ []) (0 ∷ 2 ∷ [])) (room 2 2 2) ≡ refuse 23 1
unfolding table_of offender_below
kind_neither = refl

kind_neither_record : table (record { wanted = wants; weight = weights; gaps = records (record { left = 0; right = 1; distance = pos 10; kind = 255 } ∷ []) }) (room 2 1 2) ≡ refuse 23 0
unfolding table_of offender_below
kind_neither_record = refl

-- ---- two faults: the lower number is told

-- 49 labels and 193 gaps, in either form of lending
abbrev crowd : LentGaps → Read
crowd gaps = record { wanted = many 49 (pos 0); weight = many 49 (pos 1); gaps = gaps }

crowded_before_over_gapped : table (crowd (lists (many 193 0) (many 193 1) (many 193 (pos 10)) (many 193 0))) (room 49 193 49) ≡ refuse 1 0
unfolding table_of offender_below
crowded_before_over_gapped = refl

crowded_before_over_gapped_records : table (crowd (records (many 193 no_record))) (room 49 193 49) ≡ refuse 1 0
unfolding table_of offender_below
crowded_before_over_gapped_records = refl

-- label 1 is off the plate, and label 0 weighs too little
place_before_weight : table (lent (pos 0 ∷ pos (wanted_most + 1) ∷ []) (pos 0 ∷ pos 1 ∷ []) [] [] []) (room 2 0 2) ≡ refuse 5 1
unfolding table_of offender_below
place_before_weight = refl

-- label 1 weighs too much, and gap 0 joins a stranger
weight_before_stranger : table (lent wants (pos 1 ∷ pos (weight_most + 1) ∷ []) (0 ∷ []) (2 ∷ []) (pos 10 ∷ [])) (room 2 1 2) ≡ refuse 6 1
unfolding table_of offender_below
weight_before_stranger = refl

-- gap 0 has a kind that is neither, and gap 1 is too long: 8 before 23
gap_before_kind : table (joined wants weights (0 ∷ 0 ∷ []) (1 ∷ 1 ∷ []) (pos 10 ∷ pos (distance_most + 1) ∷ []) (2 ∷ 0 ∷ [])) (room 2 2 2) ≡ refuse 8 1
unfolding table_of offender_below
gap_before_kind = refl

-- ---- two offenders of one check: the first is told

-- both labels are off the plate, on either side
first_off_plate : table (lent (neg_ℤ (pos (wanted_most + 1)) ∷ pos (wanted_most + 1) ∷ []) weights [] [] []) (room 2 0 2) ≡ refuse 5 0
unfolding table_of offender_below
first_off_plate = refl

-- gaps 1 and 2 are too long
first_too_long : table (lent wants weights (many 3 0) (many 3 1) (pos 10 ∷ pos (distance_most + 1) ∷ pos (distance_most + 2) ∷ [])) (room 2 3 2) ≡ refuse 8 1
unfolding table_of offender_below
first_too_long = refl
