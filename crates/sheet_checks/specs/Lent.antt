-- What a station lends (document 01; document 02, Item 6), and the sheet that it tells.
use Rattle.std.specs.Prelude.{ℕ, List, length, get_or, ℤ}
use Rattle.std.specs.Borrow.{MutBor}
use denote.Triple.Both.{Both}
use Rattle.ground.specs.declared.GapRecord.{GapRecord}
use Rattle.ground.specs.declared.lists.Lists.{Lists}
use Rattle.ground.specs.declared.Label.{Label}
use Rattle.ground.specs.declared.GapNumber.{GapNumber}
use Rattle.ground.specs.Entries.{nat, int, no_record}
use Rattle.ground.specs.Views.{Param, MutParam}
use Rattle.exact.specs.declared.Fraction.{Fraction}
use Rattle.exact.specs.Fraction.{fraction_at}
use Rattle.least_move.specs.Sheet.{Sheet, Gap, kind_of, label}

-- "left, right and distance of each gap. The gaps may also be lent as one list of records"; "The gap record shall carry
-- its kind", and "The plain lists gain one of kinds"
pub data LentGaps : Type 0 where
  lists : (left right : List ℕ) (distance : List ℤ) (kind : List ℕ) → LentGaps
  records : List GapRecord → LentGaps

-- "To read"
pub record Read : Type 0 where
  pub wanted : List ℤ
  pub weight : List ℤ
  pub gaps : LentGaps

-- "To write", with the "second ring buffer"; and "to read and write: the carried record, one byte per gap"
pub record Written : Type 0 where
  pub place_num : List ℤ
  pub place_den : List ℤ
  pub mult_num : List ℤ
  pub mult_den : List ℤ
  pub ring : List ℕ
  pub back : List ℕ
  pub carried : List ℕ

-- "Labels are counted by the list of wanted places, gaps by the list of left labels,
-- or by the list of records where that is lent"; "an exact gap counts once towards 192" (document 02, Item 6)
abbrev pub label_count : Read → ℕ
label_count r = length r.wanted

abbrev pub count_of : LentGaps → ℕ
count_of (lists l r g k) = length l
count_of (records gs) = length gs

abbrev pub gap_count : Read → ℕ
gap_count r = count_of r.gaps

-- the gap of a number
abbrev pub record_at : LentGaps → ℕ → GapRecord
record_at (lists l r g k) e = record { left = nat l e; right = nat r e; distance = int g e; kind = nat k e }
record_at (records gs) e = get_or gs e no_record

-- what it asks: "at least, or exactly"
abbrev pub gap_of : GapRecord → Gap
gap_of g =
    record { left = label g.left; right = label g.right; distance = g.distance; kind = kind_of g.kind }

-- the sheet that is lent
unfoldable pub sheet_of : Read → Sheet
sheet_of r = record {
  labels = label_count r;
  gaps = gap_count r;
  wanted = λ i. int r.wanted i.0;
  weight = λ i. int r.weight i.0;
  gap = λ e. gap_of (record_at r.gaps e.0);
}

-- "A label's place is the numerator written for it over the denominator written for it", and so a gap's multiplier
abbrev pub place_of : Written → Label → Fraction
place_of w i = fraction_at w.place_num w.place_den i.0

abbrev pub multiplier_of : Written → GapNumber → Fraction
multiplier_of w e = fraction_at w.mult_num w.mult_den e.0

-- ---- what a call is lent: as a `requires` sees it, and as an `ensures` does

abbrev pub sheet_now : Lists → Read
sheet_now l = record {
  wanted = l.wanted.now;
  weight = l.weight.now;
  gaps = lists l.left.now l.right.now l.distance.now l.kind.now;
}

abbrev pub sheet_lent : Both Lists Lists → Read
sheet_lent l = sheet_now l.entry

abbrev pub records_lent : (wanted weight : Param ℤ) (gaps : Param GapRecord) → Read
records_lent wanted weight gaps =
    record { wanted = wanted.entry.now; weight = weight.entry.now; gaps = records gaps.entry.now }

abbrev pub room_now :
    (carried : MutBor (List ℕ)) (place_num place_den mult_num mult_den : MutBor (List ℤ)) (ring back : MutBor (List ℕ)) → Written
room_now carried place_num place_den mult_num mult_den ring back = record {
  place_num = place_num.now;
  place_den = place_den.now;
  mult_num = mult_num.now;
  mult_den = mult_den.now;
  ring = ring.now;
  back = back.now;
  carried = carried.now;
}

-- at entry and at exit
abbrev pub room_lent :
    (carried : MutParam ℕ) (place_num place_den mult_num mult_den : MutParam ℤ) (ring back : MutParam ℕ) → Both Written Written
room_lent carried place_num place_den mult_num mult_den ring back = record {
  entry =
      room_now carried.entry place_num.entry place_den.entry
      mult_num.entry mult_den.entry ring.entry back.entry;
  exit =
      room_now carried.exit place_num.exit place_den.exit
      mult_num.exit mult_den.exit ring.exit back.exit;
}
