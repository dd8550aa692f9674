-- How long a listing can be.
use mathlib.Core.Path.{◌≡◌, refl}
use mathlib.Core.Bool.{Bool, true, false, cond}
use mathlib.Core.List.{List}
use Prim.Native.Nat.{ℕ, zero, suc, ◌+◌, ◌*◌, ◌≤◌, ◌<◌}
use native.Mathlib.Omega.{arith}
use lib.ListN.{length, length-append}
use lib.IntN.{ℤ, nat_abs}
use mir.Syntax.{w64}
use mir.Val.{Fits, SFits}
use Rattle.ground.specs.declared.Refusal.{Refusal}
use Rattle.std.specs.Prelude.{Ok, Err}
use Rattle.exact.specs.declared.Fraction.{Fraction}
use Rattle.single_fractions.specs.Places.{within_places}
use Rattle.exact.specs.Nearest.{round_half_up}
use Rattle.exact.proofs.Nearest.{round_half_up_lem, half_up_most}
use Rattle.single_fractions.specs.Round.{rounded, refusal12, whole_of}
use Rattle.single_fractions.proofs.PlaceLimits.{places_passed}
use Rattle.single_fractions.proofs.Rounding.{in_range}
use Rattle.ground.specs.Answers.{Answer}
use Rattle.ground.specs.Entries.{int}
use Rattle.ground.specs.Limits.{labels_most, gaps_most, place_num_most}
use Rattle.text_rows.specs.Numeral.{decimal, signed_decimal}
use Rattle.text_listing.specs.Listing.{place_room, slack_room, refused_room, listing_room, unit_at, unit_of, place_record, place_records, refused_record, listing}
use Rattle.text_listing.specs.Listing.{Listable, Within, labels_in, gaps_in, printed_slack, printed_unit, slack_record, slack_records, sheet_records}
use Rattle.text_rows.proofs.Decimal.{length_decimal, length_signed, length_signed_64}
use Rattle.text_listing.proofs.SlackSize.{FractionFits, printed_fits}

-- ---- the whole unit

-- a whole unit is within what refusal 12 leaves
whole_bound : (num den : ℤ) → nat_abs (unit_of num den) ≤ place_num_most
unfolding unit_of rounded
whole_bound num den = go (within_places num den) refl
  where
    go : (t : Bool) → within_places num den ≡ t → nat_abs (whole_of (cond t (Ok (round_half_up num den)) refusal12)) ≤ place_num_most
    go true e =
        let above = (in_range num den e).above in
        omega (arith, half_up_most num den (round_half_up num den) above (round_half_up_lem num den above), (places_passed num den e).1.1)
    go false e = omega arith

pub length_whole : (num den : ℤ) → length (signed_decimal (unit_of num den)) ≤ 11
length_whole num den = length_signed 9 (unit_of num den) (omega (arith, whole_bound num den))

-- ---- records

-- a number of 64 bits has at most 20 digits, a label's number at most 2, a gap's at most 3
pub length_decimal_64 : (n : ℕ) → Fits w64 n → length (decimal n) ≤ 20
length_decimal_64 n f = length_decimal 19 n (omega (arith, f.fits))

pub length_label : (i : ℕ) → i < labels_most → length (decimal i) ≤ 2
length_label i h = length_decimal 1 i (omega arith)

pub length_gap : (e : ℕ) → e < gaps_most → length (decimal e) ≤ 3
length_gap e h = length_decimal 2 e (omega arith)

pub length_place_record :
    (i : ℕ) (num den : ℤ) → i < labels_most → SFits w64 num → SFits w64 den → length
    (place_record i num den (unit_of num den)) ≤ place_room
unfolding place_record
length_place_record i num den h fn fd =
    simp length-append
    (omega (arith, length_label i h, length_signed_64 num fn, length_signed_64 den fd, length_whole num den))

-- every number of a list is one of 64 bits
abbrev pub AllFit : List ℤ → Type 0
AllFit zs = (k : ℕ) → SFits w64 (int zs k)

pub length_place_records :
    (n : ℕ) (nums dens : List ℤ) → n ≤ labels_most → AllFit nums → AllFit dens → length
    (place_records n nums dens (unit_at nums dens)) ≤ place_room * n
unfolding place_records
length_place_records zero nums dens h fn fd = omega arith
length_place_records (suc n) nums dens h fn fd =
    omega (
      arith,
      length-append (place_records n nums dens (unit_at nums dens)) (place_record n (int nums n) (int dens n) (unit_at nums dens n)),
      length_place_records n nums dens (omega arith) fn fd,
      length_place_record n (int nums n)
          (int dens n) (omega arith) (fn n) (fd n),
    )

pub length_slack_record : (e : ℕ) (slack : Fraction) → e < gaps_most → FractionFits slack → length (slack_record e slack) ≤ slack_room
unfolding slack_record
length_slack_record e slack h f =
    simp length-append
    (omega (arith, length_gap e h, length_signed_64 slack.num f.0, length_signed_64 slack.den f.1))

-- any numbers may be lent: a slack that is printed is of 64 bits
pub length_slack_records : (n : ℕ) (l : Listable) → n ≤ gaps_most → length (slack_records n l) ≤ slack_room * n
unfolding slack_records
length_slack_records zero l h = omega arith
length_slack_records (suc n) l h =
    omega (
      arith,
      length-append (slack_records n l) (slack_record n (printed_slack l n)),
      length_slack_records n l (omega arith),
      length_slack_record n (printed_slack l n) (omega arith) (printed_fits l n),
    )

pub length_refused_record :
    (r : Refusal) (field : ℕ) → Fits w64 r.number → Fits w64 r.place → Fits w64 field
    → length (refused_record r field) ≤ refused_room
unfolding refused_record
length_refused_record r field fn fp ff =
    simp length-append
    (omega (arith, length_decimal_64 r.number fn, length_decimal_64 r.place fp, length_decimal_64 field ff))

-- ---- the largest listing

-- the places and the slacks of a sheet
pub length_sheet_records :
    (l : Listable) → labels_in l ≤ labels_most → gaps_in l ≤ gaps_most → AllFit l.place_num → AllFit l.place_den
    → length (sheet_records l) ≤ place_room * labels_most + slack_room * gaps_most
length_sheet_records l h g fn fd =
    omega (
      arith,
      length-append (place_records (labels_in l) l.place_num l.place_den (printed_unit l)) (slack_records (gaps_in l) l),
      length_place_records (labels_in l) l.place_num l.place_den h fn fd,
      length_slack_records (gaps_in l) l g,
    )

-- the numbers of an answer are of 64 bits
abbrev pub AnswerFits : Answer → (field : ℕ) → Type 0
AnswerFits (Ok _) field = Unit
AnswerFits (Err r) field = Fits w64 r.number × Fits w64 r.place × Fits w64 field

-- no listing is longer than its room
pub length_listing :
    (a : Answer) (field : ℕ) (l : Listable) → Within l → AnswerFits a field → AllFit l.place_num → AllFit l.place_den
    → length (listing a field l) ≤ listing_room
length_listing (Ok _) field l w f fn fd = omega (arith, length_sheet_records l w.labels w.gaps fn fd)
length_listing (Err r) field l w f fn fd = omega (arith, length_refused_record r field f.0 f.1 f.2)
