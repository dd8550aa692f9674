-- The listing (document 01, "Sheet text"): "the word place, label number, numerator, denominator, whole unit", and
-- "after the places, one record per gap in number order: the word slack, gap number, numerator, denominator" (document
-- 02, Item 1); or "refused, number, place" and the bad field (Item 5); every record ended by CRLF.
use Rattle.std.specs.Prelude.{ℕ, zero, suc, ◌≤◌, ◌≡◌, Bool, cond, ◌&&◌, List, [], ◌++◌, eqb, ltb, leb, length, drop, ℤ, pos, Result, Ok, Err}
use Rattle.std.specs.Borrow.{Bor}
use Rattle.ground.specs.declared.Refusal.{Refusal}
use Rattle.exact.specs.declared.Fraction.{Fraction}
use Rattle.exact.specs.Fraction.{fraction_at, whole}
use Rattle.single_fractions.specs.declared.Ties.TheVariants.{Up}
use Rattle.single_fractions.specs.Round.{rounded, whole_of}
use Rattle.single_fractions.specs.Slack.{slack_answer, slack_given}
use Rattle.text_listing.specs.declared.lent.Lent.{Lent}
use Rattle.text_rows.specs.Bytes.{bytes}
use Rattle.text_rows.specs.Lines.{next, record_end, record_of}
use Rattle.text_rows.specs.Numeral.{decimal, signed_decimal}
use Rattle.ground.specs.Answers.{Answer, refused_at}
use Rattle.ground.specs.Entries.{nat, int}
use Rattle.ground.specs.Limits.{labels_most, gaps_most}
use Rattle.ground.specs.Views.{Param}

-- what a listing is made of: a place for each label, and of each gap what its slack depends on, which its kind is not: "the
-- slack records now speak of both kinds" (document 02, Item 6)
pub record Listable : Type 0 where
  pub place_num : List ℤ
  pub place_den : List ℤ
  pub left : List ℕ
  pub right : List ℕ
  pub distance : List ℤ

-- labels are counted by the numerators, gaps by the left labels
abbrev pub labels_in : Listable → ℕ
labels_in l = length l.place_num

abbrev pub gaps_in : Listable → ℕ
gaps_in l = length l.left

-- what the writer is lent: as a `requires` sees it, and as an `ensures` does
abbrev pub listable_now : (place_num place_den : Bor (List ℤ)) (left right : Bor (List ℕ)) (distance : Bor (List ℤ)) → Listable
listable_now place_num place_den left right distance =
    record { place_num = place_num.now; place_den = place_den.now; left = left.now; right = right.now; distance = distance.now }

abbrev pub listable_lent : (place_num place_den : Param ℤ) (left right : Param ℕ) (distance : Param ℤ) → Listable
listable_lent place_num place_den left right distance =
    listable_now place_num.entry place_den.entry left.entry right.entry distance.entry

-- the same of lists that travel together
abbrev pub listable_of : Lent → Listable
listable_of l = listable_now l.place_num l.place_den l.left l.right l.distance

-- bytes of a label's record, of a gap's and of a refused record, at most; and room for a whole listing, with some to
-- spare for the records of later requests (`length_listing` in proofs/Size)
abbrev pub place_room : ℕ
place_room = 64

abbrev pub slack_room : ℕ
slack_room = 53

abbrev pub refused_room : ℕ
refused_room = 72

abbrev pub listing_room : ℕ
listing_room = 24576

-- the words place, slack and refused
abbrev pub place_word : List ℕ
place_word = bytes "place"

abbrev pub slack_word : List ℕ
slack_word = bytes "slack"

abbrev pub refused_word : List ℕ
refused_word = bytes "refused"

-- "the word place, label number, numerator, denominator, whole unit"
unfoldable pub place_record : (label : ℕ) (num den unit : ℤ) → List ℕ
place_record i num den unit =
    place_word ++ (next (decimal i) ++ (next (signed_decimal num) ++ (next (signed_decimal den) ++ (next (signed_decimal unit) ++ record_end))))

-- the records of the first n labels, with these places and whole units
unfoldable pub place_records : ℕ → (nums dens : List ℤ) (unit : ℕ → ℤ) → List ℕ
place_records zero nums dens unit = []
place_records (suc n) nums dens unit = place_records n nums dens unit ++ place_record n (int nums n) (int dens n) (unit n)

-- the whole unit of a place: "In the listing, halves shall go to the larger number" (document 02, Item 4); 0 for a fraction
-- that rounding refuses
unfoldable pub unit_of : ℤ → ℤ → ℤ
unit_of num den = whole_of (rounded Up num den)

-- that of a label, over lists of places and of what is listed
abbrev pub unit_at : (nums dens : List ℤ) → ℕ → ℤ
unit_at nums dens i = unit_of (int nums i) (int dens i)

abbrev pub printed_unit : Listable → ℕ → ℤ
printed_unit l = unit_at l.place_num l.place_den

-- the place of a label
abbrev pub place_in : Listable → ℕ → Fraction
place_in l i = fraction_at l.place_num l.place_den i

-- whether an end of a gap is a label
abbrev pub is_label : Listable → ℕ → Bool
is_label l i = ltb i (labels_in l)

-- the slack of a gap; 0/1 where an end is no label, and where the entry over single fractions refuses it
unfoldable pub printed_slack : Listable → ℕ → Fraction
printed_slack l e =
    cond (is_label l (nat l.left e) && is_label l (nat l.right e))
    (slack_given (slack_answer (place_in l (nat l.left e)) (place_in l (nat l.right e)) (int l.distance e)))
    (whole (pos 0))

-- "the word slack, gap number, numerator, denominator"
unfoldable pub slack_record : ℕ → Fraction → List ℕ
slack_record e slack =
    slack_word ++ (next (decimal e) ++ (next (signed_decimal slack.num) ++ (next (signed_decimal slack.den) ++ record_end)))

-- "one record per gap in number order": those of the first n gaps
unfoldable pub slack_records : ℕ → Listable → List ℕ
slack_records zero l = []
slack_records (suc n) l = slack_records n l ++ slack_record n (printed_slack l n)

-- the records of a sheet: its places with their whole units, and "after the places" its slacks
abbrev pub sheet_records : Listable → List ℕ
sheet_records l = place_records (labels_in l) l.place_num l.place_den (printed_unit l) ++ slack_records (gaps_in l) l

-- "A refused sheet prints only: refused, number, place"; "The refused record gains a fourth field" (document 02, Item 5), the
-- one that is told
unfoldable pub refused_record : Refusal → (field : ℕ) → List ℕ
refused_record r field = record_of refused_word (decimal r.number) (decimal r.place) (decimal field)

-- the listing of an answer; a field is printed as it is handed, and that of a run is right by `RefusedShown` (sheet_run)
abbrev pub listing : Answer → (field : ℕ) → Listable → List ℕ
listing (Ok _) field l = sheet_records l
listing (Err r) field l = refused_record r field

-- the writer's answer: so many bytes written, or a refusal
abbrev pub Listed : Type 0
Listed = Result ℕ Refusal

-- document 01's number for each case of the writer's answer and its place, and the count of bytes written:
-- number and place are 0 for a listing that is written, the count is 0 for one that is refused
abbrev pub number_of : Listed → ℕ
number_of (Ok bytes) = 0
number_of (Err r) = r.number

abbrev pub refused_place : Listed → ℕ
refused_place (Ok bytes) = 0
refused_place (Err r) = r.place

abbrev pub bytes_of : Listed → ℕ
bytes_of (Ok bytes) = bytes
bytes_of (Err r) = 0

-- a refusal of the writer, whose place is 0
abbrev pub refusal : ℕ → Listed
refusal number = Err (refused_at number 0)

-- an answer with the buffer afterwards
pub record Listing : Type 0 where
  pub answer : Listed
  pub buffer : List ℕ

abbrev pub listed_as : Listed → List ℕ → Listing
listed_as answer b = record { answer = answer; buffer = b }

abbrev pub not_listed : ℕ → List ℕ → Listing
not_listed number b = listed_as (refusal number) b

-- a text over the front of a buffer; one that is too short for it is refused with 4 and stays
abbrev pub laid : List ℕ → List ℕ → Listing
laid text b =
    cond (leb (length text) (length b))
    (listed_as (Ok (length text)) (text ++ drop (length text) b))
    (not_listed 4 b)

-- whether lists that belong together are as many
abbrev pub even : Listable → Bool
even l =
    eqb (length l.place_den) (labels_in l)
    && eqb (length l.right) (gaps_in l) && eqb (length l.distance) (gaps_in l)

-- a sheet that is listed: within both limits, its lists as many
pub record Within (l : Listable) : Type 0 where
  pub labels : labels_in l ≤ labels_most
  pub gaps : gaps_in l ≤ gaps_most
  pub dens : length l.place_den ≡ labels_in l
  pub right : length l.right ≡ gaps_in l
  pub distance : length l.distance ≡ gaps_in l

-- for a placed sheet 1 for too many labels, then 2 for too many gaps, then 3 for lists that are not as many; 4 for either
unfoldable pub listed_in : Answer → (field : ℕ) → Listable → List ℕ → Listing
listed_in (Err r) field l b = laid (refused_record r field) b
listed_in (Ok _) field l b =
    cond (ltb labels_most (labels_in l)) (not_listed 1 b)
    (cond (ltb gaps_most (gaps_in l)) (not_listed 2 b)
    (cond (even l) (laid (sheet_records l) b) (not_listed 3 b)))
