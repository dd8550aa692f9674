-- Wrong tellings: for each mix-up of the numbers that the exported calls tell,
-- a case in which it is not what they owe.
use Prim.Native.Nat.{ℕ}
use mathlib.Core.Path.{◌≡◌, ap}
use mathlib.Core.Logic.{◌≢◌}
use mathlib.Core.List.{List, [], ◌∷◌}
use native.Mathlib.Omega.{arith}
use lib.ListN.{replicate}
use lib.IntN.{ℤ, pos, negsuc, nat_abs}
use Rattle.std.specs.Prelude.{Ok}
use Rattle.single_fractions.specs.Places.{within_places}
use Rattle.exact.specs.Nearest.{round_ties_to_away, round_half_up}
use Rattle.single_fractions.specs.declared.Ties.{Ties}
use Rattle.single_fractions.specs.declared.Ties.TheVariants.{AwayFromZero, Up}
use Rattle.single_fractions.specs.Round.{rounded, whole_of}
use Rattle.exact.specs.Slack.{euclid, lowest_of}
use Rattle.single_fractions.specs.Slack.{SlackAnswer, slack_answer}
use Rattle.ground.specs.Answers.{placed, number_of, refused_place, refusal}
use Rattle.text_rows.specs.Bytes.{bytes}
use Rattle.text_rows.specs.Lines.{fields, lines}
use Rattle.text_rows.specs.Numeral.{all_digits, digits_of, number, signed, value_of, weight_of}
use Rattle.text_rows.specs.Taking.{no_field, row_of, same_bytes}
use Rattle.text_reading.specs.Texts.{Lists, read_from, reading}
use Rattle.text_listing.specs.Listing.{Listable, listed_in, refused_record}
use Rattle.text_listing.specs.Listing as writing
use Rattle.dirmoog_c.specs.Exported.{RoundTold, SlackTold}
use Rattle.dirmoog_c.specs.Texted.{ListingTold, ReadTold, answer_of, read_first, read_second}

-- the place of a refusal for its number: 6 at label 1
pub place_for_number : number_of (refusal 6 1 0) ≢ refused_place (refusal 6 1 0)
place_for_number same = omega arith

-- the count of gaps for that of labels: two labels and one gap
pub gaps_for_labels : read_first (Ok (record { labels = 2; gaps = 1 })) ≢ read_second (Ok (record { labels = 2; gaps = 1 }))
gaps_for_labels same = omega arith

-- of a text whose label is out of turn and has a bad weight C is told 14, the line and the fourth field: neither 15, nor the
-- field before the line, nor 0 for the field; the lists stay
pub slip_told :
    {x y n : ℕ} {before after : Lists} {out_after : List ℕ} → ReadTold (bytes "label,7,0,x") before (x ∷ y ∷ []) n after out_after
    → (n ≡ 14) × (after ≡ before) × (out_after ≡ 1 ∷ 4 ∷ [])
unfolding reading read_from row_of same_bytes fields lines number signed weight_of all_digits value_of
slip_told t = (t.returned, t.lists, t.out_told)

-- a fraction rounded upside down: a third is 0, and 3 is 3
pub fraction_upside_down : whole_of (rounded AwayFromZero (pos 1) (pos 3)) ≢ whole_of (rounded AwayFromZero (pos 3) (pos 1))
unfolding rounded round_ties_to_away within_places
fraction_upside_down same = let magnitudes : ◌≡◌ {A = ℕ} 0 3 = ap nat_abs same in omega arith

-- one rule for the other: of -3/2 C is told -2 by the one entry and -1 by the other
module _ {x : ℤ} {n : ℕ} {after : List ℤ} where
  pub away_told : RoundTold (rounded AwayFromZero (negsuc 2) (pos 2)) (x ∷ []) n after → (n ≡ 0) × (after ≡ negsuc 1 ∷ [])
  unfolding rounded round_ties_to_away within_places
  away_told t = (t.returned, t.out_told)

  pub up_told : RoundTold (rounded Up (negsuc 2) (pos 2)) (x ∷ []) n after → (n ≡ 0) × (after ≡ negsuc 0 ∷ [])
  unfolding rounded round_half_up within_places
  up_told t = (t.returned, t.out_told)

  -- of a refusal 0, whatever stood there
  pub round_refused_told : (ties : Ties) → RoundTold (rounded ties (pos 1) (pos 0)) (x ∷ []) n after → (n ≡ 12) × (after ≡ pos 0 ∷ [])
  unfolding rounded within_places
  round_refused_told ties t = (t.returned, t.out_told)

-- so many numerators, denominators, left and right labels, and no distance
abbrev sized : (nums dens left right : ℕ) → Listable
sized nums dens left right = record {
  place_num = replicate nums (pos 1);
  place_den = replicate dens (pos 1);
  left = replicate left 0;
  right = replicate right 0;
  distance = [];
}

-- denominators listed as numerators: 49 numerators are 1, and 48 beside 49 denominators are 3
pub places_upside_down :
    writing.number_of (listed_in placed no_field (sized 49 48 0 0) []).answer
    ≢ writing.number_of (listed_in placed no_field (sized 48 49 0 0) []).answer
unfolding listed_in
places_upside_down same = let numbers : ◌≡◌ {A = ℕ} 1 3 = same in omega arith

-- right labels listed as left ones: 193 left labels are 2, and 192 beside 193 right ones are 3
pub gaps_turned :
    writing.number_of (listed_in placed no_field (sized 0 0 193 192) []).answer
    ≢ writing.number_of (listed_in placed no_field (sized 0 0 192 193) []).answer
unfolding listed_in
gaps_turned same = let numbers : ◌≡◌ {A = ℕ} 2 3 = same in omega arith

-- a number, a place and a field that C tells are listed in this order
pub field_listed :
    {x n : ℕ} {text_after out_after : List ℕ}
    → ListingTold (listed_in (answer_of 14 31) 4 (sized 0 0 0 0) (replicate 17 0)) (x ∷ []) n text_after out_after
    → (n ≡ 0) × (text_after ≡ bytes "refused,14,31,4\r\n") × (out_after ≡ 17 ∷ [])
unfolding listed_in refused_record digits_of
field_listed t = (t.returned, t.written, t.out_told)

-- ---- the slack, of two entries that hold anything

-- of 1/2, 1/3 and 0: the gap is broken by 1/6
abbrev broken : SlackAnswer
broken = slack_answer (record { num = pos 1; den = pos 2 }) (record { num = pos 1; den = pos 3 }) (pos 0)

-- a denominator of 0, and a distance of 20,001
abbrev no_fraction : SlackAnswer
no_fraction = slack_answer (record { num = pos 1; den = pos 0 }) (record { num = pos 1; den = pos 3 }) (pos 0)

abbrev too_far : SlackAnswer
too_far = slack_answer (record { num = pos 1; den = pos 2 }) (record { num = pos 1; den = pos 3 }) (pos 20001)

module _ {x y : ℤ} {n : ℕ} {after : List ℤ} where
  -- C is told -1 and 6, and not 1 and 6, nor 6 and -1
  pub slack_told : SlackTold broken (x ∷ y ∷ []) n after → (n ≡ 0) × (after ≡ negsuc 0 ∷ pos 6 ∷ [])
  unfolding slack_answer within_places lowest_of euclid
  slack_told t = (t.returned, t.out_told)

  -- of a refusal 0 and 1, and not 0 and 0
  pub twelve_told : SlackTold no_fraction (x ∷ y ∷ []) n after → (n ≡ 12) × (after ≡ pos 0 ∷ pos 1 ∷ [])
  unfolding slack_answer within_places
  twelve_told t = (t.returned, t.out_told)

  pub eight_told : SlackTold too_far (x ∷ y ∷ []) n after → (n ≡ 8) × (after ≡ pos 0 ∷ pos 1 ∷ [])
  unfolding slack_answer within_places
  eight_told t = (t.returned, t.out_told)

-- where one entry is lent it is the numerator
pub numerator_told : {x : ℤ} {n : ℕ} {after : List ℤ} → SlackTold broken (x ∷ []) n after → after ≡ negsuc 0 ∷ []
unfolding slack_answer within_places lowest_of euclid
numerator_told t = t.out_told
