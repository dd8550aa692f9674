-- What is told at the front of a list, one entry after the other.
use Prim.Native.Nat.{ℕ}
use mathlib.Core.Path.{◌≡◌, refl, ◌∙◌, ap}
use mathlib.Core.Bool.{Bool, true, false, cond, ◌&&◌}
use mathlib.Core.List.{List, ◌++◌}
use lib.Dec.{leb, ltb}
use lib.ListN.{length, set, drop}
use lib.IntN.{ℤ, pos}
use mir.Syntax.{w64}
use mir.Val.{SFits, to_z, of_z}
use mir.ValLaws.{to_z-of_z}
use Rattle.std.specs.Prelude.{Ok, Err}
use Rattle.std.specs.Result.{result_unwrap_or}
use Rattle.exact.specs.Fraction.{whole}
use Rattle.ground.specs.Answers.{Answer, refused_place}
use Rattle.ground.specs.Limits.{labels_most, gaps_most}
use Rattle.exact.specs.declared.Fraction.{Fraction}
use Rattle.single_fractions.specs.declared.Ties.{Ties}
use Rattle.single_fractions.specs.Places.{within_places}
use Rattle.single_fractions.specs.Round.{Rounded, rounded, whole_by, whole_of, refusal12}
use Rattle.exact.specs.Slack.{slack_between}
use Rattle.single_fractions.specs.Slack.{SlackAnswer, slack_answer, slack_given, within_distance, refusal}
use Rattle.text_listing.specs.Listing.{Listable, Listed, bytes_of, labels_in, gaps_in, even, listed_in, laid, listed_as, not_listed, sheet_records, refused_record}
use Rattle.text_listing.specs.Listing as writing
use Rattle.dirmoog_c.specs.Exported.{RoundTold}

-- an entry is told the number that a function gave
pub told_at : {A : Type 0} (before : List A) (at : ℕ) {after : List A} {x y : A} → after ≡ set before at x → x ≡ y → after ≡ set before at y
told_at {A} before at one same = one ∙ ap {B = List A} (λ z. set before at z) same

-- two entries, told one after the other
pub told_both :
    {A : Type 0} (before between : List A) {after : List A} {first second x y : A} → between ≡ set before 0 x → x ≡ first
    → after ≡ set between 1 y → y ≡ second → after ≡ set (set before 0 first) 1 second
told_both {A} before between {second = second} one is-first two is-second =
    told_at between 1 two is-second ∙ ap (λ (l : List A). set l 1 second) (told_at before 0 one is-first)

-- ---- what is told of an answer

pub whole_told : (r : Rounded) → result_unwrap_or r (pos 0) ≡ whole_of r
whole_told (Ok z) = refl
whole_told (Err e) = refl

pub slack_given_told : (r : SlackAnswer) → result_unwrap_or r (whole (pos 0)) ≡ slack_given r
slack_given_told (Ok q) = refl
slack_given_told (Err e) = refl

pub bytes_told : (r : Listed) → result_unwrap_or r 0 ≡ bytes_of r
bytes_told (Ok n) = refl
bytes_told (Err e) = refl

-- ---- refusals whose place is always 0

pub round_place : (ties : Ties) (num den : ℤ) → refused_place (rounded ties num den) ≡ 0
unfolding rounded
round_place ties num den = go (within_places num den)
  where
    go : (b : Bool) → refused_place (cond b (Ok (whole_by ties num den)) refusal12) ≡ 0
    go true = refl
    go false = refl

-- what is told of a fraction as its two numbers are read back is told of the fraction
pub round_plain : (ties : Ties) {num den : ℤ} {out after : List ℤ} {n : ℕ} → SFits w64 num → SFits w64 den
    → RoundTold (rounded ties (to_z w64 (of_z w64 num)) (to_z w64 (of_z w64 den))) out n after → RoundTold (rounded ties num den) out n after
round_plain ties {num = num} {den} fn fd told = rw (to_z-of_z w64 num fn, to_z-of_z w64 den fd) at told

pub slack_place : (l r : Fraction) (g : ℤ) → refused_place (slack_answer l r g) ≡ 0
unfolding slack_answer
slack_place l r g = go (within_places l.num l.den && within_places r.num r.den) (within_distance g)
  where
    go : (places distance : Bool) → refused_place (cond places (cond distance (Ok (slack_between l r g)) (refusal 8)) (refusal 12)) ≡ 0
    go true true = refl
    go true false = refl
    go false distance = refl

laid_place : (text b : List ℕ) → writing.refused_place (laid text b).answer ≡ 0
laid_place text b = go (leb (length text) (length b))
  where
    go : (fits : Bool) → writing.refused_place (cond fits (listed_as (Ok (length text)) (text ++ drop (length text) b)) (not_listed 4 b)).answer ≡ 0
    go true = refl
    go false = refl

pub listing_place : (a : Answer) (field : ℕ) (l : Listable) (b : List ℕ) → writing.refused_place (listed_in a field l b).answer ≡ 0
unfolding listed_in
listing_place (Err r) field l b = laid_place (refused_record r field) b
listing_place (Ok _) field l b = go (ltb labels_most (labels_in l)) (ltb gaps_most (gaps_in l)) (even l)
  where
    go : (crowded overfull as_many : Bool) → writing.refused_place (cond crowded (not_listed 1 b)
        (cond overfull (not_listed 2 b) (cond as_many (laid (sheet_records l) b) (not_listed 3 b)))).answer ≡ 0
    go true overfull as_many = refl
    go false true as_many = refl
    go false false true = laid_place (sheet_records l) b
    go false false false = refl
