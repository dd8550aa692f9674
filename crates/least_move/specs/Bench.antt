-- The sheets on the bench: document 01's cases P1 to P10 in its order, then document 02's mixed sheet (Item 3), its labels
-- that cross (Item 4) and labels joined rigidly (Item 6), in one list, and what it is for a case to be right.
use Rattle.std.specs.Prelude.{ℕ, ◌<◌, ◌≡◌, true, cond, length, get_or, replicate, eqb, ℤ, pos, neg_ℤ}
use mathlib.Core.List.{List, [], ◌∷◌, ◌++◌, Memᴰ}
use Rattle.exact.specs.declared.Fraction.{Fraction}
use Rattle.exact.specs.Fraction.{◌≃◌, whole, LowestTerms}
use Rattle.ground.specs.declared.GapNumber.{GapNumber}
use Rattle.ground.specs.Entries.{Each}
use Rattle.ground.specs.Kinds.{at_least_byte, exactly_byte}
use Rattle.least_move.specs.Sheet.{Sheet, Gap, kind_of, label, gap_number}
use Rattle.least_move.specs.Placement.{Placement, Feasible, LeastMove}
use Rattle.least_move.specs.Multipliers.{Multipliers, Conditions}
use Rattle.least_move.specs.Marks.{Step, forwards}
use Rattle.least_move.specs.Ring.{IsRing}
use Rattle.least_move.specs.Moved.{EachLabel, SameButWants, want_change, place_change}

-- ---- the data, as the document writes it

-- a number with a minus sign, a fraction, and a gap: "gap 0 to 1 of 10", and an exact one, from 0 to 1 of exactly 6
abbrev pub minus : ℕ → ℤ
minus n = neg_ℤ (pos n)

infix 75 ◌over◌ ◌to◌of◌ ◌to◌exactly◌
abbrev pub ◌over◌ : ℤ → ℕ → Fraction
n over d = record { num = n; den = pos d }

pub record WrittenGap : Type 0 where
  pub left : ℕ
  pub right : ℕ
  pub distance : ℤ
  pub kind : ℕ

abbrev pub ◌to◌of◌ : ℕ → ℕ → ℤ → WrittenGap
u to v of g = record { left = u; right = v; distance = g; kind = at_least_byte }

abbrev pub ◌to◌exactly◌ : ℕ → ℕ → ℤ → WrittenGap
u to v exactly g = record { left = u; right = v; distance = g; kind = exactly_byte }

-- a gap of this number, passed backwards
abbrev pub backwards : ℕ → Step
backwards e = record { by = gap_number e; backwards = true }

-- a sheet: a want and a weight per label, the gaps, and the carried record that it is laid out with, a byte per gap
pub record Written : Type 0 where
  pub wants : List ℤ
  pub weights : List ℤ
  pub gaps : List WrittenGap
  pub carried : List ℕ

-- whether a case's multipliers are shown to be the only ones, as where a document gives them, or are just worked out
pub data Source : Type 0 where
  given : Source
  worked_out : Source

-- a sheet with its places and multipliers, and one refused with its number and its ring
pub record Placed : Type 0 where
  pub sheet : Written
  pub places : List Fraction
  pub multipliers : List Fraction
  pub source : Source

pub record Refused : Type 0 where
  pub sheet : Written
  pub number : ℕ
  pub ring : List Step

-- two placed sheets: the want of one label moved so far, and every place so far
pub record Moved : Type 0 where
  pub before : Placed
  pub after : Placed
  pub label : ℕ
  pub want_by : ℤ
  pub places_by : Fraction

pub data Case : Type 0 where
  placed : Placed → Case
  refused : Refused → Case
  moved : Moved → Case

-- ---- the list

-- a sheet laid out from a carried record of zeros: the document gives none but with P5
abbrev pub sheet : List ℤ → List ℤ → List WrittenGap → Written
sheet wants weights gaps =
    record { wants = wants; weights = weights; gaps = gaps; carried = replicate (length gaps) 0 }

-- P1 wants 0, 0, weights 1, gap 0 to 1 of 10: -5, 5, multiplier 10
abbrev pub P1 : Placed
P1 =
    record {
      sheet = sheet (pos 0 ∷ pos 0 ∷ []) (pos 1 ∷ pos 1 ∷ []) (0 to 1 of pos 10 ∷ []);
      places = minus 5 over 1 ∷ pos 5 over 1 ∷ [];
      multipliers = pos 10 over 1 ∷ [];
      source = given;
    }

-- P2 wants 0, 4, weights 1, 2, gap 10: -4, 6, multiplier 8
abbrev pub P2 : Placed
P2 =
    record {
      sheet = sheet (pos 0 ∷ pos 4 ∷ []) (pos 1 ∷ pos 2 ∷ []) (0 to 1 of pos 10 ∷ []);
      places = minus 4 over 1 ∷ pos 6 over 1 ∷ [];
      multipliers = pos 8 over 1 ∷ [];
      source = given;
    }

-- P3 wants 0, 3, weights 1, gap 6: -3/2, 9/2, multiplier 3
abbrev pub P3 : Placed
P3 =
    record {
      sheet = sheet (pos 0 ∷ pos 3 ∷ []) (pos 1 ∷ pos 1 ∷ []) (0 to 1 of pos 6 ∷ []);
      places = minus 3 over 2 ∷ pos 9 over 2 ∷ [];
      multipliers = pos 3 over 1 ∷ [];
      source = given;
    }

-- P4 wants 1, 3, else as P3: -1, 5
abbrev pub P4 : Placed
P4 =
    record {
      sheet = sheet (pos 1 ∷ pos 3 ∷ []) (pos 1 ∷ pos 1 ∷ []) (0 to 1 of pos 6 ∷ []);
      places = minus 1 over 1 ∷ pos 5 over 1 ∷ [];
      multipliers = pos 4 over 1 ∷ [];
      source = worked_out;
    }

-- P5 wants 0, 100, weights 1, gap 10, carried record marked: 0, 100, multiplier 0
abbrev pub P5 : Placed
P5 =
    record {
      sheet =
          record {
            wants = pos 0 ∷ pos 100 ∷ [];
            weights = pos 1 ∷ pos 1 ∷ [];
            gaps = 0 to 1 of pos 10 ∷ [];
            carried = 1 ∷ [];
          };
      places = pos 0 over 1 ∷ pos 100 over 1 ∷ [];
      multipliers = pos 0 over 1 ∷ [];
      source = given;
    }

-- P6 wants 0, 0, 0, weights 1, gaps 0 to 1 of 2, 1 to 2 of 2, 0 to 2 of 10: -5, 0, 5; multipliers 0, 0, 10
abbrev pub P6 : Placed
P6 =
    record {
      sheet =
          sheet (pos 0 ∷ pos 0 ∷ pos 0 ∷ []) (pos 1 ∷ pos 1 ∷ pos 1 ∷ [])
          (0 to 1 of pos 2 ∷ 1 to 2 of pos 2 ∷ 0 to 2 of pos 10 ∷ []);
      places = minus 5 over 1 ∷ pos 0 over 1 ∷ pos 5 over 1 ∷ [];
      multipliers = pos 0 over 1 ∷ pos 0 over 1 ∷ pos 10 over 1 ∷ [];
      source = given;
    }

-- P7 wants 0 and weights 1 from here to P10; gaps 0 to 1 of 5, 1 to 0 of -4: refusal 9, ring of both
abbrev pub P7 : Refused
P7 =
    record {
      sheet = sheet (pos 0 ∷ pos 0 ∷ []) (pos 1 ∷ pos 1 ∷ []) (0 to 1 of pos 5 ∷ 1 to 0 of minus 4 ∷ []);
      number = 9;
      ring = forwards 0 ∷ forwards 1 ∷ [];
    }

-- P8 the same with -5: -5/2, 5/2
abbrev pub P8 : Placed
P8 =
    record {
      sheet = sheet (pos 0 ∷ pos 0 ∷ []) (pos 1 ∷ pos 1 ∷ []) (0 to 1 of pos 5 ∷ 1 to 0 of minus 5 ∷ []);
      places = minus 5 over 2 ∷ pos 5 over 2 ∷ [];
      multipliers = pos 5 over 1 ∷ pos 0 over 1 ∷ [];
      source = worked_out;
    }

-- P9 one label, self gap of 0: placed at 0
abbrev pub P9 : Placed
P9 =
    record {
      sheet = sheet (pos 0 ∷ []) (pos 1 ∷ []) (0 to 0 of pos 0 ∷ []);
      places = pos 0 over 1 ∷ [];
      multipliers = pos 0 over 1 ∷ [];
      source = worked_out;
    }

-- P10 self gap of 1: refusal 9, ring of one
abbrev pub P10 : Refused
P10 =
    record {
      sheet = sheet (pos 0 ∷ []) (pos 1 ∷ []) (0 to 0 of pos 1 ∷ []);
      number = 9;
      ring = forwards 0 ∷ [];
    }

-- P4 against P3: "One want moved by 1, both places by 1/2"
abbrev pub P4-moved : Moved
P4-moved = record { before = P3; after = P4; label = 0; want_by = pos 1; places_by = pos 1 over 2 }

-- document 02, Item 3: wants 0 and 11, first weight blank, which counts ten, second 1, gap 22, "giving -1 and 21"
abbrev pub mixed : Placed
mixed =
    record {
      sheet = sheet (pos 0 ∷ pos 11 ∷ []) (pos 10 ∷ pos 1 ∷ []) (0 to 1 of pos 22 ∷ []);
      places = minus 1 over 1 ∷ pos 21 over 1 ∷ [];
      multipliers = pos 20 over 1 ∷ [];
      source = worked_out;
    }

-- document 02, Item 4: "wants 2 and -2, weights 1, gap 0 to 1 of -1", whose exact places are 1/2 and -1/2
abbrev pub crossing : Placed
crossing =
    record {
      sheet = sheet (pos 2 ∷ minus 2 ∷ []) (pos 1 ∷ pos 1 ∷ []) (0 to 1 of minus 1 ∷ []);
      places = pos 1 over 2 ∷ minus 1 over 2 ∷ [];
      multipliers = pos 3 over 1 ∷ [];
      source = worked_out;
    }

-- document 02, Item 6, for which this sheet and the next four were worked out: wants 0 and 10, weights 1, exact gap 0 to 1
-- of 6: 2, 8. The gap pulls its labels together, and so its multiplier, -4, is below zero: it "may have either sign"
abbrev pub joined : Placed
joined =
    record {
      sheet = sheet (pos 0 ∷ pos 10 ∷ []) (pos 1 ∷ pos 1 ∷ []) (0 to 1 exactly pos 6 ∷ []);
      places = pos 2 over 1 ∷ pos 8 over 1 ∷ [];
      multipliers = minus 4 over 1 ∷ [];
      source = given;
    }

-- Item 6: wants 0, 0, 0, weights 1, exact gaps 0 to 1 of 5, 1 to 2 of 5, 0 to 2 of 10: -5, 0, 5. The third asks what the
-- first two do already: it is tight, as an exact gap "always" is, and need not carry anything; other multipliers would do too
abbrev pub redundant : Placed
redundant =
    record {
      sheet =
          sheet (pos 0 ∷ pos 0 ∷ pos 0 ∷ []) (pos 1 ∷ pos 1 ∷ pos 1 ∷ [])
          (0 to 1 exactly pos 5 ∷ 1 to 2 exactly pos 5 ∷ 0 to 2 exactly pos 10 ∷ []);
      places = minus 5 over 1 ∷ pos 0 over 1 ∷ pos 5 over 1 ∷ [];
      multipliers = pos 10 over 1 ∷ pos 10 over 1 ∷ pos 0 over 1 ∷ [];
      source = worked_out;
    }

-- Item 6: wants 0, 0, 9, weights 1, 2, 1, exact gap 0 to 1 of 4, gap 1 to 2 of 3: -8/3, 4/3, 9; multipliers 16/3, 0. Gaps
-- of both kinds at one label, and the second has slack
abbrev pub joined_mixed : Placed
joined_mixed =
    record {
      sheet =
          sheet (pos 0 ∷ pos 0 ∷ pos 9 ∷ []) (pos 1 ∷ pos 2 ∷ pos 1 ∷ [])
          (0 to 1 exactly pos 4 ∷ 1 to 2 of pos 3 ∷ []);
      places = minus 8 over 3 ∷ pos 4 over 3 ∷ pos 9 over 1 ∷ [];
      multipliers = pos 16 over 3 ∷ pos 0 over 1 ∷ [];
      source = given;
    }

-- Item 6: wants 0, 0, weights 1, exact gap 0 to 1 of 5, gap 0 to 1 of 6: refusal 9. "A ring may pass an exact gap
-- backwards, counting its distance negated": 6 - 5 is above zero
abbrev pub joined_against : Refused
joined_against =
    record {
      sheet = sheet (pos 0 ∷ pos 0 ∷ []) (pos 1 ∷ pos 1 ∷ []) (0 to 1 exactly pos 5 ∷ 0 to 1 of pos 6 ∷ []);
      number = 9;
      ring = forwards 1 ∷ backwards 0 ∷ [];
    }

-- Item 6: wants 0, 0, 0, weights 1, exact gaps 0 to 1 of 5, 1 to 2 of 5, 0 to 2 of 9: refusal 9, for "exact gaps that
-- contradict". The ring goes one way round: 5 + 5 - 9 is above zero, and the other way it is below
abbrev pub joined_apart : Refused
joined_apart =
    record {
      sheet =
          sheet (pos 0 ∷ pos 0 ∷ pos 0 ∷ []) (pos 1 ∷ pos 1 ∷ pos 1 ∷ [])
          (0 to 1 exactly pos 5 ∷ 1 to 2 exactly pos 5 ∷ 0 to 2 exactly pos 9 ∷ []);
      number = 9;
      ring = forwards 0 ∷ forwards 1 ∷ backwards 2 ∷ [];
    }

unfoldable pub bench : List Case
bench =
    placed P1
    ∷ placed P2
    ∷ placed P3
    ∷ placed P4
    ∷ moved P4-moved
    ∷ placed P5
    ∷ placed P6
    ∷ refused P7
    ∷ placed P8
    ∷ placed P9
    ∷ refused P10
    ∷ placed mixed
    ∷ placed crossing
    ∷ placed joined
    ∷ placed redundant
    ∷ placed joined_mixed
    ∷ refused joined_against
    ∷ refused joined_apart
    ∷ []

-- ---- what it is for a case to be right

-- the sheet, the placement and the multipliers that are so written
abbrev pub gap_of : WrittenGap → Gap
gap_of g =
    record { left = label g.left; right = label g.right; distance = g.distance; kind = kind_of g.kind }

abbrev pub written : Written → Sheet
written w =
    record {
      labels = length w.wants;
      gaps = length w.gaps;
      wanted = λ i. get_or w.wants i.0 (pos 0);
      weight = λ i. get_or w.weights i.0 (pos 0);
      gap = λ e. gap_of (get_or w.gaps e.0 (0 to 0 of pos 0));
    }

abbrev pub sheet_of : Placed → Sheet
sheet_of c = written c.sheet

abbrev pub placement : Placed → Placement
placement c i = get_or c.places i.0 (whole (pos 0))

abbrev pub multipliers : Placed → Multipliers
multipliers c e = get_or c.multipliers e.0 (whole (pos 0))

-- one weight per label, and one carried byte per gap
abbrev pub Weighted : Written → Type 0
Weighted w = length w.weights ≡ length w.wants

abbrev pub Carrying : Written → Type 0
Carrying w = length w.carried ≡ length w.gaps

-- given multipliers are the only ones that meet the conditions with these places
abbrev pub OnlyMultipliers : Placed → Source → Type 0
OnlyMultipliers c given =
    (m : Multipliers) → Conditions (sheet_of c) (placement c) m →
    (e : GapNumber) → e.0 < length c.sheet.gaps → m e ≃ multipliers c e
OnlyMultipliers c worked_out = Unit {0}

-- one weight and one place per label, one multiplier and one carried byte per gap; places and multipliers meet the
-- conditions, the placement is the least move, each fraction is in lowest terms, and given multipliers are the only ones
pub record RightPlaced (c : Placed) : Type 0 where
  pub weighted : Weighted c.sheet
  pub carrying : Carrying c.sheet
  pub per_label : length c.places ≡ length c.sheet.wants
  pub per_gap : length c.multipliers ≡ length c.sheet.gaps
  pub conditions : Conditions (sheet_of c) (placement c) (multipliers c)
  pub least : LeastMove (sheet_of c) (placement c)
  pub lowest : (q : Fraction) → Memᴰ q (c.places ++ c.multipliers) → LowestTerms q
  pub only : OnlyMultipliers c c.source

-- 9 is "no placement meets all gaps", and the ring shows it; every ring of the sheet has as many steps, and these
pub record RightRefused (c : Refused) : Type 0 where
  pub weighted : Weighted c.sheet
  pub carrying : Carrying c.sheet
  pub number : c.number ≡ 9
  pub ring : IsRing (written c.sheet) c.ring
  pub none : (p : Placement) → ¬ (Feasible (written c.sheet) p)
  pub only : (steps : List Step) → IsRing (written c.sheet) steps →
      (length steps ≡ length c.ring) × Each (λ t. Memᴰ t steps) c.ring

-- two sheets with the same weights and gaps: the want of the one label is moved so far and no other is,
-- and every place is moved so far
pub record RightMoved (c : Moved) : Type 0 where
  pub before : RightPlaced c.before
  pub after : RightPlaced c.after
  pub same : SameButWants (sheet_of c.before) (sheet_of c.after)
  pub one : c.label < (sheet_of c.before).labels
  pub want : EachLabel (sheet_of c.before) (λ i.
      want_change (sheet_of c.before) (sheet_of c.after) i ≡ cond (eqb i.0 c.label) c.want_by (pos 0))
  pub place : EachLabel (sheet_of c.before) (λ i.
      place_change (placement c.before) (placement c.after) i ≃ c.places_by)

abbrev pub RightCase : Case → Type 0
RightCase (placed c) = RightPlaced c
RightCase (refused c) = RightRefused c
RightCase (moved c) = RightMoved c
