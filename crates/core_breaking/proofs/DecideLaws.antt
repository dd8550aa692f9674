-- What the code of `decide` asks: the meeting point's parts fit 64 bits, and each arm answers as `decided` does.
use Prim.Native.Nat.{◌≤◌}
use mathlib.Core.Path.{◌≡◌, sym, ◌∙◌, ap, ap₂}
use native.Mathlib.Omega.{arith}
use lib.IntN.{ℤ, pos, nat_abs, ◌+ℤ◌, ◌-ℤ◌, ◌*ℤ◌}
use Rattle.exact.specs.declared.Fraction.{Fraction}
use Rattle.std.specs.Prelude.{Option, Some, None}
use Rattle.std.specs.declared.cmp.Ordering.{Ordering}
use Rattle.exact.specs.Divide.{InRange, order_of}
use Rattle.algebra.proofs.Whole.{le_parts, parts_le, parts_lt, parts-+}
use Rattle.algebra.proofs.Quotient.{kept}
use Rattle.core_elimination.specs.declared.Sums.{Sums}
use Rattle.core_elimination.specs.Block.{SumsInRange}
use Rattle.core_elimination.proofs.Ranges.{Reads, same, word, plus, minus, times, total_word, wanted_total}
use Rattle.core_breaking.specs.declared.BreakingPoint.{BreakingPoint}
use Rattle.core_breaking.specs.declared.Outcome.TheVariants.{Reached}
use Rattle.core_breaking.specs.declared.Side.{Side}
use Rattle.core_breaking.specs.Breaking.{over, nearer_of}
use Rattle.core_breaking.specs.Decide.{meeting_of, before_tight, against_tight, decided}

-- ---- the meeting point, part by part: what is computed of parts that are read back from their bits is the part itself, and is small

module _ (h : ℤ) (one two : Sums) (step : nat_abs h ≤ 20000) (in₁ : SumsInRange one) (in₂ : SumsInRange two) where
  pub both : Reads (kept one.weight *ℤ kept two.weight) (one.weight *ℤ two.weight) 29859840000
  both = times (total_word in₁) (total_word in₂)

  pub first : Reads (kept one.wanted *ℤ kept two.weight) (one.wanted *ℤ two.weight) 45984153600000000
  first = times (wanted_total in₁) (total_word in₂)

  pub second : Reads (kept h *ℤ kept (kept one.weight *ℤ kept two.weight)) (h *ℤ (one.weight *ℤ two.weight)) 597196800000000
  second = times (word (same h step) (omega arith)) (word both (omega arith))

  abbrev ahead_read : ℤ
  ahead_read = kept (kept one.wanted *ℤ kept two.weight) +ℤ kept (kept h *ℤ kept (kept one.weight *ℤ kept two.weight))

  pub ahead : Reads ahead_read (one.wanted *ℤ two.weight +ℤ h *ℤ (one.weight *ℤ two.weight)) 46581350400000000
  ahead = plus (word first (omega arith)) (word second (omega arith))

  pub third : Reads (kept two.wanted *ℤ kept one.weight) (two.wanted *ℤ one.weight) 45984153600000000
  third = times (wanted_total in₂) (total_word in₁)

  abbrev gap_read : ℤ
  gap_read = kept ahead_read -ℤ kept (kept two.wanted *ℤ kept one.weight)

  pub gap : Reads gap_read (one.wanted *ℤ two.weight +ℤ h *ℤ (one.weight *ℤ two.weight) -ℤ two.wanted *ℤ one.weight) 92565504000000000
  gap = minus (word ahead (omega arith)) (word third (omega arith))

  pub met : Reads (pos 2 *ℤ kept gap_read) (meeting_of h one two) 185131008000000000
  met = times {m = 2} (same (pos 2) (omega arith)) (word gap (omega arith))

  -- ---- over the sum of the weights

  pub weights : Reads (kept one.weight +ℤ kept two.weight) (one.weight +ℤ two.weight) 345600
  weights = plus (total_word in₁) (total_word in₂)

  abbrev pub tight : Fraction
  tight = over (meeting_of h one two) (one.weight +ℤ two.weight)

  pub tight_in_range : InRange tight
  tight_in_range =
      record {
        above = parts_lt (omega (arith, le_parts in₁.weight_low, le_parts in₂.weight_low, parts-+ one.weight two.weight));
        den_most = parts_le (omega (arith, le_parts in₁.weight_high, le_parts in₂.weight_high, parts-+ one.weight two.weight));
        num_most = omega (arith, met.most);
      }

  -- as the code holds it, m being what `meeting` gives
  module _ {m : ℤ} (is : m ≡ meeting_of (kept h) one two) where
    pub tight_read : over (kept m) (kept (kept one.weight +ℤ kept two.weight)) ≡ tight
    tight_read =
        let num = word (record { is = is ∙ ap (λ (x : ℤ). meeting_of x one two) (word (same h step) (omega arith)).is; most = met.most }) (omega arith) in
        ap₂ over num.is (word weights (omega arith)).is

    pub tight_read_in_range : InRange (over (kept m) (kept (kept one.weight +ℤ kept two.weight)))
    tight_read_in_range = rw tight_read tight_in_range

-- ---- the arms

pub decides_none : (h : ℤ) (one two : Side) {first : Option BreakingPoint} → first ≡ nearer_of one.first two.first → first ≡ None → Reached ≡ decided h one two
decides_none h one two near none = ap (against_tight h one.sums two.sums) (sym none ∙ near)

pub decides_at : (h : ℤ) (one two : Side) {first : Option BreakingPoint} {x : BreakingPoint} {m : ℤ} {o : Ordering} (step : nat_abs h ≤ 20000) (in₁ : SumsInRange one.sums) (in₂ : SumsInRange two.sums)
    → first ≡ nearer_of one.first two.first → first ≡ Some x → m ≡ meeting_of (kept h) one.sums two.sums
    → o ≡ order_of x.push (over (kept m) (kept (kept one.sums.weight +ℤ kept two.sums.weight))) → before_tight o x.gap ≡ decided h one two
decides_at h one two {x = x} step in₁ in₂ near is met by =
    ap (λ (o : Ordering). before_tight o x.gap) (by ∙ ap (order_of x.push) (tight_read h one.sums two.sums step in₁ in₂ met))
    ∙ ap (against_tight h one.sums two.sums) (sym is ∙ near)
