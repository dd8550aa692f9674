-- Passes that write the front of a list: what holds after k turns, one turn more, and the end.
use Prim.Native.Nat.{ℕ, ◌+◌, ◌≤◌, ◌<◌}
use native.Mathlib.Omega.{arith}
use borrow.Author.Count.{below_more}
use mathlib.Core.Path.{◌≡◌, sym, ◌∙◌}
use mathlib.Core.List.{List}
use lib.ListN.{length, get_or, set, take, drop, get_or-append}
use lib.Seq.{drop_at, get_or-take, get_or-set_same, get_or-set_other, length-take-le}
use native.Mathlib.Nat.{eq-one_of_dvd-one}
use lib.IntN.{ℤ, pos, *ℤ_comm, *ℤ-zero}
use lib.Signed.{◌<ℤ◌}
use Rattle.algebra.proofs.Whole.{parts_lt}
use Rattle.exact.specs.declared.Fraction.{Fraction}
use Rattle.exact.specs.Fraction.{Reduced, fraction_at}
use Rattle.ground.specs.Entries.{over}
use Rattle.ground.proofs.Copying.{filled_turn, over_length}
use Rattle.core_project.specs.Project.{Copied, FrontWritten, FractionsWritten}

module _ {A : Type 0} where
  -- an entry that a store at k leaves
  stays : (l : List A) (k j : ℕ) (v none : A) → j < k → get_or (set l k v) j none ≡ get_or l j none
  stays l k j v none h = get_or-set_other l k j v none (λ (e : j ≡ k). omega arith)

  -- A copy: the first entries are the source's, and what lies behind stays.
  pub copied_in : (n : ℕ) (from to : List A) (none : A) → n ≤ length from → Copied n from (over n from to) none
  copied_in n from to none h k l =
      get_or-append (take n from) (drop n to) none k (omega (arith, length-take-le n from h)) ∙ get_or-take n from k none l

  -- the same where an equation tells the list
  pub copied_by : (n : ℕ) (from to : List A) {m : ℕ} {after : List A} (none : A) → after ≡ over n from to → n ≤ length from → m ≡ n → Copied m from after none
  copied_by n from to none is h same = rw (is, same) (copied_in n from to none h)

  pub copied_out : (n : ℕ) (from to : List A) {after : List A} (none : A) → after ≡ over n from to → n ≤ length from → n ≤ length to → FrontWritten n from to after none
  copied_out n from to none is h g =
      rw is
      (record {
        filled = record { size = over_length from to n h g; beyond = drop_at (take n from) (drop n to) n (length-take-le n from h) };
        written = copied_in n from to none h;
      })

-- The pass that reduces: after k turns the first k fractions are the source's in lowest terms.
pub reduced_turn : {k : ℕ} {num den upper₀ lower₀ upper lower : List ℤ} (q : Fraction) → FractionsWritten k num den upper₀ lower₀ upper lower → k < length upper → k < length lower → Reduced (fraction_at num den k) q → FractionsWritten (k + 1) num den upper₀ lower₀ (set upper k q.num) (set lower k q.den)
reduced_turn {k} {num} {den} {upper₀} {lower₀} {upper} {lower} q w above below r =
    record {
      uppers = filled_turn k upper₀ upper q.num w.uppers;
      lowers = filled_turn k lower₀ lower q.den w.lowers;
      reduced =
          below_more (λ j. Reduced (fraction_at num den j) (fraction_at (set upper k q.num) (set lower k q.den) j)) k
          (λ j h. rw (stays upper k j q.num (pos 0) h, stays lower k j q.den (pos 0) h) (w.reduced j h))
          (rw (get_or-set_same upper k q.num (pos 0) above, get_or-set_same lower k q.den (pos 0) below) r);
    }

-- zero in lowest terms
pub zero_reduced : (q : Fraction) → q.num ≡ pos 0 → pos 0 <ℤ q.den → Reduced q (record { num = pos 0; den = pos 1 })
zero_reduced q z above =
    record {
      same = rw z (*ℤ_comm (pos 0) q.den ∙ *ℤ-zero q.den ∙ sym (*ℤ-zero (pos 1)) ∙ *ℤ_comm (pos 1) (pos 0));
      lowest = record { above = parts_lt (omega arith); reduced = λ k _ one. eq-one_of_dvd-one one };
    }
