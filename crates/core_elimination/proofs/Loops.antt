-- What the loops over a block share: a work array after k turns, each of which gives one label of the queue its
-- entry.
use mathlib.Core.Path.{◌≡◌, refl, sym, ◌∙◌, ap}
use mathlib.Core.Bool.{Bool, cond}
use mathlib.Core.List.{List}
use Prim.Native.Nat.{ℕ, ◌+◌, ◌≤◌, ◌<◌}
use native.Mathlib.Omega.{arith}
use native.Mathlib.Decide.{dec_lt}
use native.Mathlib.Numerals.{add-one}
use borrow.Author.Tests.{eq-eqb, ne_eqb}
use lib.ListN.{length, set, length-set}
use lib.Seq.{get_or-set_same, get_or-set_other}
use lib.IntN.{ℤ, pos, ◌+ℤ◌}
use Rattle.algebra.specs.Sum.{sum}
use Rattle.algebra.proofs.Sum.{sum_last}
use Rattle.ground.specs.Entries.{nat, int}
use Rattle.core_elimination.specs.Block.{Listed, Given, only_at}

-- a sum of one term more, as a turn adds it
pub sum_next : (f : ℕ → ℤ) (k : ℕ) {r : ℤ} → r ≡ sum k f +ℤ f k → r ≡ sum (k + 1) f
sum_next f k e = e ∙ sym (sum_last k f) ∙ ap (λ n. sum n f) (sym (add-one k))

-- a work array before the turn k
pub record Filled (count : ℕ) (queue : List ℕ) (f : ℕ → ℤ) (before : List ℤ) (k : ℕ) (after : List ℤ) : Type 0 where
  pub within : k ≤ count
  pub long : length after ≡ 48
  pub given : Given k queue f before after

-- before the first turn nothing is given
pub fill_none : (count : ℕ) (queue : List ℕ) (f : ℕ → ℤ) (before : List ℤ) → length before ≡ 48 → Filled count queue f before 0 before
fill_none count queue f before e = record {
  within = omega arith;
  long = e;
  given = record { inside = λ k h. absurd (omega arith); outside = λ x n. refl };
}

module _ {count : ℕ} {queue : List ℕ} {f : ℕ → ℤ} {before : List ℤ} {k : ℕ} {after : List ℤ} where
  -- one turn more
  pub fill_more : (v : ℤ) → Listed count queue → k < count → v ≡ f (nat queue k) → Filled count queue f before k after → Filled count queue f before (k + 1) (set after (nat queue k) v)
  fill_more v l h e s = record {
    within = omega arith;
    long = length-set after (nat queue k) v ∙ s.long;
    given = record {
      inside = λ j i. go j i (dec_lt j k);
      outside = λ x n.
          get_or-set_other after (nat queue k) x v (pos 0) (λ (p : x ≡ nat queue k). n k (omega arith) (sym p))
          ∙ s.given.outside x (λ j i. n j (omega arith));
    };
  }
    where
      go : (j : ℕ) → j < k + 1 → Dec (j < k) → int (set after (nat queue k) v) (nat queue j) ≡ f (nat queue j)
      go j i (yes b) = get_or-set_other after (nat queue k) (nat queue j) v (pos 0) (l.distinct j k b h) ∙ s.given.inside j b
      go j i (no b) =
          let q : j ≡ k = omega arith in
          rw q (get_or-set_same after (nat queue k) v (pos 0) (omega (arith, l.labels_in k h, s.long)) ∙ e)

  -- after the last turn
  pub fill_all : count ≤ k → Filled count queue f before k after → Given count queue f before after
  fill_all h s = let q : k ≡ count = omega arith in rw q at s.given

-- what share_at gives a label, by its test
pub only_here : (v : ℕ) (share : ℤ) (x : ℕ) → x ≡ v → share ≡ only_at v share x
only_here v share x e = ap (λ (b : Bool). cond b share (pos 0)) (sym (eq-eqb x v e))

pub only_elsewhere : (v : ℕ) (share : ℤ) (x : ℕ) → (x ≡ v → ⊥) → pos 0 ≡ only_at v share x
only_elsewhere v share x d = ap (λ (b : Bool). cond b share (pos 0)) (sym (ne_eqb x v d))
