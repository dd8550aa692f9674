-- Bytes of a proposal that are copied, wished and let go.
use Prim.Native.Nat.{ℕ, zero, suc, ◌+◌, ◌≤◌, ◌<◌}
use native.Mathlib.Omega.{arith}
use native.Mathlib.Numerals.{add-one}
use mathlib.Core.Path.{◌≡◌, refl, ap, ◌∙◌}
use mathlib.Core.Logic.{◌⊎◌, inl, inr, ⊎_elim}
use mathlib.Core.Bool.{true, false, false≢true, true≢false}
use mathlib.Core.List.{List, [], ◌∷◌}
use lib.Dec.{ltb}
use lib.ListN.{length, set}
use lib.Seq.{set_out, get_or-set_same, get_or-set_other}
use borrow.Author.Tests.{eq-eqb, ne_eqb, ltb-true, ltb-false}
use Rattle.least_move.proofs.Forest.{by_mark}
use Rattle.ground.specs.Entries.{nat}
use Rattle.core_guess.specs.Guess.{Extended, Unwished, Wished, any_marked}
use Rattle.core_guess.proofs.Joining.{by_index}

-- ---- the search for a mark: one gap more

pub marked_here : (e : ℕ) (carried : List ℕ) → nat carried e ≡ 1 → true ≡ any_marked (e + 1) carried
marked_here e carried h = rw (add-one e, eq-eqb (nat carried e) 1 h)

pub marked_not : (e : ℕ) (carried : List ℕ) → (nat carried e ≡ 1 → ⊥) → any_marked e carried ≡ any_marked (e + 1) carried
marked_not e carried h = rw (add-one e, ne_eqb (nat carried e) 1 h)

-- ---- wishes

pub wished_none : {gaps : ℕ} {wish : List ℕ} → Wished gaps wish wish
wished_none = record { each = λ e. inl refl; beyond = λ e h. refl }

pub wished_then : {gaps : ℕ} {a b c : List ℕ} → Wished gaps a b → Wished gaps b c → Wished gaps a c
wished_then x y =
    record {
      each = λ e. ⊎_elim (λ q. ⊎_elim (λ p. inl (q ∙ p)) (λ p. inr (omega (arith, p, q))) (x.each e)) (λ q. inr q) (y.each e);
      beyond = λ e h. y.beyond e h ∙ x.beyond e h;
    }

-- an entry after a store is what was stored or what it was
set_either : (xs : List ℕ) (i j v : ℕ) → (nat (set xs i v) j ≡ nat xs j) ⊎ (nat (set xs i v) j ≡ v)
set_either xs i j v =
    by_index j i
    (λ (p : j ≡ i).
    rw p
    (by_mark (ltb i (length xs))
    (λ t. inr (get_or-set_same xs i v 0 (ltb-true i (length xs) t)))
    (λ t. inl (ap (λ (l : List ℕ). nat l i) (set_out xs i v (ltb-false i (length xs) t))))))
    (λ d. inl (get_or-set_other xs i j v 0 d))

pub wished_one : {gaps : ℕ} {wish : List ℕ} (e v : ℕ) → e < gaps → v ≤ 1 → Wished gaps wish (set wish e v)
wished_one {gaps} {wish} e v within small =
    record {
      each = λ j. ⊎_elim (λ q. inl q) (λ q. inr (omega (arith, q))) (set_either wish e j v);
      beyond = λ j h. get_or-set_other wish e j v 0 (omega arith);
    }

-- ---- no gap is wished: one gap more

pub unwished_start : {wish : List ℕ} → Unwished 0 wish wish
unwished_start = record { each = λ e h. absurd (omega arith); beyond = λ e h. refl }

-- a stored zero needs no room: it is what an index past the end reads
pub zero_stored : (xs : List ℕ) (i : ℕ) → nat (set xs i 0) i ≡ 0
zero_stored [] i = refl
zero_stored (x ∷ xs) zero = refl
zero_stored (x ∷ xs) (suc i) = zero_stored xs i

pub unwished_more : {e : ℕ} {wish₀ wish : List ℕ} → Unwished e wish₀ wish → Unwished (e + 1) wish₀ (set wish e 0)
unwished_more {e} {wish₀} {wish} u =
    record {
      each = λ j h. by_index j e (λ (p : j ≡ e). rw p (zero_stored wish e)) (λ d. get_or-set_other wish e j 0 0 d ∙ u.each j (omega arith));
      beyond = λ j h. get_or-set_other wish e j 0 0 (omega arith) ∙ u.beyond j (omega arith);
    }

-- all gaps are passed
pub unwished_end : {gaps e : ℕ} {wish₀ wish : List ℕ} → e ≤ gaps → gaps ≤ e → Unwished e wish₀ wish → Unwished gaps wish₀ wish
unwished_end {gaps} {e} l g u = let p : e ≡ gaps = omega arith in rw p at u

-- ---- an extension

pub extended_no : {gaps : ℕ} {wish : List ℕ} → Extended false gaps wish wish
extended_no = record { no = λ _. refl; yes = λ t. absurd (false≢true t); beyond = λ e h. refl }

-- wishes anew
pub extended_yes : {gaps : ℕ} {wish₀ wish₁ wish : List ℕ} → Unwished gaps wish₀ wish₁ → Wished gaps wish₁ wish → Extended true gaps wish₀ wish
extended_yes u w =
    record {
      no = λ h. absurd (true≢false h);
      yes = λ _ e h. ⊎_elim (λ q. omega (arith, q, u.each e h)) (λ q. q) (w.each e);
      beyond = λ e h. w.beyond e h ∙ u.beyond e h;
    }
