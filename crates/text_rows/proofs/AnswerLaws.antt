-- What the field readers tell of a field: its sign, and a blank.
use Prim.Native.Nat.{ℕ, zero, suc, ◌-◌, ◌≤◌, ◌<◌}
use mathlib.Core.Path.{◌≡◌, refl}
use mathlib.Core.List.{List, [], ◌∷◌}
use native.Mathlib.Omega.{arith}
use borrow.Author.Tests.{eq-eqb, ne_eqb}
use lib.ListN.{length, take, drop, get_or}
use lib.Seq.{take_all}
use lib.IntN.{ℤ, pos, neg_ℤ, ◌-ℤ◌, +ℤ_idl}
use lib.Signed.{mag}
use mir.Syntax.{w64}
use mir.Val.{SFits, to_z, of_z}
use mir.ValLaws.{to_z_pos, to_z-of_z}
use Rattle.std.specs.Prelude.{Option, None, Some, option_map}
use Rattle.text_rows.specs.Numeral.{minus, number, signed, weight_of}
use Rattle.text_rows.proofs.DigitLaws.{number_small}

-- ---- digits without a sign: fewer than a thousand millions, which fit with either sign

pub record Unsigned (z : ℤ) : Type 0 where
  pub n : ℕ
  pub same : z ≡ pos n
  pub small : n < 1000000000

pub unsigned_small : (f : List ℕ) (z : ℤ) → Some z ≡ option_map pos (number f) → Unsigned z
unsigned_small f z e = go (number f) refl e
  where
    go : (o : Option ℕ) → number f ≡ o → Some z ≡ option_map pos o → Unsigned z
    go None p q = absurd (cc)
    go (Some n) p q = record { n = n; same = cc; small = number_small f n p }

negated_mag : (n : ℕ) → mag (neg_ℤ (pos n)) ≤ n
negated_mag zero = omega arith
negated_mag (suc n) = omega arith

-- a number of nine digits fits with either sign
module _ (n : ℕ) (small : n < 1000000000) where
  pub plain_fits : SFits w64 (pos n)
  plain_fits = record { sfits = omega arith }

  pub plain_bits : to_z w64 n ≡ pos n
  plain_bits = to_z_pos w64 n (omega arith)

  pub negated_fits : SFits w64 (pos 0 -ℤ to_z w64 n)
  negated_fits = rw (plain_bits, +ℤ_idl (neg_ℤ (pos n))) (record { sfits = omega (arith, negated_mag n) })

-- as the machine reads it back from its bits
pub negated_bits : (z : ℤ) → Unsigned z → to_z w64 (of_z w64 (pos 0 -ℤ to_z w64 (of_z w64 z))) ≡ neg_ℤ z
negated_bits z u =
    let plain : to_z w64 (of_z w64 (pos u.n)) ≡ pos u.n = to_z-of_z w64 (pos u.n) (plain_fits u.n u.small) in
    let fits : SFits w64 (neg_ℤ (pos u.n)) = record { sfits = omega (arith, u.small, negated_mag u.n) } in
    rw (u.same, plain, +ℤ_idl (neg_ℤ (pos u.n))) (to_z-of_z w64 (neg_ℤ (pos u.n)) fits)

-- ---- signs and blanks

pub weight_blank : (f : List ℕ) → length f ≡ 0 → Some (pos 10) ≡ weight_of f
unfolding weight_of
weight_blank [] e = refl
weight_blank (b ∷ bs) e = absurd (omega arith)

pub weight_plain : (f : List ℕ) → (length f ≡ 0 → ⊥) → option_map pos (number f) ≡ weight_of f
unfolding weight_of
weight_plain [] l = absurd (omega arith)
weight_plain (b ∷ bs) l = refl

pub signed_plain : (f : List ℕ) → (0 < length f → get_or f 0 0 ≡ minus → ⊥) → option_map pos (number f) ≡ signed f
unfolding signed number
signed_plain [] h = refl
signed_plain (b ∷ bs) h = rw (ne_eqb b minus (h (omega arith)))

-- what the part after the first byte tells, turned
pub signed_minus :
    (f : List ℕ) → 0 < length f → get_or f 0 0 ≡ minus → (o : Option ℤ) → o ≡ option_map pos (number (take (length f - 1) (drop 1 f)))
    → option_map neg_ℤ o ≡ signed f
unfolding signed
signed_minus [] l h o e = absurd (omega arith)
signed_minus (b ∷ bs) l h o e =
    rw (e, eq-eqb b minus h, take_all (suc (length bs) - 1) bs (omega arith)) (turned (number bs))
  where
    turned : (t : Option ℕ) → option_map neg_ℤ (option_map pos t) ≡ option_map (λ n. neg_ℤ (pos n)) t
    turned None = refl
    turned (Some n) = refl
