-- The laws of the two roundings: the nearest whole number, and of two as near the one further from zero, or the larger.
use mathlib.Core.Path.{◌≡◌, refl, sym, ◌∙◌, ap}
use mathlib.Core.Logic.{◌⊎◌, inl, inr, ⊎_elim}
use mathlib.Core.Bool.{Bool, true, false, cond}
use mathlib.Core.List.{List, [], ◌∷◌}
use Prim.Native.Nat.{ℕ, zero, suc, ◌+◌, ◌*◌, ◌-◌, ◌/◌, ◌%◌, ◌≤◌, ◌<◌}
use native.Mathlib.Omega.{arith}
use native.Mathlib.Nat.{div-add-mod', mod-lt, mul-le-mul, lt_of_mul-lt-mul_right}
use lib.Dec.{ltb}
use borrow.Author.Tests.{ltb-true, ltb-false}
use lib.IntN.{ℤ, pos, negsuc, neg_ℤ, nat_abs, ◌+ℤ◌, ◌-ℤ◌, ◌*ℤ◌, *ℤ_comm, neg_ℤ-+ℤ}
use lib.Signed.{◌≤ℤ◌, ◌<ℤ◌}
use Rattle.exact.specs.declared.Fraction.{Fraction}
use Rattle.exact.specs.Fraction.{IsFraction, ◌≃◌, ◌≼◌, ◌⊕◌, whole}
use Rattle.exact.specs.Nearest.{on_side, nearest_magnitude, round_ties_to_away, floor_of, round_half_up, off, Nearest, TiesToAway, TiesUp, HalfUp}
use Rattle.algebra.proofs.Whole.{pp, nn, parts-+, pp_neg, nn_neg, le_parts, parts_le, lt_parts, parts_lt, one_part, parts_nat_abs, by_parts}
use Rattle.algebra.proofs.Whole.{negℤ_*ℤ, *ℤ-cancel, le_antisym, le_of_eq, le_of_lt, le_or_lt, not_le_of_lt, *ℤ-le, *ℤ-lt, *ℤ-above}
use Rattle.algebra.proofs.Ring.{quotes, ring, le_given, le_goal, lt_given, lt_goal, eq_given, eq_goal}
use Rattle.algebra.proofs.Quotient.{nat_abs-neg, nat_abs-*, nat_abs-+, nat_abs-above, above_nat_abs, pos_of_above, next_le}

-- ---- how far the rounded number is off

-- x is below a by less than a half of d, or above it by at most a half
abbrev Near : ℕ → ℕ → ℕ → Type 0
Near a d x = ((x ≤ a) × (2 * (a - x) < d)) ⊎ ((a ≤ x) × (2 * (x - a) ≤ d))

near : (a d : ℕ) → 0 < d → Near a d (nearest_magnitude a d * d)
near a d h = go (ltb (2 * (a % d)) d) refl
  where
    go : (t : Bool) → ltb (2 * (a % d)) d ≡ t → Near a d (cond t (a / d) (a / d + 1) * d)
    go true e = inl (omega (arith, div-add-mod' a d), omega (arith, div-add-mod' a d, ltb-true (2 * (a % d)) d e))
    go false e =
        inr
        (omega (arith, div-add-mod' a d, mod-lt a h), omega (arith, div-add-mod' a d, mod-lt a h, ltb-false (2 * (a % d)) d e))

gap_nat_abs : (x a : ℕ) → nat_abs (pos x -ℤ pos a) ≡ (x - a) + (a - x)
gap_nat_abs x a =
    ⊎_elim
    (λ (e : nn (pos x -ℤ pos a) ≡ 0). omega (arith, parts_nat_abs (pos x -ℤ pos a), parts-+ (pos x) (neg_ℤ (pos a)), pp_neg (pos a), nn_neg (pos a)))
    (λ (e : pp (pos x -ℤ pos a) ≡ 0). omega (arith, parts_nat_abs (pos x -ℤ pos a), parts-+ (pos x) (neg_ℤ (pos a)), pp_neg (pos a), nn_neg (pos a)))
    (one_part (pos x -ℤ pos a))

-- the distance of a whole number on num's side of zero from num/den, times den: the same on either side
pub off_side : (num den : ℤ) (m : ℕ) → pos 0 <ℤ den → nat_abs (on_side num m *ℤ den -ℤ num) ≡ (m * nat_abs den - nat_abs num) + (nat_abs num - m * nat_abs den)
off_side (pos a) (pos d) m h = gap_nat_abs (m * d) a
off_side (negsuc a) (pos d) m h =
    ap (λ (v : ℤ). nat_abs (v -ℤ negsuc a)) (negℤ_*ℤ (pos m) (pos d))
    ∙ ap nat_abs (sym (neg_ℤ-+ℤ (pos (m * d)) (negsuc a)))
    ∙ nat_abs-neg (pos (m * d) -ℤ pos (suc a))
    ∙ gap_nat_abs (m * d) (suc a)
off_side (pos a) (negsuc d) m h = absurd (omega (arith, lt_parts h))
off_side (negsuc a) (negsuc d) m h = absurd (omega (arith, lt_parts h))

-- of the rounded number
error : (num den : ℤ) → pos 0 <ℤ den → (let x : ℕ = nearest_magnitude (nat_abs num) (nat_abs den) * nat_abs den in nat_abs (round_ties_to_away num den *ℤ den -ℤ num) ≡ (x - nat_abs num) + (nat_abs num - x))
unfolding round_ties_to_away
error num den h = off_side num den (nearest_magnitude (nat_abs num) (nat_abs den)) h

nat_abs-round : (num den : ℤ) → nat_abs (round_ties_to_away num den) ≡ nearest_magnitude (nat_abs num) (nat_abs den)
unfolding round_ties_to_away
nat_abs-round (pos a) den = refl
nat_abs-round (negsuc a) den = nat_abs-neg (pos (nearest_magnitude (suc a) (nat_abs den)))

-- of the multiples of d the one within a half of d is the nearest to n
module _ (r z d n : ℤ) (above : pos 0 <ℤ d) (half : 2 * nat_abs (r *ℤ d -ℤ n) ≤ nat_abs d) where
  before : z <ℤ r → nat_abs (r *ℤ d -ℤ n) ≤ nat_abs (z *ℤ d -ℤ n)
  before h =
      let ρ : List ℤ = r ∷ z ∷ d ∷ n ∷ [] in
      let k : (z *ℤ d -ℤ n +ℤ d) ≤ℤ (r *ℤ d -ℤ n) =
      le_goal ρ (search quotes depth 12) (search quotes depth 12)
      (omega (arith, le_given ρ (search quotes depth 12) (search quotes depth 12) (*ℤ-le (le_of_lt above) (next_le h)))) in
      omega
      (arith, above_nat_abs above, le_parts k, parts-+ (z *ℤ d -ℤ n) d, parts_nat_abs (r *ℤ d -ℤ n), parts_nat_abs (z *ℤ d -ℤ n))

  after : r <ℤ z → nat_abs (r *ℤ d -ℤ n) ≤ nat_abs (z *ℤ d -ℤ n)
  after h =
      let ρ : List ℤ = r ∷ z ∷ d ∷ n ∷ [] in
      let k : (r *ℤ d -ℤ n +ℤ d) ≤ℤ (z *ℤ d -ℤ n) =
      le_goal ρ (search quotes depth 12) (search quotes depth 12)
      (omega (arith, le_given ρ (search quotes depth 12) (search quotes depth 12) (*ℤ-le (le_of_lt above) (next_le h)))) in
      omega
      (arith, above_nat_abs above, le_parts k, parts-+ (r *ℤ d -ℤ n) d, parts_nat_abs (r *ℤ d -ℤ n), parts_nat_abs (z *ℤ d -ℤ n))

  nearest_of : nat_abs (r *ℤ d -ℤ n) ≤ nat_abs (z *ℤ d -ℤ n)
  nearest_of = go (le_or_lt r z) (le_or_lt z r)
    where
      go : (r ≤ℤ z) ⊎ (z <ℤ r) → (z ≤ℤ r) ⊎ (r <ℤ z) → nat_abs (r *ℤ d -ℤ n) ≤ nat_abs (z *ℤ d -ℤ n)
      go (inr h) k = before h
      go (inl h) (inr k) = after k
      go (inl h) (inl k) = omega (arith, ap (λ (v : ℤ). nat_abs (v *ℤ d -ℤ n)) (le_antisym h k))

-- ---- the laws of IEEE 754

module _ (num den : ℤ) (above : pos 0 <ℤ den) where
  rounded_near : Near (nat_abs num) (nat_abs den) (nearest_magnitude (nat_abs num) (nat_abs den) * nat_abs den)
  rounded_near = near (nat_abs num) (nat_abs den) (omega (arith, above_nat_abs above))

  -- the error is at most a half
  within_half : 2 * nat_abs (round_ties_to_away num den *ℤ den -ℤ num) ≤ nat_abs den
  within_half = go rounded_near
    where
      go : Near (nat_abs num) (nat_abs den) (nearest_magnitude (nat_abs num) (nat_abs den) * nat_abs den) → 2 * nat_abs (round_ties_to_away num den *ℤ den -ℤ num) ≤ nat_abs den
      go (inl w) = omega (arith, error num den above)
      go (inr w) = omega (arith, error num den above)

  -- no whole number is nearer
  nearest : (z : ℤ) → nat_abs (round_ties_to_away num den *ℤ den -ℤ num) ≤ nat_abs (z *ℤ den -ℤ num)
  nearest z = nearest_of (round_ties_to_away num den) z den num above within_half

  -- a half goes away from zero
  ties_away : 2 * nat_abs (round_ties_to_away num den *ℤ den -ℤ num) ≡ nat_abs den → nat_abs num ≤ nat_abs (round_ties_to_away num den *ℤ den)
  ties_away half = go rounded_near
    where
      size : nat_abs (round_ties_to_away num den *ℤ den) ≡ nearest_magnitude (nat_abs num) (nat_abs den) * nat_abs den
      size = nat_abs-* (round_ties_to_away num den) den ∙ ap (λ (m : ℕ). m * nat_abs den) (nat_abs-round num den)

      go : Near (nat_abs num) (nat_abs den) (nearest_magnitude (nat_abs num) (nat_abs den) * nat_abs den) → nat_abs num ≤ nat_abs (round_ties_to_away num den *ℤ den)
      go (inl w) = absurd (omega (arith, error num den above))
      go (inr w) = omega (arith, size)

-- ---- of two as near: halves away from zero

-- numbers of one magnitude
same_magnitude : (x y : ℤ) → nat_abs x ≡ nat_abs y → (x ≡ y) ⊎ (x ≡ neg_ℤ y)
same_magnitude (pos a) (pos b) e = inl (ap pos e)
same_magnitude (pos a) (negsuc b) e = inr (ap pos e)
same_magnitude (negsuc a) (pos b) e = inr (ap (λ (n : ℕ). neg_ℤ (pos n)) e)
same_magnitude (negsuc a) (negsuc b) e = inl (ap (λ (n : ℕ). neg_ℤ (pos n)) e)

-- two numbers as far from n are one, or n is in the middle
mirror : (x y n : ℤ) → nat_abs (x -ℤ n) ≡ nat_abs (y -ℤ n) → (x ≡ y) ⊎ (x +ℤ y ≡ n +ℤ n)
mirror x y n e = go (same_magnitude (x -ℤ n) (y -ℤ n) e)
  where
    ρ : List ℤ
    ρ = x ∷ y ∷ n ∷ []

    go : (x -ℤ n ≡ y -ℤ n) ⊎ (x -ℤ n ≡ neg_ℤ (y -ℤ n)) → (x ≡ y) ⊎ (x +ℤ y ≡ n +ℤ n)
    go (inl k) =
        inl
        (eq_goal ρ (search quotes depth 12) (search quotes depth 12)
        (omega (arith, eq_given ρ (search quotes depth 12) (search quotes depth 12) k)))
    go (inr k) =
        inr
        (eq_goal ρ (search quotes depth 12) (search quotes depth 12)
        (omega (arith, eq_given ρ (search quotes depth 12) (search quotes depth 12) k)))

-- a number whose parts differ by less than b
within : (v : ℤ) (b : ℕ) → pp v < nn v + b → nn v < pp v + b → nat_abs v < b
within (pos n) b h k = omega arith
within (negsuc n) b h k = omega arith

-- of two multiples with n in the middle, half of d away, the one past n on n's side of zero is of larger magnitude
larger : (num den y : ℤ) (m : ℕ) → pos 0 <ℤ den → 2 * (m * nat_abs den) ≡ 2 * nat_abs num + nat_abs den → y *ℤ den +ℤ on_side num m *ℤ den ≡ num +ℤ num → nat_abs (y *ℤ den) < m * nat_abs den
larger num den y zero h half e = absurd (omega (arith, half, above_nat_abs h))
larger (pos a) (pos d) y (suc k) h half e =
    let sum : pp (y *ℤ pos d) + suc k * d ≡ a + a + nn (y *ℤ pos d) = omega (arith, parts-+ (y *ℤ pos d) (pos (suc k * d)), ap pp e, ap nn e) in
    within (y *ℤ pos d) (suc k * d) (omega (arith, half, sum, above_nat_abs h)) (omega (arith, half, sum, above_nat_abs h))
larger (negsuc a) (pos d) y (suc k) h half e =
    within (y *ℤ pos d) (suc k * d) (omega (arith, half, sum, above_nat_abs h)) (omega (arith, half, sum, above_nat_abs h))
  where
    turned : y *ℤ pos d +ℤ neg_ℤ (pos (suc k * d)) ≡ negsuc a +ℤ negsuc a
    turned = ap (λ (v : ℤ). y *ℤ pos d +ℤ v) (sym (negℤ_*ℤ (pos (suc k)) (pos d))) ∙ e

    sum : nn (y *ℤ pos d) + suc k * d ≡ suc a + suc a + pp (y *ℤ pos d)
    sum = omega (arith, parts-+ (y *ℤ pos d) (neg_ℤ (pos (suc k * d))), pp_neg (pos (suc k * d)), nn_neg (pos (suc k * d)), ap pp turned, ap nn turned)
larger (pos a) (negsuc d) y (suc k) h half e = absurd (omega (arith, lt_parts h))
larger (negsuc a) (negsuc d) y (suc k) h half e = absurd (omega (arith, lt_parts h))

module _ (num den : ℤ) (above : pos 0 <ℤ den) (y : ℤ) where
  abbrev z : ℤ
  z = round_ties_to_away num den

  -- with num/den in the middle twice the error is what lies between the two
  twice_off : y *ℤ den +ℤ z *ℤ den ≡ num +ℤ num → 2 * off num den z ≡ nat_abs (z -ℤ y) * nat_abs den
  twice_off e =
      let ρ : List ℤ = z ∷ y ∷ den ∷ num ∷ [] in
      let doubled : pos 2 *ℤ (z *ℤ den -ℤ num) ≡ (z -ℤ y) *ℤ den =
      eq_goal ρ (search quotes depth 12) (search quotes depth 12)
      (omega (arith, eq_given ρ (search quotes depth 12) (search quotes depth 12) e)) in
      sym (nat_abs-* (pos 2) (z *ℤ den -ℤ num)) ∙ ap nat_abs doubled ∙ nat_abs-* (z -ℤ y) den

  -- that is where it is a half: the rounded number is past num
  half_past : 2 * off num den z ≡ nat_abs den → 2 * (nearest_magnitude (nat_abs num) (nat_abs den) * nat_abs den) ≡ 2 * nat_abs num + nat_abs den
  half_past half = omega (arith, half, error num den above, ties_away num den above half, nat_abs-* z den, ap (λ (v : ℕ). v * nat_abs den) (nat_abs-round num den))

  middle : (between : ℕ) → nat_abs (z -ℤ y) ≡ between → y *ℤ den +ℤ z *ℤ den ≡ num +ℤ num → (y ≡ z) ⊎ (nat_abs y < nat_abs z)
  unfolding round_ties_to_away
  middle zero k e = inl (by_parts y z (omega (arith, parts_nat_abs (z -ℤ y), parts-+ z (neg_ℤ y), pp_neg y, nn_neg y)))
  middle (suc n) k e =
      let half : 2 * off num den z ≡ nat_abs den = omega (arith, within_half num den above, twice_off e ∙ ap (λ (v : ℕ). v * nat_abs den) k) in
      let past = larger num den y (nearest_magnitude (nat_abs num) (nat_abs den)) above (half_past half) e in
      inr
      (lt_of_mul-lt-mul_right (nat_abs den) (omega (arith, past, nat_abs-* y den, ap (λ (v : ℕ). v * nat_abs den) (nat_abs-round num den))))

  -- another that is as near is of smaller magnitude
  smaller : off num den y ≡ off num den z → (y ≡ z) ⊎ (nat_abs y < nat_abs z)
  smaller as-near = go (mirror (y *ℤ den) (z *ℤ den) num as-near)
    where
      go : (y *ℤ den ≡ z *ℤ den) ⊎ (y *ℤ den +ℤ z *ℤ den ≡ num +ℤ num) → (y ≡ z) ⊎ (nat_abs y < nat_abs z)
      go (inl e) = inl (*ℤ-cancel above (*ℤ_comm den y ∙ e ∙ *ℤ_comm z den))
      go (inr e) = middle (nat_abs (z -ℤ y)) refl e

-- so the rounded number is that of roundTiesToAway
pub rounded_ties_to_away : (num den : ℤ) → pos 0 <ℤ den → TiesToAway num den (round_ties_to_away num den)
rounded_ties_to_away num den above y = (nearest num den above y, smaller num den above y)

-- ---- halves to the larger number

-- the largest whole number at most z/d, times d
floor_bounds : (z : ℤ) (d : ℕ) → 0 < d → ((floor_of z d *ℤ pos d) ≤ℤ z) × (z <ℤ (floor_of z d *ℤ pos d +ℤ pos d))
floor_bounds (pos n) d h =
    (parts_le (omega (arith, div-add-mod' n d)), parts_lt (omega (arith, parts-+ (pos (n / d * d)) (pos d), div-add-mod' n d, mod-lt n h)))
floor_bounds (negsuc n) d h =
    rw (negℤ_*ℤ (pos (suc (n / d))) (pos d)) (
      parts_le (omega (arith, pp_neg (pos (suc (n / d) * d)), nn_neg (pos (suc (n / d) * d)), div-add-mod' n d, mod-lt n h)),
      parts_lt (omega (arith, pp_neg (pos (suc (n / d) * d)), nn_neg (pos (suc (n / d) * d)), parts-+ (neg_ℤ (pos (suc (n / d) * d))) (pos d), div-add-mod' n d)),
    )

-- the largest whole number at most num/den + 1/2 is above num/den - 1/2
pub round_half_up_lem : (num den : ℤ) → pos 0 <ℤ den → HalfUp num den (round_half_up num den)
unfolding round_half_up
round_half_up_lem num den above =
    let z : ℤ = floor_of (pos 2 *ℤ num +ℤ den) (2 * nat_abs den) in
    let ρ : List ℤ = num ∷ den ∷ z ∷ [] in
    let twice : pos (2 * nat_abs den) ≡ pos 2 *ℤ den = ap (λ (v : ℤ). pos 2 *ℤ v) (pos_of_above above) in
    let (below, past) = rw twice at (floor_bounds (pos 2 *ℤ num +ℤ den) (2 * nat_abs den) (omega (arith, nat_abs-above above))) in
    record {
      low = lt_goal ρ (search quotes depth 12) (search quotes depth 12) (omega (arith, lt_given ρ (search quotes depth 12) (search quotes depth 12) past));
      high = le_goal ρ (search quotes depth 12) (search quotes depth 12) (omega (arith, le_given ρ (search quotes depth 12) (search quotes depth 12) below));
    }

module _ (num den z : ℤ) (above : pos 0 <ℤ den) (by : HalfUp num den z) where
  half_near : 2 * off num den z ≤ nat_abs den
  half_near =
      let ρ : List ℤ = z ∷ den ∷ num ∷ [] in
      let off-low : neg_ℤ den <ℤ (pos 2 *ℤ (z *ℤ den -ℤ num)) =
      lt_goal ρ (search quotes depth 12) (search quotes depth 12)
      (omega (arith, lt_given ρ (search quotes depth 12) (search quotes depth 12) by.low)) in
      let off-high : (pos 2 *ℤ (z *ℤ den -ℤ num)) ≤ℤ den =
      le_goal ρ (search quotes depth 12) (search quotes depth 12)
      (omega (arith, le_given ρ (search quotes depth 12) (search quotes depth 12) by.high)) in
      let small : nat_abs (pos 2 *ℤ (z *ℤ den -ℤ num)) < nat_abs den + 1 =
      within (pos 2 *ℤ (z *ℤ den -ℤ num)) (nat_abs den + 1)
      (omega (arith, le_parts off-high, above_nat_abs above)) (omega (arith, lt_parts off-low, pp_neg den, nn_neg den, above_nat_abs above)) in
      omega (arith, small, nat_abs-* (pos 2) (z *ℤ den -ℤ num))

  -- with num/den in the middle none is larger
  not_larger : (y : ℤ) → y *ℤ den +ℤ z *ℤ den ≡ num +ℤ num → z <ℤ y → ⊥
  not_larger y middle larger =
      let ρ : List ℤ = y ∷ z ∷ den ∷ num ∷ [] in
      not_le_of_lt by.low
      (le_goal ρ (search quotes depth 12) (search quotes depth 12)
      (omega (
        arith,
        eq_given ρ (search quotes depth 12) (search quotes depth 12) middle,
        le_given ρ (search quotes depth 12) (search quotes depth 12) (*ℤ-le (le_of_lt above) (next_le larger)),
      )))

  -- another that is as near is smaller
  half_ties : (y : ℤ) → off num den y ≡ off num den z → (y ≡ z) ⊎ (y <ℤ z)
  half_ties y e = go (mirror (y *ℤ den) (z *ℤ den) num e)
    where
      go : (y *ℤ den ≡ z *ℤ den) ⊎ (y *ℤ den +ℤ z *ℤ den ≡ num +ℤ num) → (y ≡ z) ⊎ (y <ℤ z)
      go (inl same) = inl (*ℤ-cancel above (*ℤ_comm den y ∙ same ∙ *ℤ_comm z den))
      go (inr middle) = order (le_or_lt y z) (le_or_lt z y)
        where
          order : (y ≤ℤ z) ⊎ (z <ℤ y) → (z ≤ℤ y) ⊎ (y <ℤ z) → (y ≡ z) ⊎ (y <ℤ z)
          order (inr larger) k = absurd (not_larger y middle larger)
          order (inl h) (inr smaller) = inr smaller
          order (inl h) (inl k) = inl (le_antisym h k)

  pub half_up_nearest : TiesUp num den z
  half_up_nearest y = (nearest_of z y den num above half_near, half_ties y)

  -- it is of no larger magnitude than num
  pub half_up_most : nat_abs z ≤ nat_abs num
  half_up_most = go (nat_abs z) refl
    where
      reach : nat_abs z * nat_abs den ≤ nat_abs num + off num den z
      reach =
          let back : z *ℤ den ≡ num +ℤ (z *ℤ den -ℤ num) = ring (z ∷ den ∷ num ∷ []) (search quotes depth 12) (search quotes depth 12) refl in
          omega (arith, nat_abs-* z den, ap nat_abs back, nat_abs-+ num (z *ℤ den -ℤ num))

      go : (m : ℕ) → nat_abs z ≡ m → m ≤ nat_abs num
      go zero e = omega arith
      go (suc k) e =
          let times : k * 1 ≤ k * nat_abs den = mul-le-mul (omega arith) (nat_abs-above above) in
          omega (arith, reach, half_near, nat_abs-above above, ap (λ (v : ℕ). v * nat_abs den) e)

-- ---- no other is the nearest

-- where of two numbers at most one gives way
nearest_one : (GivesWay : ℤ → ℤ → Type 0) → ((y z : ℤ) → GivesWay y z → GivesWay z y → ⊥) → (num den y z : ℤ) → Nearest GivesWay num den y → Nearest GivesWay num den z → y ≡ z
nearest_one GivesWay one_way num den y z of-y of-z = go ((of-z y).1 same) ((of-y z).1 (sym same))
  where
    same : off num den y ≡ off num den z
    same = omega (arith, (of-y z).0, (of-z y).0)

    go : (y ≡ z) ⊎ GivesWay y z → (z ≡ y) ⊎ GivesWay z y → y ≡ z
    go (inl e) k = e
    go (inr h) (inl e) = sym e
    go (inr h) (inr k) = absurd (one_way y z h k)

pub ties_to_away_one : (num den y z : ℤ) → TiesToAway num den y → TiesToAway num den z → y ≡ z
ties_to_away_one = nearest_one (λ y z. nat_abs y < nat_abs z) (λ y z h k. omega (arith, h, k))

pub ties_up_one : (num den y z : ℤ) → TiesUp num den y → TiesUp num den z → y ≡ z
ties_up_one = nearest_one ◌<ℤ◌ (λ y z h k. omega (arith, lt_parts h, lt_parts k))

pub half_up_one : (num den y z : ℤ) → pos 0 <ℤ den → HalfUp num den y → HalfUp num den z → y ≡ z
half_up_one num den y z above of-y of-z = ties_up_one num den y z (half_up_nearest num den y above of-y) (half_up_nearest num den z above of-z)

-- ---- two fractions so far apart, p and q, and their whole units z and y, halves to the larger number

module _ (p q : Fraction) (g z y : ℤ) (hp : IsFraction p) (hq : IsFraction q) (of_p : HalfUp p.num p.den z) (of_q : HalfUp q.num q.den y) where
  -- where q is at least g above p, so is y above z
  pub units_apart : (p ⊕ whole g) ≼ q → (z +ℤ g) ≤ℤ y
  units_apart apart = ⊎_elim (λ h. h) (λ less. absurd (nearer less)) (le_or_lt (z +ℤ g) y)
    where
      nearer : y <ℤ (z +ℤ g) → ⊥
      nearer less =
          let ρ : List ℤ = p.num ∷ p.den ∷ q.num ∷ q.den ∷ g ∷ z ∷ y ∷ [] in
          omega (
            arith,
            le_given ρ (search quotes depth 12) (search quotes depth 12) apart,
            le_given ρ (search quotes depth 12) (search quotes depth 12) (*ℤ-le (le_of_lt (*ℤ-above hp hq)) (next_le less)),
            le_given ρ (search quotes depth 12) (search quotes depth 12) (*ℤ-le (le_of_lt hq) of_p.high),
            lt_given ρ (search quotes depth 12) (search quotes depth 12) (*ℤ-lt hp of_q.low),
          )

module _ (p q : Fraction) (g z y : ℤ) (hp : IsFraction p) (hq : IsFraction q) (of_p : HalfUp p.num p.den z) (of_q : HalfUp q.num q.den y) where
  -- where q is at most g above p, so is y above z
  units_within : q ≼ (p ⊕ whole g) → y ≤ℤ (z +ℤ g)
  units_within most =
      let ρ : List ℤ = p.num ∷ p.den ∷ q.num ∷ q.den ∷ g ∷ z ∷ y ∷ [] in
      let back : (q ⊕ whole (neg_ℤ g)) ≼ p =
      le_goal ρ (search quotes depth 12) (search quotes depth 12)
      (omega (arith, le_given ρ (search quotes depth 12) (search quotes depth 12) most)) in
      le_goal ρ (search quotes depth 12) (search quotes depth 12)
      (omega (arith, le_given ρ (search quotes depth 12) (search quotes depth 12) (units_apart q p (neg_ℤ g) y z hq hp of_q of_p back)))

  -- where q is exactly g above p, so is y above z
  pub units_same : (p ⊕ whole g) ≃ q → z +ℤ g ≡ y
  units_same same = le_antisym (units_apart p q g z y hp hq of_p of_q (le_of_eq same)) (units_within (le_of_eq (sym same)))
