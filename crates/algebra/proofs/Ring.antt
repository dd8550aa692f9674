-- Identities and orders of signed whole numbers, each in one line.
-- `ring` proves an identity: both sides are quoted by `search`, brought to a sorted list of monomials,
-- and compared by `refl`.
-- `given` and `order` turn an order of two quoted numbers into one of natural numbers over the parts of the
-- monomials, which omega reads.
use mathlib.Core.Path.{◌≡◌, refl, sym, ◌∙◌, ap, ap₂}
use mathlib.Core.Bool.{Bool, true, false, cond, ◌&&◌}
use mathlib.Core.List.{List, [], ◌∷◌}
use Prim.Native.Nat.{ℕ, suc, ◌+◌, ◌*◌, ◌≤◌, ◌<◌}
use native.Mathlib.Omega.{arith}
use lib.IntN.{ℤ, pos, negsuc, neg_ℤ, ◌+ℤ◌, ◌-ℤ◌, ◌*ℤ◌, +ℤ_assoc, +ℤ_comm, +ℤ_idl, +ℤ_idr, *ℤ_comm, *ℤ-zero, zero-*ℤ}
use lib.Signed.{◌≤ℤ◌, ◌<ℤ◌}
use lib.ListN.{get_or}
use lib.Dec.{T, leb, eqb, eqb→eq}
use Rattle.algebra.proofs.Whole.{pp, nn, parts-+, pp_*, nn_*, pp_neg, nn_neg, by_parts, le_parts, parts_le, lt_parts, parts_lt, *ℤ-assoc, *ℤ-+ℤ, +ℤ-*ℤ, negℤ_*ℤ, one_*ℤ}

-- ---- numbers as they are written over a list of atoms

pub data Quote : List ℤ → ℤ → Type 0 where
  var0 : {a : ℤ} {ρ : List ℤ} → Quote (a ∷ ρ) a
  var1 : {a b : ℤ} {ρ : List ℤ} → Quote (a ∷ b ∷ ρ) b
  var2 : {a b c : ℤ} {ρ : List ℤ} → Quote (a ∷ b ∷ c ∷ ρ) c
  var3 : {a b c d : ℤ} {ρ : List ℤ} → Quote (a ∷ b ∷ c ∷ d ∷ ρ) d
  var4 : {a b c d e : ℤ} {ρ : List ℤ} → Quote (a ∷ b ∷ c ∷ d ∷ e ∷ ρ) e
  var5 : {a b c d e f : ℤ} {ρ : List ℤ} → Quote (a ∷ b ∷ c ∷ d ∷ e ∷ f ∷ ρ) f
  var6 : {a b c d e f g : ℤ} {ρ : List ℤ} → Quote (a ∷ b ∷ c ∷ d ∷ e ∷ f ∷ g ∷ ρ) g
  var7 : {a b c d e f g h : ℤ} {ρ : List ℤ} → Quote (a ∷ b ∷ c ∷ d ∷ e ∷ f ∷ g ∷ h ∷ ρ) h
  var8 : {a b c d e f g h i : ℤ} {ρ : List ℤ} → Quote (a ∷ b ∷ c ∷ d ∷ e ∷ f ∷ g ∷ h ∷ i ∷ ρ) i
  var9 : {a b c d e f g h i j : ℤ} {ρ : List ℤ} → Quote (a ∷ b ∷ c ∷ d ∷ e ∷ f ∷ g ∷ h ∷ i ∷ j ∷ ρ) j
  var10 : {a b c d e f g h i j k : ℤ} {ρ : List ℤ} → Quote (a ∷ b ∷ c ∷ d ∷ e ∷ f ∷ g ∷ h ∷ i ∷ j ∷ k ∷ ρ) k
  var11 : {a b c d e f g h i j k l : ℤ} {ρ : List ℤ} → Quote (a ∷ b ∷ c ∷ d ∷ e ∷ f ∷ g ∷ h ∷ i ∷ j ∷ k ∷ l ∷ ρ) l
  add : {ρ : List ℤ} {a b : ℤ} → Quote ρ a → Quote ρ b → Quote ρ (a +ℤ b)
  sub : {ρ : List ℤ} {a b : ℤ} → Quote ρ a → Quote ρ b → Quote ρ (a -ℤ b)
  mul : {ρ : List ℤ} {a b : ℤ} → Quote ρ a → Quote ρ b → Quote ρ (a *ℤ b)
  neg : {ρ : List ℤ} {a : ℤ} → Quote ρ a → Quote ρ (neg_ℤ a)
  num : {ρ : List ℤ} {n : ℕ} → Quote ρ (pos n)
  negnum : {ρ : List ℤ} {n : ℕ} → Quote ρ (negsuc n)

pub ruleset quotes = (var0, var1, var2, var3, var4, var5, var6, var7, var8, var9, var10, var11, add, sub, mul, neg, num, negnum)

-- ---- sorted lists of monomials

-- a monomial: its atoms' numbers, in order; its value over the list of atoms
abbrev pub val_m : List ℤ → List ℕ → ℤ
val_m ρ [] = pos 1
val_m ρ (v ∷ []) = get_or ρ v (pos 0)
val_m ρ (v ∷ w ∷ m) = get_or ρ v (pos 0) *ℤ val_m ρ (w ∷ m)

pub record Term : Type 0 where
  pub coef : ℤ
  pub mono : List ℕ

abbrev pub val_p : List ℤ → List Term → ℤ
val_p ρ [] = pos 0
val_p ρ (t ∷ p) = t.coef *ℤ val_m ρ t.mono +ℤ val_p ρ p

abbrev same : List ℕ → List ℕ → Bool
same [] [] = true
same [] (w ∷ n) = false
same (v ∷ m) [] = false
same (v ∷ m) (w ∷ n) = eqb v w && same m n

-- an order of monomials that groups equal ones; nothing rests on what it is
abbrev before : List ℕ → List ℕ → Bool
before [] n = true
before (v ∷ m) [] = false
before (v ∷ m) (w ∷ n) = cond (eqb v w) (before m n) (leb v w)

abbrev is_zero : ℤ → Bool
is_zero (pos n) = eqb n 0
is_zero (negsuc n) = false

-- one more atom in a monomial, and the product of two
abbrev ins_v : ℕ → List ℕ → List ℕ
ins_v v [] = v ∷ []
ins_v v (w ∷ m) = cond (leb v w) (v ∷ w ∷ m) (w ∷ ins_v v m)

abbrev mul_m : List ℕ → List ℕ → List ℕ
mul_m [] n = n
mul_m (v ∷ m) n = ins_v v (mul_m m n)

-- one more term in a sum; a term of coefficient zero goes
abbrev cons_t : ℤ → List ℕ → List Term → List Term
cons_t c m p = cond (is_zero c) p (record { coef = c; mono = m } ∷ p)

abbrev ins_t : ℤ → List ℕ → List Term → List Term
ins_t c m [] = cons_t c m []
ins_t c m (t ∷ p) =
    cond (same m t.mono) (cons_t (c +ℤ t.coef) m p) (cond (before m t.mono) (cons_t c m (t ∷ p)) (t ∷ ins_t c m p))

abbrev add_p : List Term → List Term → List Term
add_p [] q = q
add_p (t ∷ p) q = ins_t t.coef t.mono (add_p p q)

-- a sum times one term, and the product of two sums
abbrev scale_p : ℤ → List ℕ → List Term → List Term
scale_p c m [] = []
scale_p c m (t ∷ p) = ins_t (c *ℤ t.coef) (mul_m m t.mono) (scale_p c m p)

abbrev mul_p : List Term → List Term → List Term
mul_p [] q = []
mul_p (t ∷ p) q = add_p (scale_p t.coef t.mono q) (mul_p p q)

abbrev constant : ℤ → List Term
constant c = cons_t c [] []

abbrev atom : ℕ → List Term
atom v = record { coef = pos 1; mono = v ∷ [] } ∷ []

abbrev pub norm : {ρ : List ℤ} {z : ℤ} → Quote ρ z → List Term
norm var0 = atom 0
norm var1 = atom 1
norm var2 = atom 2
norm var3 = atom 3
norm var4 = atom 4
norm var5 = atom 5
norm var6 = atom 6
norm var7 = atom 7
norm var8 = atom 8
norm var9 = atom 9
norm var10 = atom 10
norm var11 = atom 11
norm (add a b) = add_p (norm a) (norm b)
norm (sub a b) = add_p (norm a) (scale_p (negsuc 0) [] (norm b))
norm (mul a b) = mul_p (norm a) (norm b)
norm (neg a) = scale_p (negsuc 0) [] (norm a)
norm (num {n}) = constant (pos n)
norm (negnum {n}) = constant (negsuc n)

-- ---- each keeps the value

-- two tests that both pass
pub and_parts : (a b : Bool) → T (a && b) → T a × T b
and_parts true true h = (tt, tt)
and_parts true false h = absurd h
and_parts false b h = absurd h

same_eq : (m n : List ℕ) → T (same m n) → m ≡ n
same_eq [] [] h = refl
same_eq [] (w ∷ n) h = absurd h
same_eq (v ∷ m) [] h = absurd h
same_eq (v ∷ m) (w ∷ n) h =
    let k = and_parts (eqb v w) (same m n) h in
    ap₂ ◌∷◌ (eqb→eq v w k.0) (same_eq m n k.1)

-- by cases on a test that stays a test
by_test : {A : Type 0} (P : A → Type 0) (t : Bool) {a b : A} → (T t → P a) → P b → P (cond t a b)
by_test P true h k = h tt
by_test P false h k = k

val_m-cons : (ρ : List ℤ) (v : ℕ) (m : List ℕ) → val_m ρ (v ∷ m) ≡ get_or ρ v (pos 0) *ℤ val_m ρ m
val_m-cons ρ v [] = let x : ℤ = get_or ρ v (pos 0) in sym (one_*ℤ x) ∙ *ℤ_comm (pos 1) x
val_m-cons ρ v (w ∷ m) = refl

swap : (a b c : ℤ) → a *ℤ (b *ℤ c) ≡ b *ℤ (a *ℤ c)
swap a b c = sym (*ℤ-assoc a b c) ∙ ap (λ x. x *ℤ c) (*ℤ_comm a b) ∙ *ℤ-assoc b a c

ins_v-says : (ρ : List ℤ) (v : ℕ) (m : List ℕ) → val_m ρ (ins_v v m) ≡ get_or ρ v (pos 0) *ℤ val_m ρ m
ins_v-says ρ v [] = val_m-cons ρ v []
ins_v-says ρ v (w ∷ m) =
    by_test (λ x. val_m ρ x ≡ get_or ρ v (pos 0) *ℤ val_m ρ (w ∷ m)) (leb v w) (λ _. refl)
    (val_m-cons ρ w (ins_v v m) ∙ ap (λ x. get_or ρ w (pos 0) *ℤ x) (ins_v-says ρ v m) ∙ swap (get_or ρ w (pos 0)) (get_or ρ v (pos 0)) (val_m ρ m) ∙ ap (λ x. get_or ρ v (pos 0) *ℤ x) (sym (val_m-cons ρ w m)))

mul_m-says : (ρ : List ℤ) (m n : List ℕ) → val_m ρ (mul_m m n) ≡ val_m ρ m *ℤ val_m ρ n
mul_m-says ρ [] n = sym (one_*ℤ (val_m ρ n))
mul_m-says ρ (v ∷ m) n =
    ins_v-says ρ v (mul_m m n) ∙ ap (λ x. get_or ρ v (pos 0) *ℤ x) (mul_m-says ρ m n) ∙ sym (*ℤ-assoc (get_or ρ v (pos 0)) (val_m ρ m) (val_m ρ n))
    ∙ ap (λ x. x *ℤ val_m ρ n) (sym (val_m-cons ρ v m))

is_zero-eq : (c : ℤ) → T (is_zero c) → c ≡ pos 0
is_zero-eq (pos n) h = ap pos (eqb→eq n 0 h)
is_zero-eq (negsuc n) h = absurd h

cons_t-says : (ρ : List ℤ) (c : ℤ) (m : List ℕ) (p : List Term) → val_p ρ (cons_t c m p) ≡ c *ℤ val_m ρ m +ℤ val_p ρ p
cons_t-says ρ c m p =
    by_test (λ x. val_p ρ x ≡ c *ℤ val_m ρ m +ℤ val_p ρ p) (is_zero c)
    (λ h. sym (ap (λ x. x *ℤ val_m ρ m +ℤ val_p ρ p) (is_zero-eq c h) ∙ ap (λ x. x +ℤ val_p ρ p) (zero-*ℤ (val_m ρ m)) ∙ +ℤ_idl (val_p ρ p)))
    refl

+-swap : (a b c : ℤ) → a +ℤ (b +ℤ c) ≡ b +ℤ (a +ℤ c)
+-swap a b c = sym (+ℤ_assoc a b c) ∙ ap (λ x. x +ℤ c) (+ℤ_comm a b) ∙ +ℤ_assoc b a c

ins_t-says : (ρ : List ℤ) (c : ℤ) (m : List ℕ) (p : List Term) → val_p ρ (ins_t c m p) ≡ c *ℤ val_m ρ m +ℤ val_p ρ p
ins_t-says ρ c m [] = cons_t-says ρ c m []
ins_t-says ρ c m (t ∷ p) =
    by_test (λ x. val_p ρ x ≡ c *ℤ val_m ρ m +ℤ val_p ρ (t ∷ p)) (same m t.mono)
    (λ h. cons_t-says ρ (c +ℤ t.coef) m p ∙ ap (λ x. x +ℤ val_p ρ p) (+ℤ-*ℤ c t.coef (val_m ρ m)) ∙ +ℤ_assoc (c *ℤ val_m ρ m) (t.coef *ℤ val_m ρ m) (val_p ρ p)
    ∙ ap (λ n. c *ℤ val_m ρ m +ℤ (t.coef *ℤ val_m ρ n +ℤ val_p ρ p)) (same_eq m t.mono h))
    (by_test (λ x. val_p ρ x ≡ c *ℤ val_m ρ m +ℤ val_p ρ (t ∷ p)) (before m t.mono)
    (λ h. cons_t-says ρ c m (t ∷ p))
    (ap (λ x. t.coef *ℤ val_m ρ t.mono +ℤ x) (ins_t-says ρ c m p) ∙ +-swap (t.coef *ℤ val_m ρ t.mono) (c *ℤ val_m ρ m) (val_p ρ p)))

add_p-says : (ρ : List ℤ) (p q : List Term) → val_p ρ (add_p p q) ≡ val_p ρ p +ℤ val_p ρ q
add_p-says ρ [] q = sym (+ℤ_idl (val_p ρ q))
add_p-says ρ (t ∷ p) q =
    ins_t-says ρ t.coef t.mono (add_p p q) ∙ ap (λ x. t.coef *ℤ val_m ρ t.mono +ℤ x) (add_p-says ρ p q)
    ∙ sym (+ℤ_assoc (t.coef *ℤ val_m ρ t.mono) (val_p ρ p) (val_p ρ q))

four : (c d m n : ℤ) → (c *ℤ d) *ℤ (m *ℤ n) ≡ (c *ℤ m) *ℤ (d *ℤ n)
four c d m n = *ℤ-assoc c d (m *ℤ n) ∙ ap (λ x. c *ℤ x) (swap d m n) ∙ sym (*ℤ-assoc c m (d *ℤ n))

scale_p-says : (ρ : List ℤ) (c : ℤ) (m : List ℕ) (p : List Term) → val_p ρ (scale_p c m p) ≡ c *ℤ val_m ρ m *ℤ val_p ρ p
scale_p-says ρ c m [] = sym (*ℤ-zero (c *ℤ val_m ρ m))
scale_p-says ρ c m (t ∷ p) =
    ins_t-says ρ (c *ℤ t.coef) (mul_m m t.mono) (scale_p c m p)
    ∙ ap₂ (λ x y. c *ℤ t.coef *ℤ x +ℤ y) (mul_m-says ρ m t.mono) (scale_p-says ρ c m p)
    ∙ ap (λ x. x +ℤ c *ℤ val_m ρ m *ℤ val_p ρ p) (four c t.coef (val_m ρ m) (val_m ρ t.mono))
    ∙ sym (*ℤ-+ℤ (c *ℤ val_m ρ m) (t.coef *ℤ val_m ρ t.mono) (val_p ρ p))

mul_p-says : (ρ : List ℤ) (p q : List Term) → val_p ρ (mul_p p q) ≡ val_p ρ p *ℤ val_p ρ q
mul_p-says ρ [] q = sym (zero-*ℤ (val_p ρ q))
mul_p-says ρ (t ∷ p) q =
    add_p-says ρ (scale_p t.coef t.mono q) (mul_p p q) ∙ ap₂ ◌+ℤ◌ (scale_p-says ρ t.coef t.mono q) (mul_p-says ρ p q)
    ∙ sym (+ℤ-*ℤ (t.coef *ℤ val_m ρ t.mono) (val_p ρ p) (val_p ρ q))

minus_one : (a : ℤ) → negsuc 0 *ℤ pos 1 *ℤ a ≡ neg_ℤ a
minus_one a = negℤ_*ℤ (pos 1) a ∙ ap neg_ℤ (one_*ℤ a)

atom_says : (x : ℤ) → pos 1 *ℤ x +ℤ pos 0 ≡ x
atom_says x = +ℤ_idr (pos 1 *ℤ x) ∙ one_*ℤ x

constant_says : (ρ : List ℤ) (c : ℤ) → val_p ρ (constant c) ≡ c
constant_says ρ c = cons_t-says ρ c [] [] ∙ +ℤ_idr (c *ℤ pos 1) ∙ *ℤ_comm c (pos 1) ∙ one_*ℤ c

pub norm_says : {ρ : List ℤ} {z : ℤ} (q : Quote ρ z) → val_p ρ (norm q) ≡ z
norm_says (var0 {a}) = atom_says a
norm_says (var1 {b}) = atom_says b
norm_says (var2 {c}) = atom_says c
norm_says (var3 {d}) = atom_says d
norm_says (var4 {e}) = atom_says e
norm_says (var5 {f}) = atom_says f
norm_says (var6 {g}) = atom_says g
norm_says (var7 {h}) = atom_says h
norm_says (var8 {i}) = atom_says i
norm_says (var9 {j}) = atom_says j
norm_says (var10 {k}) = atom_says k
norm_says (var11 {l}) = atom_says l
norm_says (add {ρ} a b) = add_p-says ρ (norm a) (norm b) ∙ ap₂ ◌+ℤ◌ (norm_says a) (norm_says b)
norm_says (sub {ρ} a b) =
    add_p-says ρ (norm a) (scale_p (negsuc 0) [] (norm b))
    ∙ ap₂ ◌+ℤ◌ (norm_says a) (scale_p-says ρ (negsuc 0) [] (norm b) ∙ minus_one (val_p ρ (norm b)) ∙ ap neg_ℤ (norm_says b))
norm_says (mul {ρ} a b) = mul_p-says ρ (norm a) (norm b) ∙ ap₂ ◌*ℤ◌ (norm_says a) (norm_says b)
norm_says (neg {ρ} a) = scale_p-says ρ (negsuc 0) [] (norm a) ∙ minus_one (val_p ρ (norm a)) ∙ ap neg_ℤ (norm_says a)
norm_says (num {ρ} {n}) = constant_says ρ (pos n)
norm_says (negnum {ρ} {n}) = constant_says ρ (negsuc n)

-- ---- identities

pub ring : (ρ : List ℤ) {a b : ℤ} (p : Quote ρ a) (q : Quote ρ b) → norm p ≡ norm q → a ≡ b
ring ρ p q e = sym (norm_says p) ∙ ap (val_p ρ) e ∙ norm_says q

-- ---- orders

-- the two sides of a sum of monomials in ℕ: `up` less `down` is its value
abbrev up_t : ℤ → ℤ → ℕ
up_t (pos k) x = k * pp x
up_t (negsuc k) x = suc k * nn x

abbrev down_t : ℤ → ℤ → ℕ
down_t (pos k) x = k * nn x
down_t (negsuc k) x = suc k * pp x

abbrev pub up : List ℤ → List Term → ℕ
up ρ [] = 0
up ρ (t ∷ p) = up_t t.coef (val_m ρ t.mono) + up ρ p

abbrev pub down : List ℤ → List Term → ℕ
down ρ [] = 0
down ρ (t ∷ p) = down_t t.coef (val_m ρ t.mono) + down ρ p

term_sides : (c x : ℤ) → pp (c *ℤ x) + down_t c x ≡ up_t c x + nn (c *ℤ x)
term_sides (pos k) x = simp (pp_* (pos k), nn_* (pos k)) (omega arith)
term_sides (negsuc k) x = simp (pp_* (negsuc k), nn_* (negsuc k)) (omega arith)

sides : (ρ : List ℤ) (p : List Term) → pp (val_p ρ p) + down ρ p ≡ up ρ p + nn (val_p ρ p)
sides ρ [] = refl
sides ρ (t ∷ p) =
    omega
    (arith, term_sides t.coef (val_m ρ t.mono), sides ρ p, parts-+ (t.coef *ℤ val_m ρ t.mono) (val_p ρ p))

module _ (ρ : List ℤ) {a b : ℤ} (p : Quote ρ a) (q : Quote ρ b) where
  -- the difference of two numbers, by its sides and by the numbers' own parts
  gap : pp b + nn a + down ρ (norm (sub q p)) ≡ up ρ (norm (sub q p)) + (pp a + nn b)
  gap =
      omega
      (arith, sides ρ (norm (sub q p)), parts-+ b (neg_ℤ a), pp_neg a, nn_neg a, ap pp (norm_says (sub q p)), ap nn (norm_says (sub q p)))

  -- what a given fact says of the sides, for omega's list
  pub le_given : a ≤ℤ b → down ρ (norm (sub q p)) ≤ up ρ (norm (sub q p))
  le_given h = omega (arith, gap, le_parts h)

  pub lt_given : a <ℤ b → down ρ (norm (sub q p)) < up ρ (norm (sub q p))
  lt_given h = omega (arith, gap, lt_parts h)

  pub eq_given : a ≡ b → down ρ (norm (sub q p)) ≡ up ρ (norm (sub q p))
  eq_given e = omega (arith, gap, ap pp e, ap nn e)

  -- and what is left of an order to be shown
  pub le_goal : down ρ (norm (sub q p)) ≤ up ρ (norm (sub q p)) → a ≤ℤ b
  le_goal h = parts_le (omega (arith, gap))

  pub lt_goal : down ρ (norm (sub q p)) < up ρ (norm (sub q p)) → a <ℤ b
  lt_goal h = parts_lt (omega (arith, gap))

  pub eq_goal : down ρ (norm (sub q p)) ≡ up ρ (norm (sub q p)) → a ≡ b
  eq_goal h = by_parts a b (omega (arith, gap))

-- an order by a certificate: b is a and something that is not below zero
pub le_by : {a b s : ℤ} → pos 0 ≤ℤ s → b ≡ a +ℤ s → a ≤ℤ b
le_by {a} {b} {s} h e = parts_le (omega (arith, le_parts h, parts-+ a s, ap pp e, ap nn e))
