-- What the guess leaves in the bytes of a proposal. Doubles decide which gaps it wishes, and nothing is said of that.
use Rattle.std.specs.Prelude.{ℕ, zero, suc, ◌≤◌, ◌<◌, ◌≡◌, ◌⊎◌, Bool, true, false, ◌||◌, List, eqb}
use Rattle.ground.specs.Entries.{nat}

-- whether one of the first gaps is marked
abbrev pub any_marked : (gaps : ℕ) (carried : List ℕ) → Bool
any_marked zero carried = false
any_marked (suc e) carried = eqb (nat carried e) 1 || any_marked e carried

-- a guess: nothing is promised of it, and nobody relies on it
abbrev pub Guessed : {A : Type 0} → A → Type 0
Guessed x = Unit {0}

-- gaps were wished or let go: each byte is what it was, or 0 or 1, and those beyond the gaps stay
pub record Wished (gaps : ℕ) (wish₀ wish : List ℕ) : Type 0 where
  pub each : (e : ℕ) → (nat wish e ≡ nat wish₀ e) ⊎ (nat wish e ≤ 1)
  pub beyond : (e : ℕ) → gaps ≤ e → nat wish e ≡ nat wish₀ e

-- no gap is wished, and the bytes beyond the gaps stay
pub record Unwished (gaps : ℕ) (wish₀ wish : List ℕ) : Type 0 where
  pub each : (e : ℕ) → e < gaps → nat wish e ≡ 0
  pub beyond : (e : ℕ) → gaps ≤ e → nat wish e ≡ nat wish₀ e

-- with no, the wishes stay as they were; with yes, the byte of each gap is 0 or 1, and those beyond the gaps stay
pub record Extended (answer : Bool) (gaps : ℕ) (wish₀ wish : List ℕ) : Type 0 where
  pub no : answer ≡ false → wish ≡ wish₀
  pub yes : answer ≡ true → (e : ℕ) → e < gaps → nat wish e ≤ 1
  pub beyond : (e : ℕ) → gaps ≤ e → nat wish e ≡ nat wish₀ e
