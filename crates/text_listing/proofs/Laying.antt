-- A text laid over the front of a buffer, by whether there is room; and the listing of a placed sheet, by its checks.
use mathlib.Core.Path.{◌≡◌, refl}
use mathlib.Core.Bool.{Bool, true, false, ◌&&◌}
use mathlib.Core.List.{List, ◌++◌}
use Prim.Native.Nat.{ℕ, ◌≤◌, ◌<◌}
use borrow.Author.Tests.{le-leb, lt-leb, le-ltb, lt-ltb, eqb-true, eq-eqb, ne_eqb}
use lib.Dec.{eqb}
use lib.ListN.{length, drop}
use Rattle.std.specs.Prelude.{Ok}
use Rattle.ground.specs.Limits.{labels_most, gaps_most}
use Rattle.text_rows.specs.Taking.{no_field}
use Rattle.text_listing.specs.Listing.{Listable, Within, labels_in, gaps_in, even, listed_as, not_listed, laid, listed_in, sheet_records}

pub laid_short : (text b : List ℕ) → length b < length text → not_listed 4 b ≡ laid text b
laid_short text b h = rw (lt-leb (length text) (length b) h)

pub laid_whole : (text b : List ℕ) → length text ≤ length b → listed_as (Ok (length text)) (text ++ drop (length text) b) ≡ laid text b
laid_whole text b h = rw (le-leb (length text) (length b) h)

-- ---- a placed sheet, by its checks

module _ (l : Listable) (b : List ℕ) where
  pub listed_crowded : labels_most < labels_in l → not_listed 1 b ≡ listed_in (Ok tt) no_field l b
  unfolding listed_in
  listed_crowded h = rw (lt-ltb labels_most (labels_in l) h)

  module _ (few : labels_in l ≤ labels_most) where
    pub listed_overfull : gaps_most < gaps_in l → not_listed 2 b ≡ listed_in (Ok tt) no_field l b
    unfolding listed_in
    listed_overfull h = rw (le-ltb labels_most (labels_in l) few, lt-ltb gaps_most (gaps_in l) h)

    module _ (within : gaps_in l ≤ gaps_most) where
      pub listed_ragged : even l ≡ false → not_listed 3 b ≡ listed_in (Ok tt) no_field l b
      unfolding listed_in
      listed_ragged e = rw (le-ltb labels_most (labels_in l) few, le-ltb gaps_most (gaps_in l) within, e)

      pub listed_laid : even l ≡ true → laid (sheet_records l) b ≡ listed_in (Ok tt) no_field l b
      unfolding listed_in
      listed_laid e = rw (le-ltb labels_most (labels_in l) few, le-ltb gaps_most (gaps_in l) within, e)

-- ---- lists that are as many

module _ (l : Listable) where
  pub dens_differ : (length l.place_den ≡ labels_in l → ⊥) → false ≡ even l
  dens_differ h = rw (ne_eqb (length l.place_den) (labels_in l) h)

  module _ (dens : length l.place_den ≡ labels_in l) where
    pub right_differs : (length l.right ≡ gaps_in l → ⊥) → false ≡ even l
    right_differs h = rw (eq-eqb (length l.place_den) (labels_in l) dens, ne_eqb (length l.right) (gaps_in l) h)

    pub distance_decides : length l.right ≡ gaps_in l → eqb (length l.distance) (gaps_in l) ≡ even l
    distance_decides h = rw (eq-eqb (length l.place_den) (labels_in l) dens, eq-eqb (length l.right) (gaps_in l) h)

-- three tests that hold
and_three : (s t u : Bool) → (s && t && u) ≡ true → (s ≡ true) × (t ≡ true) × (u ≡ true)
and_three true true true e = (refl, refl, refl)
and_three true true false e = absurd (cc)
and_three true false u e = absurd (cc)
and_three false t u e = absurd (cc)

-- a sheet past the checks is one that is listed
pub within_even : (l : Listable) → labels_in l ≤ labels_most → gaps_in l ≤ gaps_most → even l ≡ true → Within l
within_even l few within e =
    let parts =
    and_three (eqb (length l.place_den) (labels_in l)) (eqb (length l.right) (gaps_in l))
    (eqb (length l.distance) (gaps_in l)) e in
    record {
      labels = few;
      gaps = within;
      dens = eqb-true (length l.place_den) (labels_in l) parts.0;
      right = eqb-true (length l.right) (gaps_in l) parts.1;
      distance = eqb-true (length l.distance) (gaps_in l) parts.2;
    }
