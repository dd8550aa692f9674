-- What is promised of a list of records: of four lists that hold their numbers, or of a list that is too long.
use Prim.Native.Nat.{ℕ, ◌<◌}
use mathlib.Core.Path.{◌≡◌, refl}
use mathlib.Core.Bool.{Bool, true, false, cond, not, ◌||◌}
use mathlib.Core.List.{List, ◌∷◌, map}
use native.Mathlib.Omega.{arith}
use lib.Dec.{T, ltb, eqb, eqb_refl}
use lib.ListN.{length, take, length-map, get_or-map}
use lib.IntN.{ℤ}
use borrow.Author.Tests.{ltb-false}
use Rattle.ground.specs.declared.GapRecord.{GapRecord}
use Rattle.ground.specs.Answers.{Answer, refusal}
use Rattle.ground.specs.Entries.{no_record}
use Rattle.ground.specs.Limits.{gaps_most, labels_most}
use Rattle.least_move.specs.Sheet.{Sheet}
use Rattle.sheet_checks.specs.Lent.{Written, lists, records, sheet_of}
use Rattle.sheet_checks.specs.Refusals.{Row, in_turn, test, offender, table_of}
use Rattle.layout.specs.Promise.{Promise, ByTable}
use Rattle.layout.proofs.Same.{SameGaps, promise_same}
use Rattle.records.specs.Records.{Apart}

module _ (wanted weight : List ℤ) (gs : List GapRecord) (w : Written) where
  -- the four lists tell the records
  listed : SameGaps (lists (map (λ g. g.left) gs) (map (λ g. g.right) gs) (map (λ g. g.distance) gs) (map (λ g. g.kind) gs)) (records gs)
  listed =
      record {
        count = length-map gs (λ g. g.left);
        even = rw (length-map gs (λ g. g.left), length-map gs (λ g. g.right), length-map gs (λ g. g.distance), length-map gs (λ g. g.kind)) (even (eqb (length gs) (length gs)) (eqb_refl (length gs)));
        gap = λ k h i. record {
          left = get_or-map (λ (g : GapRecord). g.left) gs k no_record i;
          right = get_or-map (λ (g : GapRecord). g.right) gs k no_record i;
          distance = get_or-map (λ (g : GapRecord). g.distance) gs k no_record i;
          kind = get_or-map (λ (g : GapRecord). g.kind) gs k no_record i;
        };
      }
    where
      even : (b : Bool) → T b → (not b || not b || not b) ≡ false
      even true t = refl
      even false t = elim t [ ]

  -- so what is promised of their fronts is promised of the records
  pub promise_apart : {left right : List ℕ} {distance : List ℤ} {kind : List ℕ} {a : Answer} {after : Written} → Apart gs left right distance kind
      → Promise (record { wanted = wanted; weight = weight; gaps = lists (take (length gs) left) (take (length gs) right) (take (length gs) distance) (take (length gs) kind) }) w a after
      → Promise (record { wanted = wanted; weight = weight; gaps = records gs }) w a after
  promise_apart {a = a} {after = after} apart p = promise_same wanted weight listed w after a (rw (apart.lefts, apart.rights, apart.distances, apart.kinds) at p)

  -- a list that is too long is refused by the first two checks
  long_kept : (s : Sheet) (a : Answer) (labels gaps : ℕ) (ragged short : Bool) (rows : List Row) → (ltb gaps_most gaps ≡ false → ⊥)
      → a ≡ refusal (cond (ltb labels_most labels) 1 2) 0 0 → ByTable (table_of labels gaps ragged short rows) s w a w
  unfolding table_of
  long_kept s a labels gaps ragged short rows = go (ltb labels_most labels) (ltb gaps_most gaps)
    where
      go : (b c : Bool) → (c ≡ false → ⊥) → a ≡ refusal (cond b 1 2) 0 0
          → ByTable (in_turn (test 1 b ∷ test 2 c ∷ test 3 ragged ∷ test 4 short ∷ map offender rows)) s w a w
      go true c h e = (e, refl)
      go false true h e = (e, refl)
      go false false h e = absurd (h refl)

  pub promise_long : (a : Answer) (many : Bool) → gaps_most < length gs → ltb labels_most (length wanted) ≡ many → a ≡ refusal (cond many 1 2) 0 0
      → Promise (record { wanted = wanted; weight = weight; gaps = records gs }) w a w
  promise_long a many long t e =
      record {
        kept = long_kept (sheet_of (record { wanted = wanted; weight = weight; gaps = records gs })) a (length wanted) (length gs) _ _ _
            (λ q. omega (arith, ltb-false gaps_most (length gs) q)) (rw t e);
      }
