-- What holds of every reading, by its cases: 11, a bad line, 1, 2, 4, a sheet.
use Prim.Native.Nat.{ℕ, ◌≤◌}
use mathlib.Core.Path.{◌≡◌, refl}
use mathlib.Core.Bool.{Bool, true, false, cond}
use mathlib.Core.List.{List}
use borrow.Author.Tests.{ltb-false}
use lib.Dec.{ltb}
use lib.ListN.{length}
use Rattle.text_rows.specs.Taking.{no_field}
use Rattle.std.specs.Prelude.{Ok}
use Rattle.text_reading.specs.Texts.{Done, Lists, Outcome, Typed, bad_line, counts_of, filled, judged, outcome, reading, refused_with, room_for, settled, sheet, text_most}
use Rattle.ground.specs.Limits.{gaps_most, labels_most}

-- of the whole text: 11, 1, 2 and 4 at place 0, without a field
pub record WholeText (P : Done → Type 0) (b : Lists) : Type 0 where
  pub long : P (refused_with 11 0 no_field b)
  pub crowded : P (refused_with 1 0 no_field b)
  pub over_gapped : P (refused_with 2 0 no_field b)
  pub short_room : P (refused_with 4 0 no_field b)

module _ (P : Done → Type 0) (b : Lists) (whole : WholeText P b) where
  settled_cases : (t : Typed) → (length t.labels ≤ labels_most → length t.gaps ≤ gaps_most
      → P (record { answer = Ok (counts_of t); lists = filled t b })) → P (settled t b)
  settled_cases t read = go (ltb labels_most (length t.labels)) refl (ltb gaps_most (length t.gaps)) refl (room_for t b)
    where
      go :
          (crowded : Bool) → ltb labels_most (length t.labels) ≡ crowded → (gapped : Bool) → ltb gaps_most (length t.gaps) ≡ gapped
          → (room : Bool) → P (cond crowded (refused_with 1 0 no_field b) (cond gapped (refused_with 2 0 no_field b)
          (cond room (record { answer = Ok (counts_of t); lists = filled t b }) (refused_with 4 0 no_field b))))
      go true e gapped g room = whole.crowded
      go false e true g room = whole.over_gapped
      go false e false g false = whole.short_room
      go false e false g true = read (ltb-false labels_most _ e) (ltb-false gaps_most _ g)

  pub reading_cases :
      (text : List ℕ)
      → (length text ≤ text_most → (n number field : ℕ) → outcome text ≡ bad_line n number field → P (refused_with number n field b))
      → ((t : Typed) → outcome text ≡ sheet t → length t.labels ≤ labels_most → length t.gaps ≤ gaps_most
      → P (record { answer = Ok (counts_of t); lists = filled t b }))
      → P (reading text b)
  unfolding reading
  reading_cases text bad read = go (ltb text_most (length text)) refl
    where
      by : length text ≤ text_most → (o : Outcome) → outcome text ≡ o → P (judged o b)
      by short (bad_line n number field) e = bad short n number field e
      by short (sheet t) e = settled_cases t (read t e)

      go : (long : Bool) → ltb text_most (length text) ≡ long → P (cond long (refused_with 11 0 no_field b) (judged (outcome text) b))
      go true e = whole.long
      go false e = by (ltb-false text_most _ e) (outcome text) refl
