-- A sheet that is read has no more labels and gaps than a sheet may have.
use Rattle.std.specs.Prelude.{ℕ, ◌≤◌, List, Ok, Err}
use mathlib.Core.Path.{subst, sym}
use Rattle.ground.specs.Limits.{gaps_most, labels_most}
use Rattle.text_reading.specs.Readings.{Reading}
use Rattle.text_reading.specs.Texts.{Lists, Done, reading}
use Rattle.text_reading.specs.Parts.{ReadInto}
use Rattle.text_reading.proofs.ReadingCases.{reading_cases}

abbrev pub Few : Reading → Type 0
Few (Ok c) = (c.labels ≤ labels_most) × (c.gaps ≤ gaps_most)
Few (Err u) = Unit {0}

few_read : (text : List ℕ) (b : Lists) → Few (reading text b).answer
few_read text b =
    reading_cases (λ (d : Done). Few d.answer) b (record { long = tt; crowded = tt; over_gapped = tt; short_room = tt }) text
    (λ short n number field e. tt)
    (λ t read few gaps. (few, gaps))

pub few_into : (text : List ℕ) (b : Lists) (r : Reading) (l : Lists) → ReadInto text b r l → Few r
few_into text b r l into = subst (λ (d : Done). Few d.answer) (sym into) (few_read text b)
