-- A listing that fits is laid whole over the front of the buffer.
use Prim.Native.Nat.{ℕ, ◌≤◌}
use mathlib.Core.Path.{◌≡◌, refl, ap, ◌∙◌}
use mathlib.Core.List.{List, ◌++◌}
use native.Mathlib.Omega.{arith}
use lib.ListN.{length, drop, length-append, length-drop}
use lib.Seq.{take_at, drop_at}
use borrow.Author.Tests.{le-leb, le-ltb, eq-eqb}
use Rattle.std.specs.Prelude.{Ok, Err}
use Rattle.std.specs.Result.{result_unwrap_or}
use Rattle.ground.specs.declared.Refusal.{Refusal}
use Rattle.ground.specs.Answers.{Answer}
use Rattle.ground.specs.Limits.{gaps_most, labels_most}
use Rattle.text_listing.specs.Listing.{Listable, Listing, Within, gaps_in, labels_in, listed_in, listing, listing_room}
use Rattle.sheet_run.specs.Steps.{Printed}

module _ (a : Answer) (field : ℕ) (l : Listable) (b : List ℕ) (within : Within l) (fits : length (listing a field l) ≤ length b) where
  whole : listed_in a field l b ≡ record { answer = Ok (length (listing a field l)); buffer = listing a field l ++ drop (length (listing a field l)) b }
  unfolding listed_in
  whole = go a fits
    where
      go : (x : Answer) → length (listing x field l) ≤ length b
          → listed_in x field l b ≡ record { answer = Ok (length (listing x field l)); buffer = listing x field l ++ drop (length (listing x field l)) b }
      go (Ok _) h =
          rw (
            le-ltb labels_most (labels_in l) within.labels,
            le-ltb gaps_most (gaps_in l) within.gaps,
            eq-eqb (length l.place_den) (labels_in l) within.dens,
            eq-eqb (length l.right) (gaps_in l) within.right,
            eq-eqb (length l.distance) (gaps_in l) within.distance,
            le-leb _ _ h,
          )
      go (Err r) h = rw (le-leb _ _ h)

  pub never_refused : {r : Refusal} → Err r ≡ (listed_in a field l b).answer → ⊥
  never_refused e = let k = e ∙ ap (λ (d : Listing). d.answer) whole in cc

  pub printed : (n : ℕ) (after : List ℕ) → length b ≡ listing_room → n ≡ result_unwrap_or (listed_in a field l b).answer 0 → after ≡ (listed_in a field l b).buffer
      → Printed (listing a field l) b n after
  printed n after size told laid =
      let counted : n ≡ length (listing a field l) = told ∙ ap (λ (d : Listing). result_unwrap_or d.answer 0) whole in
      let over : after ≡ listing a field l ++ drop (length (listing a field l)) b = laid ∙ ap (λ (d : Listing). d.buffer) whole in
      rw (over, counted) (record {
        within = omega arith;
        front = take_at (listing a field l) (drop (length (listing a field l)) b) (length (listing a field l)) refl;
        rest = record {
          size = simp (length-append, length-drop) (omega arith);
          beyond = drop_at (listing a field l) (drop (length (listing a field l)) b) (length (listing a field l)) refl;
        };
      })
