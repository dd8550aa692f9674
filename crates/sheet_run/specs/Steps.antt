-- What the steps of a run promise to each other.
use Rattle.std.specs.Prelude.{ℕ, ◌≤◌, ◌≡◌, List, take, ℤ}
use Rattle.ground.specs.Answers.{Answer}
use Rattle.ground.specs.declared.problem.Problem.{Problem}
use Rattle.sheet_checks.specs.Lent.{Written}
use Rattle.layout.specs.Promise.{Promise}
use Rattle.ground.specs.Entries.{Filled}
use Rattle.text_reading.specs.declared.Counts.{Counts}
use Rattle.text_reading.specs.Texts.{Lists}
use Rattle.text_listing.specs.Listing.{listing_room}
use Rattle.sheet_run.specs.Run.{lent_over, sheet_read, LaidOut}
use Rattle.ground.specs.Limits.{gaps_most, labels_most}

-- a problem's counts and lists
abbrev pub counts_in : Problem → Counts
counts_in p = record { labels = p.labels; gaps = p.gaps }

abbrev pub lists_in : Problem → Lists
lists_in p = record {
  wanted = p.wanted;
  weight = p.weight;
  left = p.left;
  right = p.right;
  distance = p.distance;
  kind = p.kind;
}

-- a sheet within the limits was read
pub record Holds (p : Problem) : Type 0 where
  pub labels : p.labels ≤ labels_most
  pub gaps : p.gaps ≤ gaps_most

-- an answer that keeps the promise, with the places afterwards
pub record Answered (p : Problem) (nums dens : List ℤ) (a : Answer) (nums_after dens_after : List ℤ) : Type 0 where
  pub after : Written
  pub promise : Promise (sheet_read (counts_in p) (lists_in p)) (lent_over (counts_in p) nums dens) a after
  pub nums_left : after.place_num ≡ nums_after
  pub dens_left : after.place_den ≡ dens_after

-- the first n bytes of the buffer are this text, and the rest stays
pub record Printed (text before : List ℕ) (n : ℕ) (after : List ℕ) : Type 0 where
  pub within : n ≤ listing_room
  pub front : take n after ≡ text
  pub rest : Filled n before after

-- the same of the sheet that was read
pub record PrintedRead (p : Problem) (before : List ℕ) (n : ℕ) (after : List ℕ) : Type 0 where
  pub within : n ≤ listing_room
  pub front : LaidOut (counts_in p) (lists_in p) (take n after)
  pub rest : Filled n before after
