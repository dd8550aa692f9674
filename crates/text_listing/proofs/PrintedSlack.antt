-- The slack that is printed for a gap, by whether its ends are labels.
use mathlib.Core.Path.{◌≡◌}
use Prim.Native.Nat.{ℕ, ◌≤◌, ◌<◌}
use borrow.Author.Tests.{le-ltb, lt-ltb}
use lib.IntN.{pos}
use Rattle.ground.specs.Entries.{nat, int}
use Rattle.exact.specs.Fraction.{whole}
use Rattle.single_fractions.specs.Slack.{slack_answer, slack_given}
use Rattle.text_listing.specs.Listing.{Listable, labels_in, place_in, printed_slack}

module _ (l : Listable) (e : ℕ) where
  -- 0/1 where an end is no label
  pub left_missing : labels_in l ≤ nat l.left e → whole (pos 0) ≡ printed_slack l e
  unfolding printed_slack
  left_missing h = rw (le-ltb (nat l.left e) (labels_in l) h)

  module _ (known : nat l.left e < labels_in l) where
    pub right_missing : labels_in l ≤ nat l.right e → whole (pos 0) ≡ printed_slack l e
    unfolding printed_slack
    right_missing h = rw (lt-ltb (nat l.left e) (labels_in l) known, le-ltb (nat l.right e) (labels_in l) h)

    -- else what the entry over single fractions gives
    pub slack_given_lem :
        nat l.right e < labels_in l → slack_given
        (slack_answer (place_in l (nat l.left e)) (place_in l (nat l.right e)) (int l.distance e)) ≡ printed_slack l e
    unfolding printed_slack
    slack_given_lem h = rw (lt-ltb (nat l.left e) (labels_in l) known, lt-ltb (nat l.right e) (labels_in l) h)
