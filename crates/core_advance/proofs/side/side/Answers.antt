-- Each call finds what those before it left, and the laws of a searched block bound it.
use Rattle.std.proofs.Common.{arith, refl, to_z-of_z}
use Rattle.core_elimination.proofs.Ranges.{total_word}
use Rattle.core_elimination.proofs.SearchedBlock.{block_ordered, block_listed, block_range, block_sums, surplus_light}
use Rattle.core_advance.proofs.EndBlock.{shares_moderate, moderate_small, block_breakable}
use Rattle.core_advance.proofs.side.side.Goals as goal

pub sums-sums-requires : goal.sums-sums-requires
sums-sums-requires c =
    let t = c.search_along.ensures.0 in
    (block_listed c.requires.0 t, block_range c.requires.0 t)

pub surplus-requires : goal.surplus-requires
surplus-requires c =
    let t = c.search_along.ensures.0 in
    let lim = c.requires.0 in (
      block_listed lim t,
      block_range lim t,
      block_sums lim t c.sums-sums.result c.sums-sums.ensures.0 c.sums-sums.ensures.1,
      rw (to_z-of_z c.ranges.sign) c.requires.3,
    )

pub shared-joined-requires : goal.shared-joined-requires
shared-joined-requires c =
    let lim = c.requires.0 in
    (block_listed lim c.search_along.ensures.0, omega (arith, lim.labels_bound, c.requires.2))

pub eliminate-requires : goal.eliminate-requires
eliminate-requires c =
    let t = c.search_along.ensures.0 in
    let lim = c.requires.0 in
    let sums = block_sums lim t c.sums-sums.result c.sums-sums.ensures.0 c.sums-sums.ensures.1 in
    (block_ordered lim t, surplus_light lim t c.args.sign c.sums-sums.result c.requires.3 sums (rw (to_z-of_z c.ranges.sign) at c.surplus.ensures))

pub eliminate-requires-2 : goal.eliminate-requires-2
eliminate-requires-2 c =
    let t = c.search_along.ensures.0 in
    let lim = c.requires.0 in
    let sums = block_sums lim t c.sums-sums.result c.sums-sums.ensures.0 c.sums-sums.ensures.1 in
    let shares = rw (total_word sums).is at c.shared-joined.ensures in
    (block_ordered lim t, moderate_small (shares_moderate lim t c.shared-joined.result c.args.other.0 c.sums-sums.result sums shares.given))

pub least_break-requires : goal.least_break-requires
least_break-requires c =
    let t = c.search_along.ensures.0 in
    let lim = c.requires.0 in
    let sums = block_sums lim t c.sums-sums.result c.sums-sums.ensures.0 c.sums-sums.ensures.1 in
    let shares = rw (total_word sums).is at c.shared-joined.ensures in
    let known =
    block_breakable lim t c.surplus.new.held c.shared-joined.new.share c.surplus.array_long
    (surplus_light lim t c.args.sign c.sums-sums.result c.requires.3 sums (rw (to_z-of_z c.ranges.sign) at c.surplus.ensures))
    c.shared-joined.array_long
    (shares_moderate lim t c.shared-joined.result c.args.other.0 c.sums-sums.result sums shares.given) in
    (rw (c.eliminate.ensures, c.eliminate-2.ensures) known, rw (to_z-of_z c.ranges.sign) c.requires.3)

pub returns : goal.returns
returns c =
    let t = c.search_along.ensures.0 in
    let sums = block_sums c.requires.0 t c.sums-sums.result c.sums-sums.ensures.0 c.sums-sums.ensures.1 in
    let shares = rw (total_word sums).is at c.shared-joined.ensures in
    record {
      held = c.eliminate.new.held;
      share = c.eliminate-2.new.held;
      found =
          record {
            counted = refl;
            tree = t;
            weight = c.sums-sums.ensures.0;
            wanted = c.sums-sums.ensures.1;
            joined = shares.joined_is;
            held₀ = _;
            held₁ = c.surplus.new.held;
            surplus = rw (to_z-of_z c.ranges.sign) at c.surplus.ensures;
            held_size = c.surplus.array_long;
            held_is = c.eliminate.ensures;
            share₀ = _;
            share₁ = c.shared-joined.new.share;
            shares = shares.given;
            share_size = c.shared-joined.array_long;
            share_is = c.eliminate-2.ensures;
            first = rw (to_z-of_z c.ranges.sign) at c.least_break.ensures;
          };
      rest = c.search_along.ensures.1;
    }
