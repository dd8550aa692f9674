-- The tests of the gap's kind and of its slack's sign say whether it holds.
use Rattle.core_worst_gap.proofs.WorstGap.{slack_turns, slack_divides, turned_divides, at_least_next, exactly_next, forwards_next, backwards_next}
use Rattle.core_worst_gap.proofs.consider.Goals as goal

pub overflow_sub-slack : goal.overflow_sub-slack
overflow_sub-slack c = slack_turns c.args.e c.requires.within c.requires.comparable c.place_at-from.ensures c.place_at-to.ensures c.between-slack.ensures

pub nonzero_div-slack : goal.nonzero_div-slack
nonzero_div-slack c = turned_divides c.args.e c.requires.within c.requires.comparable c.place_at-from.ensures c.place_at-to.ensures c.between-slack.ensures

pub returns-then-slack-lt0 : goal.returns-then-slack-lt0
returns-then-slack-lt0 c =
    let r = c.requires in
    forwards_next c.args.e r.within r.comparable c.place_at-from.ensures c.place_at-to.ensures c.between-slack.ensures _ r.worst_of
    c.if-what-gt-EXACTLY.false c.if-slack-lt0.true c.better.ensures

pub returns-then-what-eq-AT_LEAST : goal.returns-then-what-eq-AT_LEAST
returns-then-what-eq-AT_LEAST c =
    let r = c.requires in
    at_least_next c.args.e r.within r.comparable c.place_at-from.ensures c.place_at-to.ensures c.between-slack.ensures _ r.worst_of
    c.if-what-eq-AT_LEAST.true c.if-slack-lt0.false

pub nonzero_div-slack-then-slack-gt0 : goal.nonzero_div-slack-then-slack-gt0
nonzero_div-slack-then-slack-gt0 c = slack_divides c.args.e c.requires.within c.requires.comparable c.place_at-from.ensures c.place_at-to.ensures c.between-slack.ensures

pub returns-then-slack-gt0 : goal.returns-then-slack-gt0
returns-then-slack-gt0 c =
    let r = c.requires in
    backwards_next c.args.e r.within r.comparable c.place_at-from.ensures c.place_at-to.ensures c.between-slack.ensures _ r.worst_of
    c.if-what-gt-EXACTLY.false c.if-what-eq-AT_LEAST.false c.if-slack-gt0.true c.better-then-slack-gt0.ensures

pub returns : goal.returns
returns c =
    let r = c.requires in
    exactly_next c.args.e r.within r.comparable c.place_at-from.ensures c.place_at-to.ensures c.between-slack.ensures _ r.worst_of
    c.if-what-gt-EXACTLY.false c.if-what-eq-AT_LEAST.false c.if-slack-lt0.false c.if-slack-gt0.false
