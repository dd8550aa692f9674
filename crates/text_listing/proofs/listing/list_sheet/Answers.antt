-- `text_listing::listing::list_sheet` meets its contract: each check refuses as the definition does, and past them all
-- the text put is the one laid.
use Rattle.std.proofs.Common.{◌++◌, ◌∙◌, ap, sym, List, ℕ}
use Rattle.std.specs.Prelude.{Err}
use Rattle.ground.specs.declared.Refusal.{Refusal}
use Rattle.text_listing.specs.Listing.{gaps_in, slack_records, listable_of, listed_as, laid}
use Rattle.text_listing.proofs.Laying.{listed_crowded, listed_overfull, listed_ragged, listed_laid}
use Rattle.text_listing.proofs.listing.list_sheet.Goals as goal

pub returns-then-lent-gt-LABELS : goal.returns-then-lent-gt-LABELS
returns-then-lent-gt-LABELS c =
    let a = c.args in
    ap (λ (r : Refusal). listed_as (Err r) a.out.now) c.at.ensures
    ∙ listed_crowded (listable_of a.lent) a.out.now
    c.if-lent-gt-LABELS.true

pub returns-then-lent-gt-GAPS : goal.returns-then-lent-gt-GAPS
returns-then-lent-gt-GAPS c =
    let a = c.args in
    ap (λ (r : Refusal). listed_as (Err r) a.out.now) c.at-then-lent-gt-GAPS.ensures
    ∙ listed_overfull (listable_of a.lent) a.out.now
    c.if-lent-gt-LABELS.false c.if-lent-gt-GAPS.true

pub returns-then-not-is_even : goal.returns-then-not-is_even
returns-then-not-is_even c =
    let a = c.args in
    ap (λ (r : Refusal). listed_as (Err r) a.out.now) c.at-then-not-is_even.ensures
    ∙ listed_ragged (listable_of a.lent) a.out.now
    c.if-lent-gt-LABELS.false c.if-lent-gt-GAPS.false
    (sym c.is_even.ensures ∙ c.if-not-is_even.true)

pub returns : goal.returns
returns c =
    let a = c.args in
    let l = listable_of a.lent in
    c.lay.ensures
    ∙ ap (λ (text : List ℕ). laid text a.out.now)
    (c.as_bytes.ensures ∙ c.put_slacks.ensures.joined ∙ ap (λ (t : List ℕ). t ++ slack_records (gaps_in l) l) c.put_places.ensures.0)
    ∙ listed_laid (listable_of a.lent) a.out.now
    c.if-lent-gt-LABELS.false c.if-lent-gt-GAPS.false
    (sym c.is_even.ensures ∙ c.if-not-is_even.false)
