-- `text_listing::listing::write_listing` meets its contract, by the answer.
use Rattle.std.proofs.Common.{◌∙◌, ap, sym}
use Rattle.ground.specs.Answers.{Answer}
use Rattle.text_listing.specs.Listing.{listable_now, Listing, listed_in}
use Rattle.text_listing.proofs.listing.write_listing.Goals as goal

pub returns-in-Ok : goal.returns-in-Ok
unfolding listed_in
returns-in-Ok c =
    let a = c.args in
    let l = listable_now a.place_num a.place_den a.left a.right a.distance in
    let e = c.list_sheet.ensures ∙ ap (λ (r : Answer). listed_in r a.field l a.out.now) (sym c.in-Ok.is) in
    (ap (λ (l : Listing). l.answer) e, ap (λ (l : Listing). l.buffer) e)

pub returns-in-Err : goal.returns-in-Err
unfolding listed_in
returns-in-Err c =
    let a = c.args in
    let l = listable_now a.place_num a.place_den a.left a.right a.distance in
    let e = c.list_refused.ensures ∙ ap (λ (r : Answer). listed_in r a.field l a.out.now) (sym c.in-Err.is) in
    (ap (λ (l : Listing). l.answer) e, ap (λ (l : Listing). l.buffer) e)
