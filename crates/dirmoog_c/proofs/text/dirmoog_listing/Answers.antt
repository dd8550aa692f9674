-- The listing is that of the answer that the number and the place tell.
use Rattle.std.proofs.Common.{◌∙◌, ap}
use Rattle.ground.specs.Answers.{Answer, number_of}
use Rattle.text_listing.specs.Listing.{Listable, Listed, Listing, listable_now, listed_in, bytes_of}
use Rattle.dirmoog_c.proofs.Telling.{bytes_told, told_at, listing_place}
use Rattle.dirmoog_c.proofs.text.dirmoog_listing.Goals as goal

pub returns : goal.returns
returns c =
    let a = c.args in
    let l : Listable = listable_now a.place_num a.place_den a.left a.right a.distance in
    let listing = ap (λ (r : Answer). listed_in r a.field l a.text.now) c.answer_of-answer.ensures in
    let wrote = c.write_listing-listed.ensures in
    let answer = wrote.0 ∙ ap (λ (l : Listing). l.answer) listing in
    record {
      written = wrote.1 ∙ ap (λ (l : Listing). l.buffer) listing;
      returned = c.number_of.ensures ∙ ap (λ (r : Listed). number_of r) answer;
      out_told = told_at a.out.now 0 c.put.ensures (c.unwrap_or.ensures ∙ bytes_told c.write_listing-listed.result ∙ ap bytes_of answer);
      no_place = listing_place _ _ _ _;
    }
