-- `sheet_run::print` meets its contract: the listing fits, so it is never refused.
use Rattle.std.proofs.Common.{◌≡◌, ◌∙◌, ap, length, arith}
use Rattle.std.specs.Result.{result_unwrap_or}
use Rattle.text_listing.specs.Listing.{Listed, listable_now, listing_room}
use Rattle.sheet_run.proofs.Printing.{printed}
use Rattle.sheet_run.proofs.print.Goals as goal

pub returns : goal.returns
returns c =
    let a = c.args in
    let l = listable_now a.place_num a.place_den a.left a.right a.distance in
    -- the buffer has 24,576 bytes
    let room : length a.out.now ≡ listing_room = omega arith in
    let wrote = c.write_listing-listed.ensures in
    printed a.answer a.field l a.out.now c.requires.0 (omega (arith, c.requires.1, room)) _ _ room
    (c.unwrap_or.ensures ∙ ap (λ (x : Listed). result_unwrap_or x 0) wrote.0) wrote.1
