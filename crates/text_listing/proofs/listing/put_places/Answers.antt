use Rattle.std.proofs.Common.{◌++◌, ℕ, List, ℤ, pos, take, get_or, length, sym, ap, ◌∙◌, add-one, arith, FitsSigned, w64, rules}
use mir.ValLaws.{to_z-of_z}
use Rattle.text_listing.specs.Appended.{Appended}
use Rattle.text_listing.proofs.Appending.{longer, told}
use Rattle.text_listing.specs.Listing.{place_record, place_records, unit_at, unit_of}
use Rattle.text_listing.proofs.Size.{length_place_record}
use Rattle.text_listing.proofs.listing.put_places.Goals as goal

-- the records of the first labels
abbrev records : (nums dens : List ℤ) → ℕ → List ℕ
records nums dens n = place_records n nums dens (unit_at nums dens)

pub loop-label-init : goal.loop-label-init
unfolding place_records
loop-label-init c = (c.requires.2, omega (arith, ap length c.requires.2))

pub loop-label-preserved : goal.loop-label-preserved
unfolding place_records
loop-label-preserved c =
    let l = c.loop-label in
    let a = c.args in
    let i = l.invariant in
    let num = get_or a.place_num.now l.label (pos 0) in
    let den = get_or a.place_den.now l.label (pos 0) in
    let fn : FitsSigned w64 num = search rules in
    let fd : FitsSigned w64 den = search rules in
    let next = c.put_place.new.text in
    let p : Appended (take l.text.end l.text.bytes) (place_record l.label num den (unit_of num den)) (take next.end next.bytes) =
    told (λ i. place_record l.label (to_z-of_z w64 num fn i) (to_z-of_z w64 den fd i)
    (unit_of (to_z-of_z w64 num fn i) (to_z-of_z w64 den fd i))) c.put_place.ensures in (
      p.joined ∙ ap (λ (t : List ℕ). t ++ place_record l.label num den (unit_of num den)) i.0
          ∙ ap (records a.place_num.now a.place_den.now) (sym (add-one l.label)),
      omega (arith, i.1, longer p, length_place_record l.label num den (omega arith) fn fd),
    )
