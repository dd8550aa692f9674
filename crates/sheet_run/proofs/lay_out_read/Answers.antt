-- `sheet_run::lay_out_read` meets its contract:
-- the parts that are lent are the sheet that was read, and the part of the record is zeros.
use Rattle.std.proofs.Common.{ℕ, refl}
use Rattle.std.proofs.lemmas.List.{take-replicate}
use Rattle.sheet_run.proofs.lay_out_read.Goals as goal

pub returns : goal.returns
returns c =
    let n = c.lay_out.new in
    let told = c.lists_of.ensures in
    record {
      after =
          record {
            place_num = n.place_num;
            place_den = n.place_den;
            mult_num = n.mult_num;
            mult_den = n.mult_den;
            ring = n.ring;
            back = n.back;
            carried = n.carried;
          };
      promise =
          rw (
            told.wanted,
            told.weight,
            told.left,
            told.right,
            told.distance,
            told.kind,
            take-replicate {X = ℕ} c.args.p.now.gaps 192 0 c.requires.gaps,
          ) at c.lay_out.ensures;
      nums_left = refl;
      dens_left = refl;
    }
