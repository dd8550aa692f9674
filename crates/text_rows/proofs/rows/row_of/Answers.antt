-- `text_rows::rows::row_of` meets its contract: the first field decides.
use Rattle.std.proofs.Common.{arith}
use Rattle.text_rows.specs.Taking.{label_word, gap_word, same_word, row_of}
use Rattle.text_rows.proofs.FieldLaws.{other_word, spelled}
use Rattle.text_rows.proofs.rows.row_of.Goals as goal

pub returns-in-label : goal.returns-in-label
unfolding row_of
returns-in-label c =
    rw (spelled c.args.word.now label_word (omega arith) (omega arith)) c.label_row.ensures

pub returns-in-gap : goal.returns-in-gap
unfolding row_of
returns-in-gap c =
    let word = c.args.word.now in
    rw (other_word word label_word (omega arith), spelled word gap_word (omega arith) (omega arith)) c.gap_row.ensures

pub returns-in-same : goal.returns-in-same
unfolding row_of
returns-in-same c =
    let word = c.args.word.now in
    rw (
      other_word word label_word (omega arith),
      other_word word gap_word (omega arith),
      spelled word same_word (omega arith) (omega arith),
    ) c.gap_row-in-same.ensures

pub returns-in_default : goal.returns-in_default
unfolding row_of
returns-in_default c =
    let word = c.args.word.now in
    rw (
      other_word word label_word (grind arith),
      other_word word gap_word (grind arith),
      other_word word same_word (grind arith),
    ) (grind arith)
