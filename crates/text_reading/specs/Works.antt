-- The work arrays of a reading, as lists.
use Rattle.text_reading.specs.declared.work.Work.{Work}
use Rattle.text_reading.specs.Texts.{Lists}

abbrev pub lists_in : Work → Lists
lists_in w = record { wanted = w.wanted; weight = w.weight; left = w.left; right = w.right; distance = w.distance; kind = w.kind }
