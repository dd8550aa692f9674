-- What is lent where the records lie in an array (document 01, "What a station lends").
use Rattle.std.specs.Prelude.{ℕ, List, take, ℤ}
use Rattle.ground.specs.declared.GapRecord.{GapRecord}
use Rattle.sheet_checks.specs.Lent.{Read, records}

-- "The gaps may also be lent as one list of records": the first so many of an array
abbrev pub array_lent : (wanted weight : List ℤ) (gaps : List GapRecord) (count : ℕ) → Read
array_lent wanted weight gaps count =
    record { wanted = wanted; weight = weight; gaps = records (take count gaps) }
