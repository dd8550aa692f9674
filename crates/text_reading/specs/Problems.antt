-- A text read as the problem that it tells, into arrays of zeros.
use Rattle.std.specs.Prelude.{ℕ, List, replicate, ℤ, pos, Result, Ok, Err}
use Rattle.ground.specs.declared.problem.Problem.{Problem}
use Rattle.ground.specs.Limits.{gaps_most, labels_most}
use Rattle.text_reading.specs.declared.Counts.{Counts}
use Rattle.text_reading.specs.declared.Unread.{Unread}
use Rattle.text_reading.specs.Readings.{Reading}
use Rattle.text_reading.specs.Texts.{Lists, reading}

-- so many zeros
abbrev pub zeros : ℕ → List ℤ
zeros n = replicate n (pos 0)

-- the lists that are read into: zeros, with room for every sheet
abbrev pub zero_lists : Lists
zero_lists = record {
  wanted = zeros labels_most;
  weight = zeros labels_most;
  left = replicate gaps_most 0;
  right = replicate gaps_most 0;
  distance = zeros gaps_most;
  kind = replicate gaps_most 0;
}

-- so many labels and gaps, told by the fronts of these lists
abbrev pub problem_of : Counts → Lists → Problem
problem_of c l = record {
  labels = c.labels;
  gaps = c.gaps;
  left = l.left;
  right = l.right;
  distance = l.distance;
  kind = l.kind;
  wanted = l.wanted;
  weight = l.weight;
}

-- a reading's answer, with the lists in it
abbrev pub problem_told : Reading → Lists → Result Problem Unread
problem_told (Ok c) l = Ok (problem_of c l)
problem_told (Err u) l = Err u

abbrev pub problem_read : List ℕ → Result Problem Unread
problem_read text = problem_told (reading text zero_lists).answer (reading text zero_lists).lists
