-- A room by value as what a call is lent to write (document 01, "What a station lends").
use Rattle.std.specs.Prelude.{ℕ, List, take, replicate, ℤ}
use Rattle.ground.specs.Limits.{labels_most, gaps_most}
use Rattle.rooms.specs.declared.Room.{Room}
use Rattle.sheet_checks.specs.Lent.{Written}

-- "the carried record, one byte per gap": the first so many
abbrev pub written : ℕ → Room → Written
written gaps room = record {
  place_num = room.place_num;
  place_den = room.place_den;
  mult_num = room.mult_num;
  mult_den = room.mult_den;
  ring = room.ring;
  back = room.back;
  carried = take gaps room.carried;
}

-- buffers that hold one number, the ring buffers zeros, beside a carried record
abbrev pub filled : ℤ → List ℕ → Written
filled fill carried = record {
  place_num = replicate labels_most fill;
  place_den = replicate labels_most fill;
  mult_num = replicate gaps_most fill;
  mult_den = replicate gaps_most fill;
  ring = replicate labels_most 0;
  back = replicate labels_most 0;
  carried = carried;
}

-- the room that they make
abbrev pub room_of : ℤ → List ℕ → Room
room_of fill carried = record {
  place_num = replicate labels_most fill;
  place_den = replicate labels_most fill;
  mult_num = replicate gaps_most fill;
  mult_den = replicate gaps_most fill;
  ring = replicate labels_most 0;
  back = replicate labels_most 0;
  carried = carried;
}
