-- The answer of a layout call: document 01's number and values for each of its cases. It is a Result; the refused cases of
-- all answers carry the same struct, that of a reading with a line's bad field beside it.
use Rattle.std.specs.Prelude.{ℕ, Result, Ok, Err}
use Rattle.ground.specs.declared.Refusal.{Refusal}

-- the answer of a layout: placed, or a refusal
abbrev pub Answer : Type 0
Answer = Result (Unit {0}) Refusal

abbrev pub placed : Answer
placed = Ok tt

-- "refused with its number and its place"; no ring is told but with 9
abbrev pub refused_at : ℕ → ℕ → Refusal
refused_at number place = record { number = number; place = place; ring = 0 }

-- an answer's number, its place, and with 9 the ring's length: each 0 for placed
abbrev pub number_of : {A : Type 0} → Result A Refusal → ℕ
number_of (Ok _) = 0
number_of (Err r) = r.number

abbrev pub refused_place : {A : Type 0} → Result A Refusal → ℕ
refused_place (Ok _) = 0
refused_place (Err r) = r.place

abbrev pub ring_length_of : {A : Type 0} → Result A Refusal → ℕ
ring_length_of (Ok _) = 0
ring_length_of (Err r) = r.ring

-- the refusal of a number at a place, with a ring's length
abbrev pub refusal : ℕ → ℕ → ℕ → Answer
refusal number place ring = Err (record { number = number; place = place; ring = ring })
