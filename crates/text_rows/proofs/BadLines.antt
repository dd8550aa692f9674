-- What a line that is not taken tells: the number and the field beside it.
use Prim.Native.Nat.{ℕ, ◌≤◌}
use mathlib.Core.Path.{refl}
use mathlib.Core.List.{List}
use native.Mathlib.Omega.{arith}
use Rattle.text_rows.specs.declared.Earlier.{Earlier}
use Rattle.text_rows.specs.Taking.{FieldTold, NamesNone, Taken, bad, number_most, refusal_field, refusal_number, no_field, taken}
use Rattle.text_rows.proofs.LineCases.{taken_cases}

-- a number that is none of 13 to 15 names no field
pub no_field_lem : (number : ℕ) → NamesNone number → number ≤ number_most → FieldTold number no_field
no_field_lem number h most = record {
  none = λ k. refl;
  word = λ k. absurd (omega arith);
  least = λ k. absurd (omega arith);
  turn = λ k. absurd (omega arith);
  number_bound = omega arith;
  field_most = omega arith;
}

-- it is told of a line
abbrev Told : Taken → Type 0
Told t = FieldTold (refusal_number t) (refusal_field t)

word_told : Told (bad 13 1)
word_told = record {
  none = λ k. absurd (omega arith);
  word = λ k. omega arith;
  least = λ k. absurd (omega arith);
  turn = λ k. absurd (omega arith);
  number_bound = omega arith;
  field_most = omega arith;
}

number_told : (field : ℕ) → 2 ≤ field → field ≤ 4 → Told (bad 14 field)
number_told field l m = record {
  none = λ k. absurd (omega arith);
  word = λ k. absurd (omega arith);
  least = λ k. l;
  turn = λ k. absurd (omega arith);
  number_bound = omega arith;
  field_most = m;
}

turn_told : Told (bad 15 2)
turn_told = record {
  none = λ k. absurd (omega arith);
  word = λ k. absurd (omega arith);
  least = λ k. absurd (omega arith);
  turn = λ k. omega arith;
  number_bound = omega arith;
  field_most = omega arith;
}

-- of every line, whatever came before it
pub taken_told : (earlier : Earlier) (line : List ℕ) → FieldTold (refusal_number (taken earlier line)) (refusal_field (taken earlier line))
taken_told earlier line =
    taken_cases Told
    (record { count = no_field_lem 10 (omega arith) (omega arith); word = word_told; number = number_told; turn = turn_told })
    earlier line
    (λ n z m k. no_field_lem 0 (omega arith) (omega arith))
    (λ kind u v z k. no_field_lem 0 (omega arith) (omega arith))
