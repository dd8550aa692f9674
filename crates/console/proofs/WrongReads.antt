-- Wrong answers of a read: for each, the clause of `read_full`, or of what `?` does, that it breaks. Nothing cites them.
use Rattle.std.proofs.Common.{◌≡◌, ◌≢◌, ℕ, ◌+◌, ◌<◌, List, length, take, Ok, Err, Continue, Some, None, sym, ap, ◌∙◌, arith, length-append}
use Rattle.std.specs.Io.{ReadsAtMost}
use Rattle.std.specs.Io.KnownBytes.{Consumes, ReadConsumes, IsAtEnd}
use Rattle.std.specs.Result.{result_from_control_flow}
use Rattle.std.specs.declared.option.Option.{Option}
use Rattle.console.specs.Reads.{FullOrAtEnd}

-- a failed read, whatever its input has left: what `?` goes on with is never a count of it
pub failure_for_count : {E : Type 0} (e : E) (n : ℕ) → Err e ≢ result_from_control_flow (Continue n)
failure_for_count e n told = absurd (cc told)

module _ (E : Type 0) (n : ℕ) (buffer : List ℕ) where
  -- more bytes than the buffer takes
  pub past_the_buffer : length buffer < n → ¬ ReadsAtMost {E = E} (Ok n) buffer
  past_the_buffer lt within = omega (arith, lt, within.0)

  -- fewer bytes than the buffer takes, told of an input that has more
  pub short_before_end : (left : Option (List ℕ)) → ¬ IsAtEnd left → n < length buffer → ¬ FullOrAtEnd {E = E} (Ok n) buffer left
  short_before_end left more lt end = more (end lt)

  -- A failed read, which leaves the input as it was, taken for the end of the input or for a short one: where the input gave some bytes, which do
  -- not fill the buffer, and has more, no count is an answer.
  pub failure_for_end : (e : E) (all given part : List ℕ) (was left : Option (List ℕ))
      → Consumes (Some all) was given → length given < length buffer → ¬ IsAtEnd was → ReadConsumes was left (Err e) part
      → ReadsAtMost {E = E} (Ok n) buffer → Consumes (Some all) left (take n buffer) → ¬ FullOrAtEnd {E = E} (Ok n) buffer left
  failure_for_end e all given part None left before room more failed within bytes = absurd before
  failure_for_end e all given part (Some ws) None before room more failed within bytes = absurd failed
  failure_for_end e all given part (Some ws) (Some xs) before room more failed within bytes =
      let told : length all ≡ length given + length ws = ap length before ∙ length-append given ws in
      let said : length all ≡ length (take n buffer) + length xs = ap length bytes ∙ length-append (take n buffer) xs in
      let same : length xs ≡ length ws = ap length failed in
      let short : n < length buffer = omega (arith, told, said, same, room, within.0, within.1) in
      short_before_end (Some xs) (λ none. more (sym failed ∙ none)) short
