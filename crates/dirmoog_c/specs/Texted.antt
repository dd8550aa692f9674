-- What the exported calls on texts owe: what the reader and the listing promise, with their answers told in numbers.
use Rattle.std.specs.Prelude.{ℕ, ◌≡◌, cond, List, eqb, set, Ok, Err}
use Rattle.ground.specs.Answers.{Answer, placed, refusal}
use Rattle.text_reading.specs.Readings.{Reading, number_of, refused_place, field_of, labels_of, gaps_of}
use Rattle.text_reading.specs.Texts.{Lists, reading}
use Rattle.text_listing.specs.Listing as writing
use Rattle.dirmoog_c.specs.Exported.{told}

-- what C is told of a reading: the counts of labels and gaps, or the place and the bad field
abbrev pub read_first : Reading → ℕ
read_first (Ok counts) = labels_of (Ok counts)
read_first (Err u) = refused_place (Err u)

abbrev pub read_second : Reading → ℕ
read_second (Ok counts) = gaps_of (Ok counts)
read_second (Err u) = field_of (Err u)

-- a text is read into lent lists, and what is told is told of that reading
pub record ReadTold (text : List ℕ) (before : Lists) (out : List ℕ) (number : ℕ) (after : Lists) (out_after : List ℕ) : Type 0 where
  pub lists : after ≡ (reading text before).lists
  pub returned : number ≡ number_of (reading text before).answer
  pub out_told : out_after ≡ told (read_first (reading text before).answer) (read_second (reading text before).answer) out

-- the answer that a number and a place tell: 0 is placed
abbrev pub answer_of : ℕ → ℕ → Answer
answer_of number place = cond (eqb number 0) placed (refusal number place 0)

-- what the writer leaves in the buffer, with its number and the count of bytes told; a refusal's place is 0 and is not told
pub record ListingTold (listed : writing.Listing) (out : List ℕ) (number : ℕ) (text_after out_after : List ℕ) : Type 0 where
  pub written : text_after ≡ listed.buffer
  pub returned : number ≡ writing.number_of listed.answer
  pub out_told : out_after ≡ set out 0 (writing.bytes_of listed.answer)
  pub no_place : writing.refused_place listed.answer ≡ 0
