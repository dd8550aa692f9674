-- The line at a position of a text, as the code finds it.
use Rattle.std.specs.Prelude.{ℕ, zero, suc, ◌+◌, ◌-◌, ◌≤◌, ◌<◌, ◌≡◌, ◌⊎◌, cond, List, ◌∷◌, eqb, length, get_or, take, drop}
use Rattle.text_rows.specs.declared.lines.Cursor.{Cursor}
use Rattle.text_rows.specs.declared.lines.Line.{Line}
use Rattle.text_rows.specs.Lines.{lines, carriage_return, line_feed}

-- how long a line is whose LF stands after n bytes: a CR just before the LF is not part of it
abbrev pub line_end : List ℕ → ℕ → ℕ
line_end s zero = zero
line_end s (suc n) = cond (eqb (get_or s n 0) carriage_return) n (suc n)

-- the line at a position: its bytes, and where the rest begins
pub record LineAt (text : List ℕ) (from : Cursor) (l : Line) : Type 0 where
  pub start : from.at ≤ l.end
  pub stop : l.end ≤ length text
  pub on : from.at < l.next.at
  pub rest : l.next.at ≤ length text
  pub number : l.next.line ≡ from.line + 1
  pub parted :
      lines (drop from.at text)
      ≡ take (l.end - from.at) (drop from.at text) ∷ lines (drop l.next.at text)
  -- the rest begins behind a LF, or there is none
  pub fed : (l.next.at ≡ length text) ⊎ ((k : ℕ) × ((l.next.at ≡ k + 1) × (get_or text k 0 ≡ line_feed)))
