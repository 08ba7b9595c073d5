-- Document 01, "Numbered refusals": the lowest number that holds is given, and no refusal where none holds; for reader, writer, turn, move, fresh bench and picture. Report, trace and
-- printed text give the reader's and then 14, by their own definitions. Assumes nothing.
use Rattle.std.specs.Prelude.{◌≡◌, true, List, ℕ, length}
use Rattle.rules.specs.Refusal.{Refusal, refusal_of, rising, LowestGiven}
use Rattle.rules.specs.Row.{refusals}
use Rattle.runfile.specs.Reading.{read_rows, read_of}
use Rattle.runfile.specs.Writing.{write_rows, write_of}
use Rattle.reach.specs.declared.Reach.{Reach}
use Rattle.reach.specs.Reach.{move_refusals}
use Rattle.bench.specs.declared.Bench.{Bench}
use Rattle.bench.specs.declared.Made.{Made}
use Rattle.bench.specs.Record.{blank}
use Rattle.bench.specs.Turn.{fresh_refusals, fresh_of}
use Rattle.bench.specs.Promise.{Turn, refusals_of}
use Rattle.rules.specs.Reason.{Numbers}
use Rattle.picture.specs.Picture.{picture_refusals, DrawnTo}

-- a table's numbers rise, so it gives the lowest that holds
pub record Rises (rs : List Refusal) : Type 0 where
  pub rises : rising rs ≡ true
  pub lowest : LowestGiven rs

-- the number of an answer, 0 where nothing is refused, is the one that the table gives
pub record Lowest (rs : List Refusal) (number : ℕ) : Type 0 where
  pub given : number ≡ refusal_of rs
  pub table : Rises rs

-- making a fresh bench; refused, it hands back a bench of all zeros
pub record FreshRefused (x n : ℕ) (answer : Made) : Type 0 where
  pub number : Lowest (fresh_refusals n) answer.refused
  pub zeros : (answer.refused ≡ 0 → ⊥) → answer.bench ≡ blank 0 0
  pub made : answer.refused ≡ 0 → answer.bench ≡ blank x n

-- drawing a picture; refused, its length is 0 and no byte changes
pub record PictureRefused (w : Bench) (out : List ℕ) (answer : Numbers) (after : List ℕ) : Type 0 where
  pub number : Lowest (picture_refusals w (length out)) answer.refused
  pub empty : (answer.refused ≡ 0 → ⊥) → answer.len ≡ 0
  pub same : (answer.refused ≡ 0 → ⊥) → after ≡ out

pub record LowestRefusals : Type 0 where
  pub reader : (file : List ℕ) → Lowest (refusals (read_rows file)) (read_of file).refused
  pub writer : (n : ℕ) (table turns : List ℕ) (room : ℕ) → Lowest (refusals (write_rows n table turns room)) (write_of n table turns room).refused
  -- `turn_of` and `move_of` give what their tables give; `turns_are_refused_exactly` says it of the answers
  pub turn : (w : Bench) (u : Turn) → Rises (refusals_of w u)
  pub move : (g : Reach) (kind a b : ℕ) → Rises (move_refusals g kind a b)
  pub fresh : (x n : ℕ) → FreshRefused x n (fresh_of x n)
  pub picture : (w : Bench) (out : List ℕ) (answer : Numbers) (after : List ℕ) → DrawnTo w out answer after → PictureRefused w out answer after
