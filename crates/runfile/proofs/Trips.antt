-- The two round trips: what is written reads as the same run, and a file that reads well is written again byte for byte. Assumes nothing.
use mathlib.Core.Path.{◌≡◌, refl, ◌∙◌, sym, ap, subst}
use mathlib.Core.List.{List, ◌∷◌, ◌++◌, append_assoc}
use Prim.Native.Nat.{ℕ, ◌+◌, ◌*◌, ◌-◌, ◌%◌, ◌^◌, ◌<◌, ◌≤◌}
use native.Mathlib.Omega.{arith}
use borrow.Author.Tests.{eq-eqb, le-ltb}
use lib.Dec.{eqb}
use lib.ListN.{length, take, drop, length-append}
use lib.Seq.{take_at, drop_at, take-add, take_all}
use Rattle.octets.specs.Bytes.{AllBytes}
use Rattle.rules.specs.Row.{row}
use Rattle.rules.proofs.Rows.{Clear, clear_both}
use Rattle.runfile.specs.declared.Trailer.{Trailer}
use Rattle.rules.specs.Reason.{Numbers}
use Rattle.runfile.specs.Layout.{part, records, trailer_of, trailer, trailer_bytes, file_of}
use Rattle.runfile.specs.Reading.{part_rows, turn_count, agrees, trailer_at, table_by, turns_by, number_rows, content_rows, trailer_rows, longest, bad_length, read_rows, run_by, read_of}
use Rattle.runfile.specs.Writing.{file_length, length_rows, room_rows, write_rows, wrote, Written}
use Rattle.runfile.specs.Promise.{Holds, WrittenReadsBack, WrittenAs, ReadWritesBack}
use Rattle.runfile.proofs.Answers.{Good, by_answer, reads}
use Rattle.runfile.proofs.Limits.{agreed_anew, agreeing}
use Rattle.runfile.proofs.Trailers.{length_part, bytes_part, length-trailer, told, told_again}
use Rattle.runfile.proofs.Writes.{length-file, Accepted, whole_table, clear_writes, taken, len_is, stands}

-- what the writer accepts, read again
module _ (x n : ℕ) (table turns : List ℕ) (room : ℕ) (h : x < 2 ^ 32) (a : Accepted n table turns room) where
  abbrev q : ℕ
  q = records table

  abbrev z : Trailer
  z = trailer x n q (length turns)

  abbrev F : List ℕ
  F = file_of x n table turns

  whole : 12 * q ≡ length table
  whole = whole_table n table turns room a

  trailer_there : trailer_at F ≡ z
  unfolding file_of
  trailer_there =
      let l = a.limits in
      let e : length (table ++ turns) ≡ length F - 16 = omega (arith, length-append table turns, length-file x n table turns) in
      ap trailer_of (ap (take 16) (drop_at (table ++ turns) (trailer_bytes z) (length F - 16) e) ∙ take_all 16 (trailer_bytes z) (omega (arith, length-trailer z)))
      ∙ told z (record { x = h; n = omega arith; form = omega arith; q = omega arith; first = omega arith; second = omega arith })

  table_there : table_by z F ≡ table
  unfolding file_of
  table_there = rw append_assoc (take_at table (turns ++ trailer_bytes z) (12 * q) (sym whole))

  turns_there : turns_by z F ≡ turns
  unfolding file_of
  turns_there =
      rw append_assoc
      (ap (take (length turns)) (drop_at table (turns ++ trailer_bytes z) (12 * q) (sym whole)) ∙ take_at turns (trailer_bytes z) (length turns) refl)

  no_row : Clear (read_rows F)
  no_row =
      let l = a.limits in
      let w = whole in
      let e = length-file x n table turns in
      let g = agreeing (length F) z (record { first = refl; whole = omega arith }) in
      subst (λ y. Clear (row 1 (bad_length F) 0 ∷ trailer_rows F y)) (sym trailer_there) (
        rw (le-ltb (length F) 16 (omega arith), le-ltb longest (length F) (omega arith)),
        (
          refl,
          clear_both (number_rows F z) (content_rows F z)
              (agreed_anew n q (length turns) (eqb (length table % 12) 0) (agrees (length F) z) g a.lengths)
              (rw (table_there, turns_there) a.parts),
        ),
      )

  answered : read_of F ≡ run_by z
  answered = reads F no_row ∙ ap run_by trailer_there

  pub holds : Holds (file_of x n table turns) x n table turns
  holds =
      record {
        answer = answered ∙ rw whole;
        calls = ap (λ r. part F r.start (12 * r.q)) answered ∙ table_there;
        moves = ap (λ r. part F r.middle r.t) answered ∙ turns_there;
      }

pub written_reads_back : WrittenReadsBack
unfolding WrittenReadsBack
written_reads_back x n table turns out answer after h w e =
    let l : take answer.len after ≡ file_of x n table turns =
    ap (λ k. take k after) (len_is x n table turns out answer after w e)
    ∙ ap (take (file_length table turns)) (stands x n table turns out answer after w e)
    ∙ take_at (file_of x n table turns) (drop (file_length table turns) out) (file_length table turns) (length-file x n table turns) in
    subst (λ f. Holds f x n table turns) (sym l) (holds x n table turns (length out) h (taken x n table turns out answer after w e))

-- what the reader accepts, written again
module _ (f : List ℕ) (h : AllBytes f) (z : Trailer) (y : z ≡ trailer_at f) (g : Good f z) where
  abbrev T : List ℕ
  T = table_by z f

  abbrev U : List ℕ
  U = turns_by z f

  length-table : length T ≡ 12 * z.q
  length-table = let a = g.agree in length_part f 0 (12 * z.q) (omega arith)

  length-turns : length U ≡ turn_count z
  length-turns = let a = g.agree in length_part f (12 * z.q) (turn_count z) (omega arith)

  whole_records : records T ≡ z.q
  whole_records = omega (arith, length-table)

  same_length : file_length T U ≡ length f
  same_length = let a = g.agree in omega (arith, length-table, length-turns)

  no_length_row : Clear (length_rows z.n T U)
  no_length_row =
      let a = eqb (length T % 12) 0 in
      let m = eq-eqb (length T % 12) 0 (omega (arith, length-table)) in
      rw (whole_records, length-turns) (agreed_anew z.n z.q (turn_count z) (agrees (length f) z) a m g.numbers)

  no_write_row : (room : ℕ) → length f ≤ room → Clear (write_rows z.n T U room)
  no_write_row room r =
      clear_both (length_rows z.n T U) (part_rows z.n T U ++ room_rows T U room) no_length_row
      (clear_both (part_rows z.n T U) (room_rows T U room) g.contents (le-ltb room (file_length T U) (omega (arith, same_length)), tt))

  -- the trailer that the writer makes is the one that was read
  same_trailer : trailer z.x z.n (records T) (length U) ≡ z
  same_trailer = rw (whole_records, length-turns, ← g.agree.first, ← g.form)

  same_bytes : file_of z.x z.n T U ≡ f
  unfolding file_of
  same_bytes =
      let a = g.agree in
      let e = 12 * z.q + turn_count z in
      let at : length f - 16 ≡ e = omega arith in
      let s = part f (length f - 16) 16 in
      let l : length s ≡ 16 = length_part f (length f - 16) 16 (omega (arith, g.long)) in
      let t : trailer_bytes z ≡ s = ap trailer_bytes y ∙ told_again s (bytes_part f (length f - 16) 16 h) l in
      ap (λ w. T ++ U ++ w) (ap trailer_bytes same_trailer ∙ t ∙ ap (λ i. part f i 16) at)
      ∙ ap (λ w. w ++ part f e 16) (sym (take-add (12 * z.q) (turn_count z) f))
      ∙ sym (take-add e 16 f)
      ∙ take_all (e + 16) f (omega arith)

  pub again : (out : List ℕ) (answer : Numbers) (after : List ℕ) → length f ≤ length out
      → Written z.x z.n (table_by z f) (turns_by z f) out answer after → WrittenAs f out answer after
  again out answer after r w =
      let c = clear_writes z.x z.n T U out answer after (no_write_row (length out) r) w in
      record {
        answered = c.0 ∙ ap (wrote 0 0) same_length;
        left = c.1 ∙ ap (λ k. file_of z.x z.n T U ++ drop k out) same_length ∙ ap (λ s. s ++ drop (length f) out) same_bytes;
      }

pub read_writes_back : ReadWritesBack
unfolding ReadWritesBack
read_writes_back f out answer after h =
    by_answer f
    (λ r. r.refused ≡ 0 → length f ≤ length out → Written r.x r.n (part f r.start (12 * r.q)) (part f r.middle r.t) out answer after → WrittenAs f out answer after)
    (λ r k n e. absurd (n e)) (λ g e. again f h (trailer_at f) refl g out answer after)
