use mathlib.Core.Path.{◌≡◌, ◌∙◌, refl}
use mathlib.Core.List.{append_assoc}
use Prim.Native.Nat.{◌+◌}
use native.Mathlib.Omega.{arith}
use lib.ListN.{length}
use Rattle.octets.proofs.Buffers.{text_first, text_put}
use Rattle.runfile.specs.Layout.{records, trailer, trailer_bytes, file_of}
use Rattle.runfile.specs.Writing.{file_length}
use Rattle.runfile.proofs.Trailers.{length-trailer}
use Rattle.runfile.proofs.writing.put_file.Goals as goal

pub returns : goal.returns
unfolding file_of
returns c =
    let a = c.args in
    let table = a.table.now in
    let turns = a.turns.now in
    let z = trailer a.x a.n (records table) (length turns) in
    let p1 = text_first a.out.now c.lay.new.to table c.lay.ensures in
    let p2 = text_put p1 c.lay-2.new.to (length turns) (omega arith) turns refl c.lay-2.ensures in
    let p3 = text_put p2 c.put_trailer.new.out 16 (omega arith) (trailer_bytes z) (length-trailer z) c.put_trailer.ensures in
    let l : length table + length turns + 16 ≡ file_length table turns = omega arith in
    p3.stands ∙ rw l (simp append_assoc)
