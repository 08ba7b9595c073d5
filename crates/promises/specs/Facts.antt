-- What follows of a sound bench: P's word, the size of the picture, and what a turn leaves in its station's record. Assumes nothing.
use Rattle.std.specs.Prelude.{◌≡◌, true, false, ℕ, ◌+◌, ◌*◌, ◌^◌, length}
use Rattle.card.specs.Word.{revision_a, claim_word}
use Rattle.method.specs.declared.Place.{Place}
use Rattle.method.specs.Record.{at_rest, call, resting, told}
use Rattle.bench.specs.declared.Bench.{Bench}
use Rattle.bench.specs.declared.Turned.{Turned}
use Rattle.bench.specs.Record.{station_at}
use Rattle.bench.specs.Sound.{sound}
use Rattle.bench.specs.Promise.{Turn, turn_by}
use Rattle.picture.specs.Picture.{registers, in_bytes}

-- of a turn u of the bench w, whose station stands at p, that hands back x
pub record Shown (w : Bench) (u : Turn) (p : Place) (x : Turned) : Type 0 where
  -- a call that goes past place 5 read its a there
  pub begins : at_rest p ≡ true → (told x.answer).case ≡ 1
      → (w.v.second ≡ u.a) × ((station_at x.bench u.station).call ≡ call u.kind u.a u.b)
  -- it goes on as the call that it began as
  pub goes : at_rest p ≡ false → (told x.answer).case ≡ 1 → (station_at x.bench u.station).call ≡ (station_at w u.station).call
  -- turns of other stations leave its record as it was
  pub others : (j : ℕ) → (j ≡ u.station → ⊥) → station_at x.bench j ≡ station_at w j
  -- so a swap that ends at place 20 hands back, with its a, the value that its place 5 read
  pub hands : at_rest p ≡ false → (told x.answer).case ≡ 2 → (station_at w u.station).call.kind ≡ 2
      → (told x.answer).result ≡ (station_at w u.station).call.a
  -- and one that ends at place 5 hands back what it reads there
  pub at_once : at_rest p ≡ true → (told x.answer).case ≡ 2 → u.kind ≡ 2 → (told x.answer).result ≡ w.v.second
  -- a call that ends leaves its station at rest, its record zero in all but c
  pub ends : (told x.answer).case ≡ 2 → station_at x.bench u.station ≡ resting (station_at w u.station).c

pub record SoundFacts : Type 0 where
  -- P's word has seq, pid and c whole: nothing is cut off
  pub word : (w : Bench) → sound w ≡ true → claim_word revision_a w.p ≡ w.p.seq * 2 ^ 32 + (w.p.pid * 2 ^ 16 + w.p.c)
  -- the bytes of the picture
  pub size : (w : Bench) → sound w ≡ true → length (in_bytes (registers w)) ≡ 16 + 16 * w.n
  pub turn : (w : Bench) (u : Turn) → length w.stations ≡ 33 → sound w ≡ true → Shown w u (station_at w u.station).place (turn_by w u)
