-- Document 01, "Order of effect": which calls have their point in a turn, by their stations. `st` is every station's record before the turn and `word` the word of its call; the base bench has one word.
-- Assumes nothing.
use Rattle.std.specs.Prelude.{Bool, cond, not, ◌&&◌, List, [], ◌∷◌, ◌++◌, ℕ, zero, suc, ◌+◌, leb, ltb, eqb}
use Rattle.card.specs.declared.Halves.{Halves}
use Rattle.card.specs.declared.Claim.{Claim}
use Rattle.method.specs.declared.Place.{Place}
use Rattle.method.specs.declared.Station.{Station}
use Rattle.method.specs.declared.Answer.{Answer}
use Rattle.method.specs.declared.Answer.TheVariants.{Idle, Going, Ended, Refused}
use Rattle.method.specs.Record.{num, at_rest}

abbrev pub one_word : ℕ → ℕ
one_word i = 0

-- place 19 raises V.seq
abbrev pub raises : Place → Halves → Station → Bool
raises p v t = eqb (num p) 19 && ltb v.first t.saw.seq

-- station j with the record t is past 5 with s, where V.seq is raised to s + 2 for a call of the same word, and is not the saved pid's
abbrev pub loses : (ℕ → ℕ) → ℕ → Claim → ℕ → Station → Bool
loses word i saw j t =
    not (eqb j saw.pid) && (eqb (word j) (word i) && (leb 11 (num t.place) && eqb (t.s + 2) saw.seq))

-- those of stations 1 to k, by station number
unfoldable pub losers : (ℕ → ℕ) → ℕ → Claim → (ℕ → Station) → ℕ → List ℕ
losers word i saw st zero = []
losers word i saw st (suc k) = losers word i saw st k ++ cond (loses word i saw (suc k) (st (suc k))) (suc k ∷ []) []

-- of n stations, those whose calls have their point in a turn of station i with the record t at place p: a read at 2 and a set or swap that ends at 5 there;
-- where 19 raises V.seq, the call of the saved pid, then the others past 5 with the same s
unfoldable pub points : (ℕ → ℕ) → (ℕ → Station) → ℕ → ℕ → Place → Halves → Station → Answer → List ℕ
points word st n i p v t Idle = []
points word st n i p v t Going = cond (raises p v t) (t.saw.pid ∷ losers word i t.saw st n) []
points word st n i p v t (Ended result own) = cond (at_rest p) (i ∷ []) []
points word st n i p v t (Refused number) = []
