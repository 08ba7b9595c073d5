-- What one turn can reach, and the step table on it: the same rows, where only that much is carried about. Assumes nothing.
use Rattle.std.specs.Prelude.{Bool, not, List, [], ◌∷◌, ℕ, suc}
use Rattle.rules.specs.Refusal.{Refusal, refusal, refusal_of}
use Rattle.rules.specs.Test.{Test, at_most, pass, Facts}
use Rattle.card.specs.declared.Halves.{Halves}
use Rattle.card.specs.declared.Claim.{Claim}
use Rattle.method.specs.declared.Place.{Place}
use Rattle.method.specs.declared.Place.TheVariants.{Rest, At11, At12, At13, At14, At15, At16, At18, At19, At20}
use Rattle.method.specs.declared.Station.{Station}
use Rattle.method.specs.declared.Answer.{Answer}
use Rattle.method.specs.Table.{Access, row_at}
use Rattle.reach.specs.declared.Reach.{Reach}
use Rattle.reach.specs.declared.Moved.{Moved}
use Rattle.reach.specs.Step.{count_limit, version_limit, offer_refusals, or_refused}

-- what a move asks of its station, and a sound bench gives: its numbers can grow
abbrev pub ready_rules : Station → List Test
ready_rules t = at_most (suc t.own) 10 ∷ at_most t.c count_limit ∷ at_most t.s version_limit ∷ []

abbrev pub ready : Station → Bool
ready t = pass (ready_rules t)

abbrev pub Ready : Station → Type 0
Ready t = Facts (ready_rules t)

-- the entry of A and R that the turn of station i reaches
unfoldable pub reaching : Place → ℕ → Station → ℕ
reaching Rest i t = i
reaching At11 i t = i
reaching At12 i t = i
reaching At13 i t = i
reaching At14 i t = i
reaching At15 i t = i
reaching At16 i t = t.saw.pid
reaching At18 i t = t.saw.pid
reaching At19 i t = i
reaching At20 i t = i

abbrev pub reach : ℕ → Halves → Claim → Halves → Halves → Station → Reach
reach i v p a r t = record { id = i; v = v; p = p; a = a; r = r; station = t }

abbrev pub moved : Answer → Reach → Moved
moved x g = record { answer = x; reach = g }

-- the registers that are reached, for the step table: its one entry of A and of R is the one that the place asks for
abbrev pub on_reach : Access Reach Moved
on_reach =
    record {
      v = λ g i. g.v;
      p = λ g i. g.p;
      a = λ g i. g.a;
      r = λ g i. g.r;
      put_v = λ i v g. reach g.id v g.p g.a g.r g.station;
      put_p = λ i p g. reach g.id g.v p g.a g.r g.station;
      put_a = λ i a g. reach g.id g.v g.p a g.r g.station;
      put_r = λ i r g. reach g.id g.v g.p g.a r g.station;
      put_station = λ i t g. reach g.id g.v g.p g.a g.r t;
      give = moved;
    }

-- 9: the station is not ready, so no sound bench has it. Then what is refused of the offer
abbrev pub move_refusals : Reach → ℕ → ℕ → ℕ → List Refusal
move_refusals g kind a b = refusal 9 (not (ready g.station)) ∷ offer_refusals g.v g.station.place g.station.c kind a b

-- a station's move: refused, and nothing moved, or the table's row
unfoldable pub move_of : Reach → ℕ → ℕ → ℕ → Moved
move_of g kind a b = or_refused on_reach (refusal_of (move_refusals g kind a b)) g (row_at on_reach g g.id g.station kind a b)
