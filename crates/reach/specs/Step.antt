-- Document 01, "One turn, one register operation" and "Numbered refusals": what is refused of an offer, 11 to 13, and a turn of a good station on a sound bench, which is refused so or is the table's row. Assumes nothing.
use Rattle.std.specs.Prelude.{Bool, cond, not, ◌&&◌, ◌||◌, List, [], ◌∷◌, ℕ, ltb, eqb}
use Rattle.rules.specs.Refusal.{Refusal, refusal, refusal_of}
use Rattle.card.specs.declared.Halves.{Halves}
use Rattle.card.specs.Word as Word
use Rattle.method.specs.declared.Place.{Place}
use Rattle.method.specs.declared.Station.{Station}
use Rattle.method.specs.declared.Answer.TheVariants.{Refused}
use Rattle.method.specs.Record.{at_rest}
use Rattle.method.specs.Table.{Access, row}

abbrev pub count_limit : ℕ
count_limit = Word.count_limit Word.revision_a

abbrev pub version_limit : ℕ
version_limit = 4294967292

-- 11: offered kind over 3, or read or none with a or b not 0
abbrev pub bad_offer : ℕ → ℕ → ℕ → Bool
bad_offer kind a b = ltb 3 kind || ((eqb kind 0 || eqb kind 3) && (not (eqb a 0) || not (eqb b 0)))

-- a set or swap would begin: one is offered to a station at rest
abbrev pub would_begin : Place → ℕ → Bool
would_begin p kind = at_rest p && (eqb kind 1 || eqb kind 2)

-- of an offer to a station at place p with the count c. 11, in a call too; 12 and 13: a set or swap would begin with c = 65,535, or with V.seq over 4,294,967,292
abbrev pub offer_refusals : Halves → Place → ℕ → ℕ → ℕ → ℕ → List Refusal
offer_refusals v p c kind a b =
    refusal 11 (bad_offer kind a b) ∷ refusal 12 (would_begin p kind && eqb c count_limit) ∷ refusal 13 (would_begin p kind && ltb version_limit v.first) ∷ []

-- a refused turn hands back the bench given
module _ {W Out : Type 0} (on : Access W Out) where
  abbrev pub or_refused : ℕ → W → Out → Out
  or_refused number w x = cond (eqb number 0) x (on.give (Refused number) w)

  -- a turn of a good station on a sound bench, by the place where it stands
  unfoldable pub step_of : Place → W → ℕ → Station → ℕ → ℕ → ℕ → Out
  step_of p w i t kind a b = or_refused (refusal_of (offer_refusals (on.v w i) p t.c kind a b)) w (row on p w i t kind a b)

  abbrev pub step_on : W → ℕ → Station → ℕ → ℕ → ℕ → Out
  step_on w i t kind a b = step_of t.place w i t kind a b
