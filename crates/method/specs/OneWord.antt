-- A word served one call at a time. Assumes nothing.
use Rattle.std.specs.Prelude.{◌≡◌, cond, ℕ, eqb}
use Rattle.method.specs.declared.Call.{Call}

-- what a word that holds y answers to a call: a read its value, a set or swap whether it found a
abbrev pub answer : ℕ → Call → ℕ
answer y o = cond (eqb o.kind 0) y (cond (eqb y o.a) 1 0)

-- what such a call leaves in the word
abbrev pub left : ℕ → Call → ℕ
left y o = cond (eqb o.kind 0) y (cond (eqb y o.a) o.b y)

-- what a call hands back is the word's answer; what a swap hands back is not covered
abbrev pub Agrees : Call → ℕ → ℕ → Type 0
Agrees o y result = (o.kind ≡ 2 → ⊥) → result ≡ y
