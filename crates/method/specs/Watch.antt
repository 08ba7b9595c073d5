-- The watcher that follows a run's events: it holds the words, and how far each station's call is. Assumes nothing.
use Rattle.std.specs.Prelude.{◌≡◌, List, [], ◌∷◌, ℕ}
use Rattle.method.specs.declared.Call.{Call}
use Rattle.method.specs.Update.{upd}
use Rattle.method.specs.OneWord.{answer, left, Agrees}

-- a station is in no call; in one of word z that has not had its point; in one that the word has answered y
pub data Phase : Type 0 where
  Free : Phase
  Begun : (z : ℕ) → Call → Phase
  Done : (z : ℕ) → Call → (y : ℕ) → Phase

-- a station begins a call of word z; its call has its point; its call ends
pub data Event : Type 0 where
  Begin : (i z : ℕ) → Call → Event
  Point : (i : ℕ) → Event
  End : (i result : ℕ) → Event

pub record Watcher : Type 0 where
  pub words : ℕ → ℕ
  pub phase : ℕ → Phase

-- all stations free, and the words as given
abbrev pub watching : (ℕ → ℕ) → Watcher
watching x = record { words = x; phase = λ i. Free }

abbrev pub put_phase : ℕ → Phase → Watcher → Watcher
put_phase i f m = record { words = m.words; phase = upd m.phase i f }

-- station i's call, in the phase f, has its point: its word serves it
abbrev pub point_served : ℕ → Watcher → Phase → Watcher
point_served i m Free = m
point_served i m (Begun z o) = record { words = upd m.words z (left (m.words z) o); phase = upd m.phase i (Done z o (answer (m.words z) o)) }
point_served i m (Done z o y) = m

unfoldable pub watch : Watcher → Event → Watcher
watch m (Begin i z o) = put_phase i (Begun z o) m
watch m (Point i) = point_served i m (m.phase i)
watch m (End i result) = put_phase i Free m

unfoldable pub watched : Watcher → List Event → Watcher
watched m [] = m
watched m (e ∷ es) = watched (watch m e) es

-- a call begins where the station is free, has its point once, and ends after it with the word's answer
abbrev pub Waits : Phase → Type 0
Waits Free = ⊥
Waits (Begun z o) = Unit {0}
Waits (Done z o y) = ⊥

abbrev pub EndFits : ℕ → Phase → Type 0
EndFits result Free = ⊥
EndFits result (Begun z o) = ⊥
EndFits result (Done z o y) = Agrees o y result

unfoldable pub EventFits : Watcher → Event → Type 0
EventFits m (Begin i z o) = m.phase i ≡ Free
EventFits m (Point i) = Waits (m.phase i)
EventFits m (End i result) = EndFits result (m.phase i)

-- each event fits what was watched before it
unfoldable pub Good : Watcher → List Event → Type 0
Good m [] = Unit {0}
Good m (e ∷ es) = EventFits m e × Good (watch m e) es
