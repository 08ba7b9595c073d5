-- The text of a good run, scanned to its end: it tells the same run. Assumes nothing.
use mathlib.Core.Path.{◌≡◌, refl, ◌∙◌, sym, ap, subst}
use mathlib.Core.Bool.{Bool, true, false, cond}
use mathlib.Core.List.{List, [], ◌∷◌, ◌++◌, append-nil, append_assoc}
use Prim.Native.Nat.{ℕ, zero, suc, ◌+◌, ◌*◌, ◌%◌, ◌<◌, ◌≤◌}
use native.Mathlib.Omega.{arith}
use native.Mathlib.Nat.{mod-eq_of_lt}
use native.Mathlib.Numerals.{add-one}
use borrow.Author.Tests.{eqb-true, eqb-false, ne_eqb, lt-ltb, le-leb, lt-leb}
use lib.Dec.{eqb}
use lib.ListN.{length, get_or, take}
use lib.Seq.{take-suc, take-add, take_all, take-length}
use Rattle.octets.specs.Bytes.{bytes, AllBytes}
use Rattle.rules.specs.Limits.{station_limit, call_limit, turn_limit}
use Rattle.rules.proofs.Facts.{either_way}
use Rattle.script.specs.Wrote.{cut}
use Rattle.script.specs.Decimal.{decimal}
use Rattle.script.specs.Kind.{read_word, set_word, swap_word, kind_word}
use Rattle.runfile.specs.declared.CallRecord.{CallRecord}
use Rattle.runfile.specs.Layout.{record_bytes, records, call_bytes, call_record, call_of, no_call}
use Rattle.runfile.proofs.Calls.{same_record}
use Rattle.runfile.proofs.Trailers.{bytes_part}
use Rattle.runtext.specs.Letters.{newline, space, start_word, stations_word, turns_word}
use Rattle.runtext.specs.Text.{head_text, values_text, call_text, calls_text, row_ends, rows_text, turns_text, text_of}
use Rattle.runtext.proofs.Records.{GoodCall, not_bad}
use Rattle.runtext.proofs.Runs.{GoodRun, call_is, call_length, call_good, turn_good}
use Rattle.drafting.specs.declared.Stage.{Stage}
use Rattle.drafting.specs.declared.Stage.TheVariants.{StartValue, Stations, Count, Call, Kind, First, Second, Turn}
use Rattle.script.specs.Number.{no_number}
use Rattle.drafting.specs.Draft.{same_bytes, draft, took_start, took_count, took_station, took_kind, took_first, took_second, took_turn, took_at, made_call, ended_at, lacking_at, call_from, turn_from}
use Rattle.drafting.specs.Scan.{Scanned, scan, empty, no_scan, word_ended, line_ended, step_on, step, run, given}
use Rattle.drafting.specs.Parse.{last_draft, lacking, table_in, turns_in}
use Rattle.drafting.proofs.Sane.{no_call_made, no_turn_made}
use Rattle.drafting.proofs.Goes.{Goes, stays, both, byte_goes, quiet_byte, plain, word_goes, number_told, number_there, number_other, number_goes}

abbrev call : ℕ → ℕ → ℕ → ℕ → CallRecord
call station kind a b = record { station = station; kind = kind; a = a; b = b }

-- `start X` and `stations N`
module _ (x n : ℕ) (h : x < no_number) (g : 0 < n) (k : n ≤ station_limit) where
  first_word : Goes no_scan (start_word ++ (space ∷ [])) (scan 1 false [] (draft 0 StartValue 0 0 0 0 no_call)) [] []
  unfolding run given step step_on word_ended took_at same_bytes empty call_from turn_from
  first_word = record { ends = refl; calls = refl; turned = refl }

  first_line : step (scan 1 false (decimal x) (draft 0 StartValue 0 0 0 0 no_call)) newline ≡ scan 2 false [] (draft 0 Stations x 0 0 0 no_call)
  unfolding step step_on line_ended word_ended took_at took_start ended_at
  first_line = rw (number_there x h, number_told x h, lt-ltb x no_number h)

  second_word : Goes (scan 2 false [] (draft 0 Stations x 0 0 0 no_call)) (stations_word ++ (space ∷ [])) (scan 2 false [] (draft 0 Count x 0 0 0 no_call)) [] []
  unfolding run given step step_on word_ended took_at same_bytes empty call_from turn_from
  second_word = record { ends = refl; calls = refl; turned = refl }

  second_line : step (scan 2 false (decimal n) (draft 0 Count x 0 0 0 no_call)) newline ≡ scan 3 false [] (draft 0 Call x n 0 0 no_call)
  unfolding step step_on line_ended word_ended took_at took_count ended_at
  second_line = rw (number_there n (omega arith), number_told n (omega arith), lt-ltb 0 n g, le-leb n station_limit k)

  head_goes : Goes no_scan (head_text x n) (scan 3 false [] (draft 0 Call x n 0 0 no_call)) [] []
  unfolding head_text
  head_goes =
      both (both (both (both first_word (number_goes x h 1 0 0 0 0 StartValue no_call)) (both (quiet_byte _ _ newline first_line refl refl) second_word))
      (number_goes n (omega arith) 2 x 0 0 0 Count no_call))
      (quiet_byte _ _ newline second_line refl refl)

-- a call's line
module _ (line x n q : ℕ) (h : q < call_limit) (k : n ≤ station_limit) (c₀ : CallRecord) where
  abbrev from : Scanned
  from = scan line false [] (draft 0 Call x n q 0 c₀)

  abbrev to : CallRecord → Scanned
  to c = scan (cut (line + 1)) false [] (draft 0 Call x n (q + 1) 0 c)

  -- the call is made by the newline
  made : (s : Scanned) (c : CallRecord) → step s newline ≡ to c → s.draft.q ≡ q → s.draft.t ≡ 0 → Goes s (newline ∷ []) (to c) (record_bytes c) []
  unfolding call_from
  made s c e f g =
      let b = byte_goes s (to c) newline e in
      let z : eqb s.draft.q (q + 1) ≡ false = ne_eqb s.draft.q (q + 1) (λ y. omega arith) in
      record { ends = b.ends; calls = b.calls ∙ rw z; turned = b.turned ∙ no_turn_made s.draft.t (to c).draft g }

  module _ (v : ℕ) (some : 0 < v) (few : v ≤ n) where
    station_taken : step (scan line false (decimal v) (draft 0 Call x n q 0 c₀)) space ≡ scan line false [] (draft 0 Kind x n q 0 (call v 0 0 0))
    unfolding step step_on word_ended took_at took_station
    station_taken = rw (number_there v (omega arith), number_other v (omega arith), number_told v (omega arith), lt-ltb 0 v some, le-leb v n few)

    -- the station and a space
    at_kind : Goes (scan line false [] (draft 0 Call x n q 0 c₀)) (decimal v ++ (space ∷ [])) (scan line false [] (draft 0 Kind x n q 0 (call v 0 0 0))) [] []
    at_kind = both (number_goes v (omega arith) line x n q 0 Call c₀) (quiet_byte _ _ space station_taken refl refl)

    read_made : step (scan line false read_word (draft 0 Kind x n q 0 (call v 0 0 0))) newline ≡ to (call v 0 0 0)
    unfolding step step_on line_ended word_ended took_at took_kind same_bytes empty ended_at made_call
    read_made = rw (lt-leb call_limit q h)

    read_goes : Goes from ((decimal v ++ (space ∷ [])) ++ read_word ++ (newline ∷ [])) (to (call v 0 0 0)) (record_bytes (call v 0 0 0)) []
    read_goes =
        both (both at_kind (word_goes line x n q 0 Kind (call v 0 0 0) read_word refl)) (made _ (call v 0 0 0) read_made refl refl)

    -- a set or a swap, after its name
    module _ (kind a b : ℕ) (la : a < no_number) (lb : b < no_number) where
      first_taken : step (scan line false (decimal a) (draft 0 First x n q 0 (call v kind 0 0))) space ≡ scan line false [] (draft 0 Second x n q 0 (call v kind a 0))
      unfolding step step_on word_ended took_at took_first
      first_taken = rw (number_there a la, number_told a la, lt-ltb a no_number la)

      second_made : step (scan line false (decimal b) (draft 0 Second x n q 0 (call v kind a 0))) newline ≡ to (call v kind a b)
      unfolding step step_on line_ended word_ended took_at took_second ended_at made_call
      second_made = rw (number_there b lb, number_told b lb, lt-ltb b no_number lb, lt-leb call_limit q h)

      values_go : Goes (scan line false [] (draft 0 First x n q 0 (call v kind 0 0))) (decimal a ++ (space ∷ []) ++ decimal b ++ (newline ∷ [])) (to (call v kind a b)) (record_bytes (call v kind a b)) []
      values_go =
          both
          (both (both (number_goes a la line x n q 0 First (call v kind 0 0)) (quiet_byte _ _ space first_taken refl refl))
          (number_goes b lb line x n q 0 Second (call v kind a 0)))
          (made _ (call v kind a b) second_made refl refl)

      -- with its name, whatever it is
      named : (name : List ℕ) → plain name ≡ true
          → step (scan line false name (draft 0 Kind x n q 0 (call v 0 0 0))) space ≡ scan line false [] (draft 0 First x n q 0 (call v kind 0 0))
          → Goes from (((decimal v ++ (space ∷ [])) ++ name ++ (space ∷ [])) ++ (decimal a ++ (space ∷ []) ++ decimal b ++ (newline ∷ []))) (to (call v kind a b)) (record_bytes (call v kind a b)) []
      named name p e =
          both (both (both at_kind (word_goes line x n q 0 Kind (call v 0 0 0) name p)) (quiet_byte _ _ space e refl refl)) values_go

    set_taken : step (scan line false set_word (draft 0 Kind x n q 0 (call v 0 0 0))) space ≡ scan line false [] (draft 0 First x n q 0 (call v 1 0 0))
    unfolding step step_on word_ended took_at took_kind same_bytes empty
    set_taken = refl

    swap_taken : step (scan line false swap_word (draft 0 Kind x n q 0 (call v 0 0 0))) space ≡ scan line false [] (draft 0 First x n q 0 (call v 2 0 0))
    unfolding step step_on word_ended took_at took_kind same_bytes empty
    swap_taken = refl

    -- the three kinds, as they are printed
    read_line : Goes from (call_text (call v 0 0 0)) (to (call v 0 0 0)) (record_bytes (call v 0 0 0)) []
    unfolding call_text kind_word values_text
    read_line = simp (append_assoc, append-nil) (simp append_assoc at read_goes)

    set_line : (a b : ℕ) → a < no_number → b < no_number → Goes from (call_text (call v 1 a b)) (to (call v 1 a b)) (record_bytes (call v 1 a b)) []
    unfolding call_text kind_word values_text
    set_line a b la lb = simp append_assoc (simp append_assoc at (named 1 a b la lb set_word refl set_taken))

    swap_line : (a b : ℕ) → a < no_number → b < no_number → Goes from (call_text (call v 2 a b)) (to (call v 2 a b)) (record_bytes (call v 2 a b)) []
    unfolding call_text kind_word values_text
    swap_line a b la lb = simp append_assoc (simp append_assoc at (named 2 a b la lb swap_word refl swap_taken))

  same_call : (s k a b k' a' b' : ℕ) → k ≡ k' → a ≡ a' → b ≡ b' → call s k a b ≡ call s k' a' b'
  same_call s k a b k' a' b' e f g = rw (e, f, g)

  line_goes : (c : CallRecord) → GoodCall n c
      → Goes (scan line false [] (draft 0 Call x n q 0 c₀)) (call_text c) (scan (cut (line + 1)) false [] (draft 0 Call x n (q + 1) 0 c)) (record_bytes c) []
  line_goes c g =
      let P : CallRecord → Type 0 = λ c. Goes from (call_text c) (to c) (record_bytes c) [] in
      let v = c.station in
      let two = g.kind in
      either_way (eqb c.kind 0)
      (λ t.
      let e = eqb-true c.kind 0 t in
      let r = g.read e in
      subst P (sym (same_call v c.kind c.a c.b 0 0 0 e r.0 r.1)) (read_line v g.some g.few))
      (λ f.
      either_way (eqb c.kind 1)
      (λ t.
      subst P (sym (same_call v c.kind c.a c.b 1 c.a c.b (eqb-true c.kind 1 t) refl refl))
      (set_line v g.some g.few c.a c.b g.a g.b))
      (λ o.
      let i = eqb-false c.kind 0 f in
      let j = eqb-false c.kind 1 o in
      subst P (sym (same_call v c.kind c.a c.b 2 c.a c.b (omega arith) refl refl))
      (swap_line v g.some g.few c.a c.b g.a g.b)))

-- a turn, and what separates it from the next
module _ (line x n q t : ℕ) (c₀ : CallRecord) (h : t < turn_limit) (k : n ≤ station_limit) (v : ℕ) (some : 0 < v) (few : v ≤ n) where
  abbrev turned_to : ℕ → Scanned
  turned_to l = scan l false [] (draft 0 Turn x n q (t + 1) (call v 0 0 0))

  turn_made_lem : (s : Scanned) (b l : ℕ) → step s b ≡ turned_to l → s.draft.q ≡ q → s.draft.t ≡ t → Goes s (b ∷ []) (turned_to l) [] (v ∷ [])
  unfolding turn_from bytes
  turn_made_lem s b l e f g =
      let y = byte_goes s (turned_to l) b e in
      let z : eqb s.draft.t (t + 1) ≡ false = ne_eqb s.draft.t (t + 1) (λ y. omega arith) in
      let small : v % 256 ≡ v = mod-eq_of_lt (omega arith) in
      record { ends = y.ends; calls = y.calls ∙ no_call_made s.draft.q (turned_to l).draft f; turned = y.turned ∙ rw (z, small) }

  by_space : step (scan line false (decimal v) (draft 0 Turn x n q t c₀)) space ≡ turned_to line
  unfolding step step_on word_ended took_at took_turn
  by_space = rw (number_there v (omega arith), number_told v (omega arith), lt-leb turn_limit t h, lt-ltb 0 v some, le-leb v n few)

  by_newline : step (scan line false (decimal v) (draft 0 Turn x n q t c₀)) newline ≡ turned_to (cut (line + 1))
  unfolding step step_on line_ended word_ended took_at took_turn ended_at
  by_newline = rw (number_there v (omega arith), number_told v (omega arith), lt-leb turn_limit t h, lt-ltb 0 v some, le-leb v n few)

  turn_goes : (b : Bool)
      → Goes (scan line false [] (draft 0 Turn x n q t c₀)) (decimal v ++ (cond b newline space ∷ []))
      (scan (cond b (cut (line + 1)) line) false [] (draft 0 Turn x n q (t + 1) (call v 0 0 0))) [] (v ∷ [])
  turn_goes true = both (number_goes v (omega arith) line x n q t Turn c₀) (turn_made_lem _ newline (cut (line + 1)) by_newline refl refl)
  turn_goes false = both (number_goes v (omega arith) line x n q t Turn c₀) (turn_made_lem _ space line by_space refl refl)

-- `turns` on a line
module _ (line x n q : ℕ) (c : CallRecord) where
  turns_line : step (scan line false turns_word (draft 0 Call x n q 0 c)) newline ≡ scan (cut (line + 1)) false [] (draft 0 Turn x n q 0 c)
  unfolding step step_on line_ended word_ended took_at took_station same_bytes empty ended_at
  turns_line = refl

  turns_word_lem : Goes (scan line false [] (draft 0 Call x n q 0 c)) (turns_word ++ (newline ∷ [])) (scan (cut (line + 1)) false [] (draft 0 Turn x n q 0 c)) [] []
  turns_word_lem = both (word_goes line x n q 0 Call c turns_word refl) (quiet_byte _ _ newline turns_line refl refl)

-- what a text tells
pub record Tells (text : List ℕ) (x n : ℕ) (table turns : List ℕ) : Type 0 where
  pub all : lacking (last_draft text) ≡ 0
  pub value : (last_draft text).x ≡ x
  pub stations : (last_draft text).n ≡ n
  pub calls : table_in text ≡ table
  pub moves : turns_in text ≡ turns

told_by : (text : List ℕ) (line x n q t : ℕ) (stage : Stage) (c : CallRecord) (table turns : List ℕ)
    → ended_at stage (draft 0 stage x n q t c) ≡ draft 0 stage x n q t c → lacking_at stage ≡ 0
    → Goes no_scan text (scan line false [] (draft 0 stage x n q t c)) table turns → Tells text x n table turns
unfolding line_ended word_ended empty table_in turns_in
told_by text line x n q t stage c table turns e l g =
    let D = draft 0 stage x n q t c in
    let d : last_draft text ≡ D = ap line_ended g.ends ∙ e in
    record {
      all = rw d l;
      value = rw d;
      stations = rw d;
      calls = rw (g.calls, g.ends, e, no_call_made q D refl) (append-nil table);
      moves = rw (g.turned, g.ends, e, no_turn_made t D refl) (append-nil turns);
    }

module _ (x n : ℕ) (table turns : List ℕ) (h : AllBytes table) (g : GoodRun x n table turns) where
  -- the line and the last call after i calls
  line_at : ℕ → ℕ
  line_at zero = 3
  line_at (suc i) = cut (line_at i + 1)

  call_at : ℕ → CallRecord
  call_at zero = no_call
  call_at (suc i) = call_of table (suc i)

  -- the bytes of a call are those of its numbers
  call_same : (i : ℕ) → i < records table → record_bytes (call_record (call_bytes table i)) ≡ call_bytes table i
  call_same i l = same_record (call_bytes table i) (bytes_part table (12 * i) 12 h) (call_length x n table turns h g i l) (not_bad n (call_bytes table i) (g.good_calls i l)).zero

  calls_go : (i : ℕ) → i ≤ records table
      → Goes (scan 3 false [] (draft 0 Call x n 0 0 no_call)) (calls_text table i) (scan (line_at i) false [] (draft 0 Call x n i 0 (call_at i))) (take (12 * i) table) []
  unfolding calls_text line_at call_at
  calls_go zero l = stays (scan 3 false [] (draft 0 Call x n 0 0 no_call))
  calls_go (suc i) l =
      let c = call_of table (suc i) in
      let f = g.calls in
      let e = call_is x n table turns h g i l in
      let p : GoodCall n c = rw e (call_good x n table turns h g i l) in
      let r : record_bytes c ≡ call_bytes table i = ap record_bytes e ∙ call_same i l in
      let m : 12 * i + 12 ≡ 12 * suc i = omega arith in
      let t : take (12 * i) table ++ record_bytes c ≡ take (12 * suc i) table =
      ap (λ s. take (12 * i) table ++ s) r ∙ sym (take-add (12 * i) 12 table) ∙ ap (λ k. take k table) m in
      let G : ℕ → List ℕ → Type 0 = λ k s. Goes (scan 3 false [] (draft 0 Call x n 0 0 no_call)) (calls_text table (suc i)) (scan (line_at (suc i)) false [] (draft 0 Call x n k 0 c)) s [] in
      let y : G (i + 1) (take (12 * i) table ++ record_bytes c) = both (calls_go i (omega arith)) (line_goes (line_at i) x n i (omega arith) g.few (call_at i) c p) in
      subst (λ k. G k (take (12 * suc i) table)) (add-one i) (subst (λ s. G (i + 1) s) t y)

  -- the line and the last call after i turns
  line_of : ℕ → ℕ → ℕ
  line_of line zero = line
  line_of line (suc i) = cond (row_ends turns i) (cut (line_of line i + 1)) (line_of line i)

  turn_at : CallRecord → ℕ → CallRecord
  turn_at c zero = c
  turn_at c (suc i) = call (get_or turns i 0) 0 0 0

  rows_go : (line q : ℕ) (c : CallRecord) (i : ℕ) → i ≤ length turns
      → Goes (scan line false [] (draft 0 Turn x n q 0 c)) (rows_text turns i) (scan (line_of line i) false [] (draft 0 Turn x n q i (turn_at c i))) [] (take i turns)
  unfolding rows_text line_of turn_at
  rows_go line q c zero l = stays (scan line false [] (draft 0 Turn x n q 0 c))
  rows_go line q c (suc i) l =
      let f = g.moves in
      let b = turn_good x n table turns h g i l in
      let v = get_or turns i 0 in
      let G : ℕ → List ℕ → Type 0 = λ k s. Goes (scan line false [] (draft 0 Turn x n q 0 c)) (rows_text turns (suc i)) (scan (line_of line (suc i)) false [] (draft 0 Turn x n q k (call v 0 0 0))) [] s in
      let y : G (i + 1) (take i turns ++ (v ∷ [])) = both (rows_go line q c i (omega arith)) (turn_goes (line_of line i) x n q i (turn_at c i) (omega arith) g.few v b.0 b.1 (row_ends turns i)) in
      subst (λ k. G k (take (suc i) turns)) (add-one i) (subst (λ s. G (i + 1) s) (sym (take-suc turns i 0 l)) y)

  -- before the turns
  abbrev front : List ℕ
  front = head_text x n ++ calls_text table (records table)

  abbrev at_turns : Scanned
  at_turns = scan (line_at (records table)) false [] (draft 0 Call x n (records table) 0 (call_at (records table)))

  front_goes : Goes no_scan front at_turns table []
  front_goes =
      let w = g.whole in
      let q = records table in
      subst (λ r. Goes no_scan front at_turns r []) (take_all (12 * q) table (omega arith))
      (both (head_goes x n g.value g.some g.few) (calls_go q (omega arith)))

  no_turns : (l : List ℕ) → length l ≡ 0 → [] ≡ l
  no_turns [] e = refl
  no_turns (v ∷ l) e = absurd (omega arith)

  without : length turns ≡ 0 → Tells (front ++ []) x n table turns
  unfolding ended_at lacking_at
  without e =
      subst (λ u. Tells (front ++ []) x n table u) (no_turns turns e)
      (told_by (front ++ []) (line_at (records table)) x n (records table) 0 Call (call_at (records table)) table [] refl refl
      (subst (λ r. Goes no_scan (front ++ []) at_turns r []) (append-nil table) (both front_goes (stays at_turns))))

  with_turns : Tells (front ++ ((turns_word ++ (newline ∷ [])) ++ rows_text turns (length turns))) x n table turns
  unfolding ended_at lacking_at
  with_turns =
      let q = records table in
      let c = call_at q in
      let m = length turns in
      let l = cut (line_at q + 1) in
      let T = front ++ ((turns_word ++ (newline ∷ [])) ++ rows_text turns m) in
      let s = scan (line_of l m) false [] (draft 0 Turn x n q m (turn_at c m)) in
      let y : Goes no_scan T s (table ++ []) (take m turns) = both front_goes (both (turns_word_lem (line_at q) x n q c) (rows_go l q c m (omega arith))) in
      told_by T (line_of l m) x n q m Turn (turn_at c m) table turns refl refl
      (subst (λ r. Goes no_scan T s r turns) (append-nil table) (subst (λ u. Goes no_scan T s (table ++ []) u) (take-length turns) y))

  pub tells : Tells (text_of x n table turns) x n table turns
  unfolding text_of turns_text
  tells =
      either_way (eqb (length turns) 0) (λ t. rw t (without (eqb-true (length turns) 0 t))) (λ f. rw f with_turns)
