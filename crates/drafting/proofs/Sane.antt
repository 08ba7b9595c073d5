-- What holds of a draft and of the call table and turns that it gave, at every byte of a text: a text that can be read tells a
-- good run. Assumes nothing.
use mathlib.Core.Path.{◌≡◌, refl, ◌∙◌, sym, ap, subst}
use mathlib.Core.Bool.{Bool, true, false, cond}
use mathlib.Core.List.{List, [], ◌∷◌, ◌++◌, append_assoc, append-nil}
use Prim.Native.Nat.{ℕ, ◌+◌, ◌*◌, ◌%◌, ◌^◌, ◌<◌, ◌≤◌}
use native.Mathlib.Omega.{arith}
use native.Mathlib.Nat.{mod-eq_of_lt}
use borrow.Author.Count.{below_more}
use borrow.Author.Tests.{eqb-false, ltb-true, leb-true, leb-false, eq-eqb, ne_eqb, le-ltb}
use lib.Dec.{eqb, leb, ltb}
use lib.ListN.{length, length-append, get_or-append}
use lib.Seq.{get_or_at}
use Rattle.octets.specs.Bytes.{bytes}
use Rattle.rules.specs.Limits.{station_limit, call_limit, turn_limit}
use Rattle.rules.proofs.Facts.{and_left, and_right}
use Rattle.script.specs.Kind.{read_word, set_word, swap_word}
use Rattle.runfile.specs.declared.CallRecord.{CallRecord}
use Rattle.runfile.specs.Layout.{record_bytes, records}
use Rattle.runfile.proofs.Calls.{length-record}
use Rattle.runfile.specs.Reading.{bad_call_at, bad_turn_at}
use Rattle.runtext.specs.Letters.{start_word, stations_word, turns_word}
use Rattle.runtext.proofs.Records.{GoodCall}
use Rattle.runtext.proofs.Runs.{GoodRun}
use Rattle.drafting.specs.declared.Stage.{Stage}
use Rattle.drafting.specs.declared.Stage.TheVariants.{Start, StartValue, AfterStart, Stations, Count, AfterCount, Call, Kind, First, Second, AfterCall, Turn}
use Rattle.script.specs.Number.{no_number}
use Rattle.drafting.specs.Draft.{Drafted, draft, refuse, Said, said, is_value, is_from1_to, took_start, took_count, took_station, took_kind, took_first, took_second, took_turn, took_at, made_call, ended_at, call_from, turn_from, call_made, turn_made, lacking_at}
use Rattle.drafting.specs.Scan.{Scanned, empty, word_ended, line_ended, step_on, step, run, given, is_blank, no_scan}
use Rattle.drafting.specs.Parse.{last_draft, lacking, table_in, turns_in}
use Rattle.drafting.proofs.Records.{good_call, call_before, call_last}

-- what holds of a choice
pub by_cond : {X : Type 0} (P : X → Type 0) (b : Bool) {x y : X} → (b ≡ true → P x) → (b ≡ false → P y) → P (cond b x y)
by_cond P true f g = f refl
by_cond P false f g = g refl

-- the call table and the turns so far are those of a good run
record Common (x n q t : ℕ) (table turns : List ℕ) : Type 0 where
  value : x < 2 ^ 32
  calls : length table ≡ 12 * q
  moves : length turns ≡ t
  few_calls : q ≤ call_limit
  few_moves : t ≤ turn_limit
  good_calls : (i : ℕ) → i < q → bad_call_at n table i ≡ false
  good_turns : (i : ℕ) → i < t → bad_turn_at n turns i ≡ false

-- at each stage: nothing told before the number of stations, and then a call that is good so far
abbrev Unpeopled : ℕ → ℕ → Type 0
Unpeopled q t = (q ≡ 0) × (t ≡ 0)

abbrev Peopled : ℕ → Type 0
Peopled n = (0 < n) × (n ≤ station_limit)

abbrev Stationed : ℕ → CallRecord → Type 0
Stationed n c = Peopled n × ((0 < c.station) × (c.station ≤ n))

abbrev Here : Stage → ℕ → ℕ → ℕ → CallRecord → Type 0
Here Start n q t c = Unpeopled q t
Here StartValue n q t c = Unpeopled q t
Here AfterStart n q t c = Unpeopled q t
Here Stations n q t c = Unpeopled q t
Here Count n q t c = Unpeopled q t
Here AfterCount n q t c = Peopled n
Here Call n q t c = Peopled n
Here Kind n q t c = Stationed n c × ((c.kind ≡ 0) × ((c.a ≡ 0) × (c.b ≡ 0)))
Here First n q t c = Stationed n c × ((0 < c.kind) × (c.kind ≤ 2))
Here Second n q t c = Stationed n c × ((0 < c.kind) × ((c.kind ≤ 2) × (c.a < 2 ^ 32)))
Here AfterCall n q t c = Peopled n × GoodCall n c
Here Turn n q t c = Peopled n

abbrev At : Stage → Drafted → Type 0
At stage d = Here stage d.n d.q d.t d.call

abbrev Sane : Drafted → List ℕ → List ℕ → Type 0
Sane d table turns = Common d.x d.n d.q d.t table turns × At d.stage d

-- nothing is added where the count is the same
pub no_call_made : (q : ℕ) (d : Drafted) → q ≡ d.q → call_from q d ≡ []
unfolding call_from
no_call_made q d e = rw (eq-eqb q d.q e)

pub no_turn_made : (t : ℕ) (d : Drafted) → t ≡ d.t → turn_from t d ≡ []
unfolding turn_from
no_turn_made t d e = rw (eq-eqb t d.t e)

-- what a draft adds to the turns goes by its count and by its last call
same_turn : (d d₁ d₂ : Drafted) → d₂.t ≡ d₁.t → d₂.call ≡ d₁.call → turn_made d d₁ ≡ turn_made d d₂
unfolding turn_from
same_turn d d₁ d₂ e f = rw (e, f)

module _ (table turns : List ℕ) where
  kept : (d d' : Drafted) → d.t ≡ d'.t → Sane d' table turns → Sane d' table (turns ++ turn_made d d')
  kept d d' e s = rw (no_turn_made d.t d' e, append-nil) s

  -- from one draft to the next but one
  joined : (d d₁ d₂ : Drafted) → d₁.q ≡ d.q → d₂.t ≡ d₁.t → d₂.call ≡ d₁.call
      → Sane d₂ (table ++ call_made d₁ d₂) (turns ++ turn_made d d₁) → Sane d₂ (table ++ call_made d d₂) (turns ++ turn_made d d₂)
  joined d d₁ d₂ e f k h =
      subst (λ v. Sane d₂ (table ++ v) (turns ++ turn_made d d₂)) (ap (λ q. call_from q d₂) e)
      (subst (λ v. Sane d₂ (table ++ call_made d₁ d₂) (turns ++ v)) (same_turn d d₁ d₂ f k) h)

  -- before the stations are told any number will do
  any_number : (x y n m : ℕ) (q t : ℕ) → y < 2 ^ 32 → q ≡ 0 → t ≡ 0 → Common x n q t table turns → Common y m q t table turns
  any_number x y n m q t v e f c =
      record { value = v; calls = c.calls; moves = c.moves; few_calls = c.few_calls; few_moves = c.few_moves; good_calls = λ i h. absurd (omega arith); good_turns = λ i h. absurd (omega arith) }

-- a word more
module _ (d : Drafted) (w : Said) (table turns : List ℕ) (c : Common d.x d.n d.q d.t table turns) where
  abbrev P : Drafted → Type 0
  P d' = (d'.q ≡ d.q) × Sane d' table (turns ++ turn_made d d')

  same : (d' : Drafted) → d.t ≡ d'.t → d'.q ≡ d.q → Sane d' table turns → P d'
  same d' e f s = (f, kept table turns d d' e s)

  stay : At d.stage d → (k : ℕ) → P (refuse d k)
  stay h k = same (refuse d k) refl refl (c, h)

  one_to : (n : ℕ) → is_from1_to n w ≡ true → (0 < w.number) × (w.number ≤ n)
  one_to n e =
      let a = ltb 0 w.number in
      let b = leb w.number n in
      (ltb-true 0 w.number (and_left a b e), leb-true w.number n (and_right a b e))

  -- a turn more
  turned : Peopled d.n → d.t < turn_limit → is_from1_to d.n w ≡ true
      → P (draft d.expected Turn d.x d.n d.q (d.t + 1) (record { station = w.number; kind = 0; a = 0; b = 0 }))
  unfolding turn_from bytes
  turned h few e =
      let b = one_to d.n e in
      let l = b.0 in
      let m = b.1 in
      let k = h.1 in
      let z : eqb d.t (d.t + 1) ≡ false = ne_eqb d.t (d.t + 1) (λ q. omega arith) in
      let small : w.number % 256 ≡ w.number = mod-eq_of_lt (omega arith) in
      let g : eqb w.number 0 ≡ false = ne_eqb w.number 0 (λ q. omega arith) in
      let u = turns ++ (w.number ∷ []) in (
        refl,
        (
          rw (z, small)
              (record {
                value = c.value;
                calls = c.calls;
                moves = length-append turns (w.number ∷ []) ∙ (let y = c.moves in omega arith);
                few_calls = c.few_calls;
                few_moves = omega arith;
                good_calls = c.good_calls;
                good_turns = below_more (λ i. bad_turn_at d.n u i ≡ false) d.t
                    (λ i y. rw (get_or-append turns (w.number ∷ []) 0 i (let x = c.moves in omega arith)) (c.good_turns i y))
                    (rw (get_or_at turns w.number [] 0 d.t c.moves, g, le-ltb d.n w.number m));
              }),
          h,
        ),
      )

  took : (stage : Stage) → stage ≡ d.stage → At stage d → P (took_at stage d w)
  unfolding took_at took_start took_count took_station took_kind took_first took_second took_turn
  took Start e h = by_cond P (w.is start_word) (λ t. same _ refl refl (c, h)) (λ f. stay (rw (← e) h) 1)
  took StartValue e h =
      by_cond P (is_value w)
      (λ t. same _ refl refl (any_number table turns d.x w.number d.n d.n d.q d.t (ltb-true w.number no_number t) h.0 h.1 c, h))
      (λ f. stay (rw (← e) h) 2)
  took AfterStart e h = stay (rw (← e) h) 3
  took Stations e h = by_cond P (w.is stations_word) (λ t. same _ refl refl (c, h)) (λ f. stay (rw (← e) h) 4)
  took Count e h =
      by_cond P (is_from1_to station_limit w)
      (λ t. same _ refl refl (any_number table turns d.x d.x d.n w.number d.q d.t c.value h.0 h.1 c, one_to station_limit t))
      (λ f. stay (rw (← e) h) 5)
  took AfterCount e h = stay (rw (← e) h) 3
  took Call e h =
      by_cond P (w.is turns_word) (λ t. same _ refl refl (c, h))
      (λ f.
      by_cond P (is_from1_to d.n w) (λ t. same _ refl refl (c, ((h, one_to d.n t), (refl, (refl, refl)))))
      (λ g. stay (rw (← e) h) 6))
  took Kind e h =
      by_cond P (w.is read_word)
      (λ t.
      let a = h.1.1.0 in
      let b = h.1.1.1 in
      let k = h.1.0 in
      same _ refl refl (c, (h.0.0, record { some = h.0.1.0; few = h.0.1.1; kind = omega arith; read = λ z. (a, b); a = omega arith; b = omega arith })))
      (λ f.
      by_cond P (w.is set_word) (λ t. same _ refl refl (c, (h.0, (omega arith, omega arith))))
      (λ g.
      by_cond P (w.is swap_word) (λ t. same _ refl refl (c, (h.0, (omega arith, omega arith))))
      (λ k. stay (rw (← e) h) 7)))
  took First e h =
      by_cond P (is_value w) (λ t. same _ refl refl (c, (h.0, (h.1.0, (h.1.1, ltb-true w.number no_number t)))))
      (λ f. stay (rw (← e) h) 2)
  took Second e h =
      by_cond P (is_value w)
      (λ t.
      let k = h.1.0 in
      let a = h.1.1.1 in
      let b = ltb-true w.number no_number t in
      same _ refl refl
      (c, (h.0.0, record { some = h.0.1.0; few = h.0.1.1; kind = h.1.1.0; read = λ z. absurd (omega arith); a = omega arith; b = omega arith })))
      (λ f. stay (rw (← e) h) 2)
  took AfterCall e h = stay (rw (← e) h) 3
  took Turn e h =
      by_cond P (leb turn_limit d.t) (λ t. stay (rw (← e) h) 10)
      (λ f.
      by_cond P (is_from1_to d.n w) (turned h (leb-false turn_limit d.t f))
      (λ g. stay (rw (← e) h) 8))

-- the end of a line
module _ (d : Drafted) (table turns : List ℕ) (c : Common d.x d.n d.q d.t table turns) where
  abbrev Q : Drafted → Type 0
  Q d' = (d'.t ≡ d.t) × ((d'.call ≡ d.call) × Sane d' (table ++ call_made d d') turns)

  no_more : (d' : Drafted) → d.q ≡ d'.q → d'.t ≡ d.t → d'.call ≡ d.call → Sane d' table turns → Q d'
  no_more d' e f k s = (f, (k, rw (no_call_made d.q d' e, append-nil) s))

  lacks : At d.stage d → (k : ℕ) → Q (refuse d k)
  lacks h k = no_more (refuse d k) refl refl refl (c, h)

  -- a call more
  called : Peopled d.n → GoodCall d.n d.call → d.q < call_limit → Q (draft d.expected Call d.x d.n (d.q + 1) d.t d.call)
  unfolding call_from
  called h g few =
      let z : eqb d.q (d.q + 1) ≡ false = ne_eqb d.q (d.q + 1) (λ q. omega arith) in
      let r = record_bytes d.call in
      let u = table ++ r in (
        refl,
        (
          refl,
          (
            rw z
                (record {
                  value = c.value;
                  calls = length-append table r ∙ (let y = c.calls in let x = length-record d.call in omega arith);
                  moves = c.moves;
                  few_calls = omega arith;
                  few_moves = c.few_moves;
                  good_calls = below_more (λ i. bad_call_at d.n u i ≡ false) d.q
                      (λ i y. rw (call_before table r d.q c.calls i y) (c.good_calls i y))
                      (rw (call_last table r d.q c.calls (length-record d.call)) (good_call d.n d.call h.1 g));
                  good_turns = c.good_turns;
                }),
            h,
          ),
        ),
      )

  over : (stage : Stage) → stage ≡ d.stage → At stage d → Q (ended_at stage d)
  unfolding ended_at made_call
  over Start e h = no_more d refl refl refl (c, rw (← e) h)
  over StartValue e h = lacks (rw (← e) h) 2
  over AfterStart e h = no_more _ refl refl refl (c, h)
  over Stations e h = no_more d refl refl refl (c, rw (← e) h)
  over Count e h = lacks (rw (← e) h) 5
  over AfterCount e h = no_more _ refl refl refl (c, h)
  over Call e h = no_more d refl refl refl (c, rw (← e) h)
  over Kind e h = lacks (rw (← e) h) 7
  over First e h = lacks (rw (← e) h) 2
  over Second e h = lacks (rw (← e) h) 2
  over AfterCall e h = by_cond Q (leb call_limit d.q) (λ t. lacks (rw (← e) h) 9) (λ f. called h.0 h.1 (leb-false call_limit d.q f))
  over Turn e h = no_more d refl refl refl (c, rw (← e) h)

-- a byte more
module _ (s : Scanned) (table turns : List ℕ) (y : Sane s.draft table turns) where
  abbrev d : Drafted
  d = s.draft

  -- what is given from one draft to the next
  abbrev R : Drafted → Type 0
  R d' = Sane d' (table ++ call_made d d') (turns ++ turn_made d d')

  idle : R s.draft
  idle = rw (no_call_made d.q d refl, no_turn_made d.t d refl, append-nil table, append-nil turns) y

  word_told : ((word_ended s).q ≡ s.draft.q) × Sane (word_ended s) table (turns ++ turn_made s.draft (word_ended s))
  unfolding word_ended
  word_told =
      by_cond (λ d'. (d'.q ≡ d.q) × Sane d' table (turns ++ turn_made d d')) (empty s.word)
      (λ t. (refl, rw (no_turn_made d.t d refl, append-nil) y))
      (λ f. took d (said s.word) table turns y.0 d.stage refl y.1)

  word_over : R (word_ended s)
  word_over = let w = word_told in rw (no_call_made d.q (word_ended s) (sym w.0), append-nil) w.1

  line_over : R (line_ended s)
  unfolding line_ended
  line_over =
      let w = word_told in
      let d₁ = word_ended s in
      by_cond R (eqb d₁.expected 0)
      (λ t.
      let o = over d₁ table (turns ++ turn_made d d₁) w.1.0 d₁.stage refl w.1.1 in
      let d₂ = ended_at d₁.stage d₁ in
      joined table turns d d₁ d₂ w.0 o.0 o.1.0 o.1.1)
      (λ f. word_over)

  abbrev S : Scanned → Type 0
  S s' = R s'.draft

  byte_on : (b : ℕ) → S (step_on s b)
  unfolding step_on
  byte_on b =
      by_cond S (eqb b 10) (λ _. line_over)
      (λ _. by_cond S s.comment (λ _. idle) (λ _. by_cond S (eqb b 35) (λ _. word_over) (λ _. by_cond S (is_blank b) (λ _. word_over) (λ _. idle))))

  byte_over : (b : ℕ) → Sane (step s b).draft (table ++ call_made s.draft (step s b).draft) (turns ++ turn_made s.draft (step s b).draft)
  unfolding step
  byte_over b = by_cond S (eqb d.expected 0) (λ _. byte_on b) (λ _. idle)

-- a text
all_sane : (text : List ℕ) (s : Scanned) (table turns : List ℕ) → Sane s.draft table turns
    → Sane (run s text).draft (table ++ given call_made s text) (turns ++ given turn_made s text)
unfolding run given
all_sane [] s table turns y = rw (append-nil table, append-nil turns) y
all_sane (b ∷ bs) s table turns y =
    let s' = step s b in
    let u = call_made s.draft s'.draft in
    let v = turn_made s.draft s'.draft in
    rw (← append_assoc table u (given call_made s' bs), ← append_assoc turns v (given turn_made s' bs))
    (all_sane bs s' (table ++ u) (turns ++ v) (byte_over s table turns y b))

at_first : Sane no_scan.draft [] []
at_first =
    (record { value = omega arith; calls = refl; moves = refl; few_calls = omega arith; few_moves = omega arith; good_calls = λ i h. absurd (omega arith); good_turns = λ i h. absurd (omega arith) }, (refl, refl))

last_sane : (text : List ℕ) → Sane (last_draft text) (table_in text) (turns_in text)
unfolding table_in turns_in
last_sane text = line_over (run no_scan text) (given call_made no_scan text) (given turn_made no_scan text) (all_sane text no_scan [] [] at_first)

-- where the text may end there are stations
peopled : (stage : Stage) (n q t : ℕ) (c : CallRecord) → lacking_at stage ≡ 0 → Here stage n q t c → Peopled n
unfolding lacking_at
peopled Start n q t c e h = absurd (omega arith)
peopled StartValue n q t c e h = absurd (omega arith)
peopled AfterStart n q t c e h = absurd (omega arith)
peopled Stations n q t c e h = absurd (omega arith)
peopled Count n q t c e h = absurd (omega arith)
peopled AfterCount n q t c e h = h
peopled Call n q t c e h = h
peopled Kind n q t c e h = absurd (omega arith)
peopled First n q t c e h = absurd (omega arith)
peopled Second n q t c e h = absurd (omega arith)
peopled AfterCall n q t c e h = h.0
peopled Turn n q t c e h = h

lacks_none : (expected k : ℕ) → cond (eqb expected 0) k expected ≡ 0 → k ≡ 0
lacks_none expected k =
    by_cond (λ r. r ≡ 0 → k ≡ 0) (eqb expected 0) (λ t h. h) (λ f h. absurd (eqb-false expected 0 f h))

module _ (text : List ℕ) where
  abbrev e : Drafted
  e = last_draft text

  -- the rows are never longer than those of the largest run
  pub table_fits : length (table_in text) ≤ 12 * call_limit
  table_fits = let c = (last_sane text).0 in omega (arith, c.calls, c.few_calls)

  pub turns_fit : length (turns_in text) ≤ turn_limit
  turns_fit = let c = (last_sane text).0 in omega (arith, c.moves, c.few_moves)

  -- a text that can be read tells a good run
  pub tells_good : lacking (last_draft text) ≡ 0 → GoodRun (last_draft text).x (last_draft text).n (table_in text) (turns_in text)
  tells_good h =
      let c = (last_sane text).0 in
      let q : records (table_in text) ≡ e.q = omega (arith, c.calls) in
      let l : lacking_at e.stage ≡ 0 = lacks_none e.expected (lacking_at e.stage) h in
      let p = peopled e.stage e.n e.q e.t e.call l (last_sane text).1 in
      record {
        value = c.value;
        some = p.0;
        few = p.1;
        whole = omega (arith, c.calls);
        calls = omega (arith, c.few_calls);
        moves = omega (arith, c.moves, c.few_moves);
        good_calls = λ i g. c.good_calls i (omega arith);
        good_turns = λ i g. c.good_turns i (omega (arith, c.moves));
      }
