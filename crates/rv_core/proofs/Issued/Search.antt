-- A search in the stations of a kind finds the oldest instruction that the definition finds.
use Rattle.rv_core.proofs.Words.{◌≡◌, ℕ, ◌+◌, Bool, true, false, ◌&&◌, ◌⊎◌, List, [], ◌∷◌, ◌++◌, length, Some, None}
use Rattle.rv_core.proofs.Words.{Option, sym, refl, ap, ◌∙◌, inl, inr, append_assoc, append-nil, arith, length-append}
use Rattle.rv_core.proofs.Words.{and_parts, cases_Bool, cond-false, is_of_kind, kind_of_word, Message, Instr, Issue}
use Rattle.rv_core.proofs.Words.{Kind, started, Entry, is_stationed, is_waiting, oldest_from, is_ready_station}
use Rattle.rv_core.proofs.Words.{oldest_ready, without_oldest_ready, Station, RegisterStatus, status_after, status_with}
use Rattle.rv_core.proofs.Words.{waiting_at, waiting_from, waiting_of}

-- an instruction gives no value to the status before it has a result, started or not
pub status_started : (status : RegisterStatus) (seq : ℕ) (e : Entry) (issue : Issue) (message : Message) →
    is_waiting e.stage ≡ true → status_with status seq (started issue message e) ≡ status_with status seq e
status_started status seq e issue message waits = grind arith

status_push : (status : RegisterStatus) (seq : ℕ) (older : List Entry) (e : Entry) →
    status_after status seq (older ++ e ∷ []) ≡ status_with (status_after status seq older) (seq + length older) e
status_push status seq [] e = ap (λ n. status_with status n e) (omega arith)
status_push status seq (x ∷ older) e = grind (arith, status_push (status_with status seq x) (seq + 1) older e)

-- an instruction that has a station waits
pub waits : (kind : Kind) (e : Entry) → is_stationed kind e ≡ true → is_waiting e.stage ≡ true
waits kind e is = (and_parts (is_waiting e.stage) (is_of_kind kind (kind_of_word e.instruction)) is).0

module _ (kind : Kind) (status : RegisterStatus) (seq : ℕ) (e : Entry) where
  -- an instruction is in no station, or is one instruction there
  abbrev IsAway : Type 0
  IsAway = (waiting_at kind status seq e e.instruction ≡ []) × (is_stationed kind e ≡ false)

  abbrev IsThere : Type 0
  IsThere = (i : Instr) × (e.instruction ≡ Some i) ×
      (waiting_at kind status seq e e.instruction ≡ waiting_of status seq e.pc i ∷ []) × (is_stationed kind e ≡ true)

  by_word : (word : Option Instr) → e.instruction ≡ word → IsAway ⊎ IsThere
  by_word word is = grind arith

  pub at_cases : IsAway ⊎ IsThere
  at_cases = by_word e.instruction refl

module _ (kind : Kind) (status0 : RegisterStatus) (n0 : ℕ) where
  -- the stations of a kind, as far as they hold what stands after some instructions
  abbrev pub stations_after : List Entry → List Entry → List Station
  stations_after older es = waiting_from kind (status_after status0 n0 older) (n0 + length older) es

  -- an instruction as it waits after some others
  abbrev pub station_after : List Entry → Entry → Instr → Station
  station_after older e i = waiting_of (status_after status0 n0 older) (n0 + length older) e.pc i

  next_place : (older : List Entry) (e : Entry) → n0 + length older + 1 ≡ n0 + length (older ++ e ∷ [])
  next_place older e = omega (arith, length-append older (e ∷ []))

  stations_step : (older : List Entry) (e : Entry) (es : List Entry) →
      stations_after older (e ∷ es)
      ≡ waiting_at kind (status_after status0 n0 older) (n0 + length older) e e.instruction ++ stations_after
      (older ++ e ∷ []) es
  stations_step older e es = rw (status_push status0 n0 older e, ← next_place older e) refl

  -- once an instruction that was there has started, the stations hold what is after it
  stations_started : (older : List Entry) (e : Entry) (i : Instr) (es : List Entry)
      (issue : Issue) (message : Message) →
      e.instruction ≡ Some i → is_waiting e.stage ≡ true →
      stations_after older (started issue message e ∷ es) ≡ stations_after (older ++ e ∷ []) es
  stations_started older e i es issue message is waiting = grind (arith, status_push, next_place, status_started)

  module _ (entries : List Entry) (test : Station → Bool) (ready : List Entry → Entry → Bool) where
    -- each station of the kind is ready, and passes the test, where its instruction is ready
    abbrev pub Agree : Type 0
    Agree = (older rest : List Entry) (e : Entry) (i : Instr) → older ++ e ∷ rest ≡ entries → e.instruction ≡ Some i →
        is_stationed kind e ≡ true →
        (is_ready_station (station_after older e i) && test (station_after older e i)) ≡ ready older e

    -- each other instruction is not ready
    abbrev pub PassBy : Type 0
    PassBy = (older : List Entry) (e : Entry) → is_stationed kind e ≡ false → ready older e ≡ false

    -- neither finds an instruction
    pub record NoneFound (older es : List Entry) : Type 0 where
      pub defined : oldest_from ready older es ≡ None
      pub searched : oldest_ready test (stations_after older es) ≡ None

    -- both find the same one
    pub record Found (older es : List Entry) : Type 0 where
      pub before : List Entry
      pub prior : List Entry
      pub rest : List Entry
      pub entry : Entry
      pub instruction : Instr
      pub split : es ≡ before ++ entry ∷ rest
      pub prior_is : prior ≡ older ++ before
      pub decoded : entry.instruction ≡ Some instruction
      pub there : is_stationed kind entry ≡ true
      pub defined : oldest_from ready older es ≡ Some (prior, entry)
      pub searched : oldest_ready test (stations_after older es) ≡ Some (station_after prior entry instruction)
      pub left : (issue : Issue) (message : Message) →
          without_oldest_ready test (stations_after older es)
          ≡ stations_after older (before ++ started issue message entry ∷ rest)

    -- past an instruction whose stations' part is a list in which nothing is found
    module _ (older : List Entry) (e : Entry) (es : List Entry) (here : List Station)
        (at : waiting_at kind (status_after status0 n0 older) (n0 + length older) e e.instruction ≡ here)
        (not : ready older e ≡ false)
        (oldest_skips : (ws : List Station) → oldest_ready test (here ++ ws) ≡ oldest_ready test ws)
        (others_skip : (ws : List Station) → without_oldest_ready test (here ++ ws) ≡ here
        ++ without_oldest_ready test ws) where
      joined : (xs : List Entry) → stations_after older (e ∷ xs) ≡ here ++ stations_after (older ++ e ∷ []) xs
      joined xs = stations_step older e xs ∙ ap (λ l. l ++ stations_after (older ++ e ∷ []) xs) at

      none_past : NoneFound (older ++ e ∷ []) es → NoneFound older (e ∷ es)
      none_past n = grind (arith, joined)

      found_past : Found (older ++ e ∷ []) es → Found older (e ∷ es)
      found_past f = record {
        before = e ∷ f.before;
        prior = f.prior;
        rest = f.rest;
        entry = f.entry;
        instruction = f.instruction;
        split = ap (λ l. e ∷ l) f.split;
        prior_is = f.prior_is ∙ append_assoc older (e ∷ []) f.before;
        decoded = f.decoded;
        there = f.there;
        defined = rw not f.defined;
        searched = ap (oldest_ready test) (joined es) ∙ oldest_skips (stations_after (older ++ e ∷ []) es) ∙ f.searched;
        left = λ issue message.
            ap (without_oldest_ready test) (joined es)
            ∙ others_skip (stations_after (older ++ e ∷ []) es)
            ∙ ap (λ l. here ++ l) (f.left issue message)
            ∙ sym (joined (f.before ++ started issue message f.entry ∷ f.rest));
      }

      past : NoneFound (older ++ e ∷ []) es ⊎ Found (older ++ e ∷ []) es →
          NoneFound older (e ∷ es) ⊎ Found older (e ∷ es)
      past (inl n) = inl (none_past n)
      past (inr f) = inr (found_past f)

    -- the search from some instruction on
    pub search_from : (older es : List Entry) → older ++ es ≡ entries → Agree → PassBy →
        NoneFound older es ⊎ Found older es
    search_from older [] all agree pass = inl (record { defined = refl; searched = refl })
    search_from older (e ∷ es) all agree pass =
        let rest = search_from (older ++ e ∷ []) es (append_assoc older (e ∷ []) es ∙ all) agree pass in
        elim (at_cases kind (status_after status0 n0 older) (n0 + length older) e) [
          | inl away ↦ past older e es [] away.0 (pass older e away.1) (λ ws. refl) (λ ws. refl) rest
          | inr there ↦
              let i = there.0 in
              let w = station_after older e i in
              let same = agree older es e i all there.1 there.3 in
              elim (cases_Bool (is_ready_station w && test w)) [
                | inr fails ↦ past older e es (w ∷ []) there.2 (sym same ∙ fails)
                    (λ ws. cond-false (is_ready_station w && test w) (Some w) (oldest_ready test ws) fails)
                    (λ ws. cond-false (is_ready_station w && test w) ws (w ∷ without_oldest_ready test ws) fails)
                    rest
                | inl passes ↦
                    let ws = stations_after (older ++ e ∷ []) es in
                    let joined : stations_after older (e ∷ es) ≡ w ∷ ws = stations_step older e es
                    ∙ ap (λ l. l ++ ws) there.2 in
                    inr (record {
                      before = [];
                      prior = older;
                      rest = es;
                      entry = e;
                      instruction = i;
                      split = refl;
                      prior_is = sym (append-nil older);
                      decoded = there.1;
                      there = there.3;
                      defined = rw (sym same ∙ passes) refl;
                      searched = rw (joined, passes) refl;
                      left = λ issue message.
                          rw (joined, passes) (sym
                          (stations_started older e i es issue message there.1 (waits kind e there.3)));
                    })
              ]
        ]
