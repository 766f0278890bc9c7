-- The reservation stations are what the instructions in flight determine, through a dispatch, a broadcast and a squash.
use Rattle.rv_core.proofs.Words.{◌≡◌, ℕ, ◌+◌, ◌<◌, ◌≤◌, Bool, true, false, cond, ◌&&◌, List, [], ◌∷◌, ◌++◌, map, length}
use Rattle.rv_core.proofs.Words.{◌==◌, slice_index_or, Some, None, All, filter, Option, sym, refl, ap, ◌∙◌, append-nil}
use Rattle.rv_core.proofs.Words.{arith, eq-eqb, ne_eqb, and_right, eqb-false, map-append, All-cons, is_same-own}
use Rattle.rv_core.proofs.Words.{is_of_kind, kind_of_word, sources_of, at_kind, for_each, Message, Instr, Kind, PerKind}
use Rattle.rv_core.proofs.Words.{Values, finished, predicting, ReorderBuffer, changed, entries_below, pushed}
use Rattle.rv_core.proofs.Words.{with_entry, Entry, Stage, is_stationed, stage_by, broadcast_of, is_waiting, AreBelow}
use Rattle.rv_core.proofs.Words.{below, by_kind, at_kind-by_kind, by_kind-same, with_kind-by_kind, Pool, squashed_pool}
use Rattle.rv_core.proofs.Words.{woken_pool, woken, woken_operand, Station, cut_from, entry_of, next_number}
use Rattle.rv_core.proofs.Words.{with_instruction, with_station, RegisterStatus, operand_by, operand_of, pool_of_kind}
use Rattle.rv_core.proofs.Words.{stations_of, status_after, status_with, values_in, waiting_at, waiting_from}
use Rattle.rv_core.proofs.Words.{waiting_of}
use Rattle.rv_rob.specs.declared.entry.Stage.TheVariants as stage
use Rattle.rv_stations.specs.Waiting.{seq_of}
use Rattle.rv_core.proofs.Ties.Entries.{at_head, held_at, in_tail}
use Rattle.rv_core.proofs.Ties.Gathered.{after_entries, gathered, gathered-below, gathered-cut, gathered-push}
use Rattle.rv_core.proofs.Ties.Gathered.{gathered-same}

-- ---- the waiting instructions, one after another
module _ (unit : Kind) where
  abbrev own_waiting : RegisterStatus → ℕ → Entry → List Station
  own_waiting status s e = waiting_at unit status s e e.instruction

  waiting-gathered : (status : RegisterStatus) (s : ℕ) (es : List Entry) →
      waiting_from unit status s es ≡ gathered status_with own_waiting status s es
  waiting-gathered status s es = grind arith

  waiting-at_if : (b : Bool) (s : ℕ) (w : Station) → w.seq ≡ s → All (λ w. seq_of w ≡ s) (cond b (w ∷ []) [])
  waiting-at_if b s w is = grind (arith, All-cons)

  waiting-at : (status : RegisterStatus) (s : ℕ) (e : Entry) (o : Option Instr) →
      All (λ w. seq_of w ≡ s) (waiting_at unit status s e o)
  waiting-at status s e o = grind (arith, waiting-at_if)

  after_entries-status : (status : RegisterStatus) (s : ℕ) (es : List Entry) →
      after_entries status_with status s es ≡ status_after status s es
  after_entries-status status s es = grind arith

  waiting-push : (status : RegisterStatus) (s n : ℕ) (es : List Entry) (e : Entry) → n ≡ s + length es →
      waiting_from unit status s (es ++ e ∷ [])
      ≡ waiting_from unit status s es ++ waiting_at unit (status_after status s es) n e e.instruction
  waiting-push status s n es e is =
      waiting-gathered status s (es ++ e ∷ []) ∙ gathered-push status_with own_waiting status s n es e is ∙
      (λ i. sym (waiting-gathered status s es) i ++
      waiting_at unit (after_entries-status status s es i) n e e.instruction)

  pub waiting-below : (n : ℕ) (status : RegisterStatus) (s : ℕ) (es : List Entry) → s + length es ≤ n →
      AreBelow seq_of n (waiting_from unit status s es)
  waiting-below n status s es le =
      rw (waiting-gathered status s es)
      (gathered-below status_with own_waiting seq_of (λ st s e. waiting-at st s e e.instruction) n status s es le)

  waiting-cut : (n : ℕ) (status : RegisterStatus) (s : ℕ) (es : List Entry) →
      below seq_of n (waiting_from unit status s es) ≡ waiting_from unit status s (entries_below n s es)
  waiting-cut n status s es = grind (arith, below, waiting-gathered, gathered-cut, waiting-at)

  waiting-predicting : (next_pc n : ℕ) (status : RegisterStatus) (s : ℕ) (es : List Entry) →
      waiting_from unit status s (with_entry (predicting next_pc) n s es) ≡ waiting_from unit status s es
  waiting-predicting next_pc n status s es = grind (arith, waiting-gathered, gathered-same)

  -- ---- how many there are
  count-at : (status : RegisterStatus) (s : ℕ) (e : Entry) (o : Option Instr) (es : List Entry) (ws : List Station) →
      e.instruction ≡ o → length ws ≡ length (filter (is_stationed unit) es)
      → length (waiting_at unit status s e o ++ ws)
      ≡ length (cond (is_stationed unit e) (e ∷ filter (is_stationed unit) es) (filter (is_stationed unit) es))
  count-at status s e o es ws is later = grind (arith, and_right)

  -- as many stations are taken as instructions that have one
  pub waiting-count : (status : RegisterStatus) (s : ℕ) (es : List Entry) →
      length (waiting_from unit status s es) ≡ length (filter (is_stationed unit) es)
  waiting-count status s [] = refl
  waiting-count status s (e ∷ es) =
      count-at status s e e.instruction es (waiting_from unit (status_with status s e) (s + 1) es) refl
      (waiting-count (status_with status s e) (s + 1) es)

  -- ---- a broadcast
  -- an instruction that does not wait is in no station
  pub busy-at : (status : RegisterStatus) (s : ℕ) (e : Entry) (o : Option Instr) → is_waiting e.stage ≡ false →
      waiting_at unit status s e o ≡ []
  busy-at status s e o busy = grind arith

  module _ (n value : ℕ) where
    -- the status once a value is broadcast
    abbrev woken_status : RegisterStatus → RegisterStatus
    woken_status status register = woken_operand n value (status register)

    woken-operand_of : (status : RegisterStatus) (source : Option ℕ) →
        woken_operand n value (operand_of status source) ≡ operand_of (woken_status status) source
    woken-operand_of status source = grind arith

    woken-at : (status : RegisterStatus) (s : ℕ) (e : Entry) (o : Option Instr) →
        map (woken n value) (waiting_at unit status s e o) ≡ waiting_at unit (woken_status status) s e o
    woken-at status s e None = refl
    woken-at status s e (Some instruction) =
        elim (is_stationed unit e) as
        (λ b. map (woken n value) (cond b (waiting_of status s e.pc instruction ∷ []) [])
        ≡ cond b (waiting_of (woken_status status) s e.pc instruction ∷ []) []) [
          | true ↦ λ i. record (waiting_of status s e.pc instruction) {
            first = woken-operand_of status (slice_index_or (sources_of instruction) 0 None) i;
            second = woken-operand_of status (slice_index_or (sources_of instruction) 1 None) i;
          } ∷ []
          | false ↦ refl
        ]

    woken-by : (s : ℕ) (b : Option Message) → (s == n) ≡ false → woken_operand n value (operand_by s b) ≡ operand_by s b
    woken-by s b other = grind arith

    -- after an instruction with another number
    woken-with : (status : RegisterStatus) (s : ℕ) (e : Entry) → (s == n) ≡ false →
        woken_status (status_with status s e) ≡ status_with (woken_status status) s e
    woken-with status s e other = grind (arith, woken-by)

    -- instructions that are all younger
    woken-later : (status : RegisterStatus) (s : ℕ) (es : List Entry) → n < s →
        map (woken n value) (waiting_from unit status s es) ≡ waiting_from unit (woken_status status) s es
    woken-later status s [] lt = refl
    woken-later status s (e ∷ es) lt =
        map-append (woken n value) (waiting_at unit status s e e.instruction)
        (waiting_from unit (status_with status s e) (s + 1) es) ∙
        (λ i. woken-at status s e e.instruction i ++ woken-later (status_with status s e) (s + 1) es
        (omega (arith, lt)) i) ∙
        ap (λ st. waiting_at unit (woken_status status) s e e.instruction ++ waiting_from unit st (s + 1) es)
        (woken-with status s e (ne_eqb s n (omega (arith, lt))))

    module _ (cycle : ℕ) (message : Message) (same : message.value ≡ value) where
      -- after the instruction itself
      woken-own : (status : RegisterStatus) (s : ℕ) (e : Entry) → (s == n) ≡ true → broadcast_of e.stage ≡ None →
          woken_status (status_with status s e) ≡ status_with (woken_status status) s (finished message cycle e)
      woken-own status s e equal silent = grind (arith, finished)

      pub waiting-woken : (status : RegisterStatus) (s : ℕ) (es : List Entry) (e : Entry) → entry_of n s es ≡ Some e →
          is_waiting e.stage ≡ false → broadcast_of e.stage ≡ None
          → map (woken n value) (waiting_from unit status s es)
          ≡ waiting_from unit (woken_status status) s (with_entry (finished message cycle) n s es)
      waiting-woken status s [] e held busy silent = absurd (cc)
      waiting-woken status s (d ∷ es) e held busy silent = elim (held_at n s d es e held) [
        | at_head equal number one ↦
            let out : is_waiting d.stage ≡ false = rw one busy in
            let quiet : broadcast_of d.stage ≡ None = rw one silent in
            rw equal (
            ap (λ ws. map (woken n value) (ws ++ waiting_from unit (status_with status s d) (s + 1) es))
            (busy-at status s d d.instruction out) ∙
            woken-later (status_with status s d) (s + 1) es (omega (arith, number)) ∙
            ap (λ st. waiting_from unit st (s + 1) es) (woken-own status s d (eq-eqb s n (sym number)) quiet) ∙
            sym (ap (λ ws. ws ++ waiting_from unit
            (status_with (woken_status status) s (finished message cycle d)) (s + 1) es)
            (busy-at (woken_status status) s (finished message cycle d) d.instruction refl))
            )
        | in_tail other is ↦
            rw other (
            map-append (woken n value) (waiting_at unit status s d d.instruction)
            (waiting_from unit (status_with status s d) (s + 1) es) ∙
            (λ i. woken-at status s d d.instruction i ++ waiting-woken (status_with status s d) (s + 1)
            es e is busy silent i) ∙
            ap (λ st. waiting_at unit (woken_status status) s d d.instruction ++ waiting_from unit st (s + 1)
            (with_entry (finished message cycle) n (s + 1) es))
            (woken-with status s d (ne_eqb s n (λ back. eqb-false n s other (sym back))))
            )
      ]

-- ---- the pools
stations_by : (values : Values) (registers : List ℕ) (rob : ReorderBuffer) (change : Pool →
    Pool) (new : ReorderBuffer) →
    ((k : Kind) → change (pool_of_kind values registers rob k) ≡ pool_of_kind values registers new k)
    → for_each change (stations_of values registers rob) ≡ stations_of values registers new
stations_by values registers rob change new is =
    by_kind-same (λ k. change (pool_of_kind values registers rob k)) (pool_of_kind values registers new) is

-- the stations after a squash are those of the instructions that are left
pub stations-squashed : (values : Values) (registers : List ℕ) (rob : ReorderBuffer) (n : ℕ) →
    for_each (squashed_pool n) (stations_of values registers rob) ≡ stations_of values registers (cut_from n rob)
stations-squashed values registers rob n = grind (arith, stations_by, waiting-cut)

-- the stations that a result wakes are those of the instructions once it is known
pub stations-woken : (values : Values) (registers : List ℕ) (rob : ReorderBuffer) (n cycle : ℕ)
    (message : Message) (e : Entry) →
    entry_of n rob.retired rob.entries ≡ Some e → is_waiting e.stage ≡ false → broadcast_of e.stage ≡ None
    → for_each (woken_pool n message.value) (stations_of values registers rob)
    ≡ stations_of values registers (changed (finished message cycle) n rob)
stations-woken values registers rob n cycle message e held busy silent =
    stations_by values registers rob (woken_pool n message.value)
    (changed (finished message cycle) n rob) (λ k i. record {
      waiting = waiting-woken k n message.value cycle message refl
          (values_in registers) rob.retired rob.entries e held busy silent i;
      capacity = (at_kind k values.kinds).stations;
    })

-- another prediction leaves the stations as they are
pub stations-predicting : (values : Values) (registers : List ℕ) (rob : ReorderBuffer) (n next_pc : ℕ) →
    stations_of values registers (changed (predicting next_pc) n rob) ≡ stations_of values registers rob
stations-predicting values registers rob n next_pc = grind (arith, stations_by, changed, waiting-predicting)

-- every number in a station is below that of the next instruction
pub stations-below : (values : Values) (registers : List ℕ) (rob : ReorderBuffer) (k : Kind) →
    AreBelow seq_of (next_number rob) (at_kind k (stations_of values registers rob)).waiting
stations-below values registers rob k = grind (arith, at_kind-by_kind, waiting-below)

-- ---- dispatch
nothing_more : (pool : Pool) → pool ≡ record pool { waiting = pool.waiting ++ [] }
nothing_more pool = ap (λ ws. record pool { waiting = ws }) (sym (append-nil pool.waiting))

-- the pools, with more instructions in that of each kind
abbrev with_each : (Kind → List Station) → PerKind Pool → PerKind Pool
with_each more pools = by_kind (λ k. record (at_kind k pools) { waiting = (at_kind k pools).waiting ++ more k })

with_none : (pools : PerKind Pool) → pools ≡ with_each (λ k. []) pools
with_none pools = grind (arith, by_kind-same, nothing_more)

-- the stage in which an instruction enters
abbrev first_stage_of : Option Kind → Bool → ℕ → Message → Stage
first_stage_of unit serialising cycle message = stage_by unit serialising (stage.Finished None cycle message)

with_station-is : (o : Option Kind) (serialising : Bool) (cycle : ℕ) (message : Message) (w : Station)
    (pools : PerKind Pool)
    → with_station o w pools
    ≡ with_each (λ k. cond (is_waiting (first_stage_of o serialising cycle message) && is_of_kind k o) (w ∷ []) [])
    pools
with_station-is o serialising cycle message w pools =
    grind (arith, with_none, is_same-own, with_kind-by_kind, nothing_more)

with_instruction-is : (status : RegisterStatus) (n : ℕ) (e : Entry) (o : Option Instr) (serialising : Bool) (cycle : ℕ)
    (message : Message) (pools : PerKind Pool) → e.instruction ≡ o →
    e.stage ≡ first_stage_of (kind_of_word o) serialising cycle message
    → with_instruction status n e.pc o pools ≡ with_each (λ k. waiting_at k status n e o) pools
with_instruction-is status n e o serialising cycle message pools is given = grind (arith, with_none, with_station-is)

-- what a dispatch makes of the stations
pub stations-push : (values : Values) (registers : List ℕ) (rob : ReorderBuffer) (e : Entry)
    (serialising : Bool) (cycle : ℕ)
    (message : Message) → e.stage ≡ first_stage_of (kind_of_word e.instruction) serialising cycle message
    → stations_of values registers (pushed e rob)
    ≡ with_instruction (status_after (values_in registers) rob.retired rob.entries) (next_number rob) e.pc e.instruction
    (stations_of values registers rob)
stations-push values registers rob e serialising cycle message at =
    grind (arith, by_kind-same, pushed, waiting-push, with_instruction-is)
