-- At most `bus_width` results are broadcast in a cycle.
use Rattle.rv_hardware.proofs.Words.{◌≡◌, ℕ, suc, ◌+◌, ◌<◌, ◌≤◌, Bool, true, false, List, ◌∷◌, IfSome, ◌==◌, None}
use Rattle.rv_hardware.proofs.Words.{Option, refl, ap, arith, ne_eqb, eqb-true, le-leb, and_from, Instr, Values}
use Rattle.rv_hardware.proofs.Words.{finished, predicting, Entry, Stage, broadcast, broadcast_turn, Dispatching}
use Rattle.rv_hardware.proofs.Words.{dispatch, dispatch_turn, Hardware, NeverMoreThan, Turn, is_broadcast_in, passes}
use Rattle.rv_hardware.proofs.Words.{rows_of, Execution, Step, count, count-none, count-set-more, count-push}
use Rattle.rv_hardware.proofs.Words.{count-push-no, count-left, Leads, turns_within, kept_by_turns, IsBetween}
use Rattle.rv_hardware.proofs.Words.{each_then}
use Rattle.rv_hardware.proofs.Marks.Cited.{dispatched_mark, BroadcastTurn, no_result, sends, mends, broadcast_turn_is}
use Rattle.rv_hardware.proofs.Marks.Cited.{sent_entries, mended_entries, Shows, counted_law, History, issued_all}
use Rattle.rv_hardware.proofs.Marks.Cited.{sent_all, DispatchTurn, dispatch_turn_is, until, broadcast_of_stage}
use Rattle.rv_hardware.proofs.Marks.Cited.{broadcast_of_execution, until_by, SoundStage, is_at, count_in_flight}

sent_shows_by : (c D C : ℕ) (x : Option Execution) → IfSome x (IsBetween D C) →
    passes (λ y. y.broadcast == c) x ≡ true → (is_at c (until c (broadcast_of_execution x)) ≡ true) × (D < c) × (c < C)
sent_shows_by c D C x h is = grind (arith, eqb-true, until_by)

-- that a row's result is broadcast in a cycle shows in its mark
pub sent_shows : (v : Values) → Shows v is_broadcast_in (λ c m. is_at c m.broadcast)
sent_shows v = grind (arith, sent_shows_by, and_from, le-leb)

module _ (now total : ℕ) where
  abbrev is_sent_now : Entry → Bool
  is_sent_now e = is_at now (broadcast_of_stage e.stage)

  abbrev SentNow : ℕ → Hardware → Type 0
  SentNow k h = count is_sent_now h.rob.entries ≤ k

  broadcast_leads : (k : ℕ) {h : Hardware} {t : Turn Hardware} → k < total → BroadcastTurn h t → SentNow k h →
      Leads (SentNow (suc k)) (SentNow total) t
  broadcast_leads k lt (no_result none) p = omega (arith, p, lt)
  broadcast_leads k {h} lt (sends older younger e issue message sent late) p =
      let x : Entry = finished message h.cycle e in
      let more = count-set-more is_sent_now older younger e x in
      let old = ap (count is_sent_now) sent.place in
      let new = ap (count is_sent_now) (sent_entries h older younger e message sent.place) in
      omega (arith, more, old, new, p)
  broadcast_leads k {h} lt (mends older younger e issue message sent early) p =
      let y : Entry = predicting message.next_pc (finished message h.cycle e) in
      let more = count-push is_sent_now older y in
      let less = count-left is_sent_now older (e ∷ younger) in
      let old = ap (count is_sent_now) sent.place in
      let new = ap (count is_sent_now) (mended_entries h older younger e message sent.place) in
      omega (arith, more, less, old, new, p, lt)

  pub broadcast_within : (h : Hardware) → h.values.bus_width ≡ total → count is_sent_now h.rob.entries ≤ 0 →
      count is_sent_now (broadcast h).rob.entries ≤ total
  broadcast_within h width none =
      turns_within total SentNow (SentNow total) broadcast_turn
      (λ k g lt p. broadcast_leads k lt (broadcast_turn_is g) p) (λ g p. p) h.values.bus_width 0 h
      (omega (arith, width)) none

  dispatch_sends_none : {d : Dispatching} {t : Turn Dispatching} → DispatchTurn d t → SentNow total d.hardware →
      Leads (λ x. SentNow total x.hardware) (λ x. SentNow total x.hardware) t
  dispatch_sends_none given p = grind (arith, count-push-no, dispatched_mark)

  pub dispatch_keeps_sent : (h : Hardware) → SentNow total h → SentNow total (dispatch h).hardware
  dispatch_keeps_sent h p =
      kept_by_turns (λ d. SentNow total d.hardware) dispatch_turn
      (λ d q. dispatch_sends_none (dispatch_turn_is d) q) h.values.dispatch_width
      (record { hardware = h; dispatched = 0; waits_for = None }) p

sent_earlier : (v : Values) (i : Option Instr) (D a now : ℕ) (st : Stage) → SoundStage v i D a now st →
    is_at now (broadcast_of_stage st) ≡ false
sent_earlier v i D a now st h = grind (arith, ne_eqb)

row_sent_earlier : (D C now : ℕ) (x : Option Execution) → C ≤ now → IfSome x (IsBetween D C) →
    is_at now (broadcast_of_execution x) ≡ false
row_sent_earlier D C now x le h = grind (arith, ne_eqb)

-- the field `bus_width` of `Laws`, over every history
pub law_of_bus_width : {v : Values} {steps : List Step} {h : Hardware} → History v steps h →
    NeverMoreThan v.bus_width is_broadcast_in (rows_of steps)
law_of_bus_width {v} history =
    counted_law (sent_shows v) v.bus_width (λ earlier old new lines report before after passed.
    let all = count_in_flight (λ m. is_at old.cycle m.broadcast) passed
    (λ row w.
    row_sent_earlier row.dispatched row.retired old.cycle row.execution
    (omega (arith, w.below)) w.stamps.executed_between)
    (λ f. refl) in
    let at_start = count-none (is_sent_now old.cycle v.bus_width) _
    (each_then (λ e w. sent_earlier v e.instruction e.dispatched (old.cycle + 1) old.cycle e.stage w.stage) _
    passed.issues.basics.entries) in
    let within = dispatch_keeps_sent old.cycle v.bus_width (sent_all lines old)
    (broadcast_within old.cycle v.bus_width (issued_all lines old)
    (ap (λ (w : Values). w.bus_width) passed.issues.basics.always.sizes.values) (omega (arith, at_start))) in
    omega (arith, all, within)) history
