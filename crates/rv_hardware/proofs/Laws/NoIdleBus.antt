-- The bus is not idle while a result waits.
use Rattle.rv_hardware.proofs.Words.{◌≡◌, ℕ, suc, ◌+◌, ◌<◌, ◌≤◌, Bool, true, false, List, [], ◌∷◌, ◌++◌, map, length}
use Rattle.rv_hardware.proofs.Words.{IfSome, ◌==◌, Some, None, count_by, Option, refl, ap, ◌∙◌, subst, append_assoc}
use Rattle.rv_hardware.proofs.Words.{arith, eq-eqb, le-leb, Message, Issue, Values, Each, finished, predicting, Entry}
use Rattle.rv_hardware.proofs.Words.{Fetched, broadcast, broadcast_turn, has_result, with_broadcast, Hardware}
use Rattle.rv_hardware.proofs.Words.{LeavesNoBusIdle, Turn, EachAfter, is_broadcast_in, passes, rows_of, Execution, Row}
use Rattle.rv_hardware.proofs.Words.{Step, and_second, Each-all, EveryAfter, count, count-set-grows, count-set-one_more}
use Rattle.rv_hardware.proofs.Words.{EveryAfter-append, EveryAfter-all, Leads, turns_within, Each-images, Each-append}
use Rattle.rv_hardware.proofs.Words.{after_moves}
use Rattle.rv_hardware.proofs.Laws.BusWidth.{sent_shows}
use Rattle.rv_hardware.proofs.Laws.RunsOn.{RunsOn, row_of_all, row_of_run, none_earlier}
use Rattle.rv_hardware.proofs.Marks.Cited.{IsBefore, IsSentIfReady, Advances, IsSent, Kept, BroadcastTurn, no_result}
use Rattle.rv_hardware.proofs.Marks.Cited.{sends, mends, Sends, broadcast_turn_is, sent_entries, mended_entries}
use Rattle.rv_hardware.proofs.Marks.Cited.{after_law, after_count, Anything, anything_is_kept, History}
use Rattle.rv_hardware.proofs.Marks.Cited.{history_is_legal, issued_all, sent_all, dispatching, rows_sent, entries_sent}
use Rattle.rv_hardware.proofs.Marks.Cited.{Broadcasts, broadcast_turn_keeps, dispatch_keeps, before_broadcast}
use Rattle.rv_hardware.proofs.Marks.Cited.{before_dispatch, send_is, with_marks, SoundRow, Mark, Start, mark_of_row}
use Rattle.rv_hardware.proofs.Marks.Cited.{mark_of_entry, mark_of_fetched, marks, marks_in, marks_at_entry, as_of}
use Rattle.rv_hardware.proofs.Marks.Cited.{at_end, until, broadcast_of_execution, until_now, is_at, older_marks}
use Rattle.rv_hardware.proofs.Marks.Cited.{rows_obey_after}

abbrev pub is_sent_in : ℕ → Mark → Bool
is_sent_in c m = is_at c m.broadcast

-- a result waits at the end of a cycle
abbrev pub IsOverBy : ℕ → Option Start → Type 0
IsOverBy c None = ⊥
IsOverBy c (Some s) = s.cycle + s.cost ≤ c

abbrev pub WaitsForBus : ℕ → Mark → Type 0
WaitsForBus c m = IsOverBy c m.start × (m.broadcast ≡ None)

-- where one waits, so many that are older were broadcast in the cycle
abbrev pub BusyBus : ℕ → ℕ → List Mark → Mark → Type 0
BusyBus k c before m = WaitsForBus c m → k ≤ count (is_sent_in c) before

-- none of these waits
ready_is_sent : (now : ℕ) (o : Option Start) {p : Option ℕ} →
    IfSome o (λ s. s.cycle + s.cost ≤ now → IsBefore (now + 1) p) → IsOverBy now o → p ≡ None → ⊥
ready_is_sent now o h ready given = grind arith

none_waits_here : (k now : ℕ) (before : List Mark) (m : Mark) → IsSentIfReady now m → BusyBus k now before m
none_waits_here k now before m sent waits = absurd (ready_is_sent now m.start sent waits.0 waits.1)

pub none_waits : (k now : ℕ) (before xs : List Mark) → Each (IsSentIfReady now) xs →
    EveryAfter (BusyBus k now) before xs
none_waits k now before xs h = EveryAfter-all (none_waits_here k now) before xs h

pub words_do_not_wait : (now : ℕ) (fs : List Fetched) → Each (IsSentIfReady now) (map mark_of_fetched fs)
words_do_not_wait now fs = Each-images _ _ (λ f. tt) fs

-- a broadcast of the oldest: one more for what is younger
pub one_more : (k : ℕ) {now : ℕ} {xs : List Mark} (ys : List Mark) {m n : Mark} → IsSent now xs m n →
    EveryAfter (BusyBus k now) [] (xs ++ m ∷ ys) → EveryAfter (BusyBus (suc k) now) [] (xs ++ n ∷ ys)
one_more k ys a h =
    grind (arith, after_moves, none_waits, append_assoc, count-set-one_more, eq-eqb)

-- a mark that goes on
busy_goes_on : (k : ℕ) (v : Values) (now : ℕ) (xs : List Mark) (m n : Mark) → Advances v now xs m n →
    BusyBus k now xs m → BusyBus k now xs n
busy_goes_on k v now xs m n given h holds = grind arith

sent_goes_on : (v : Values) (now : ℕ) (xs : List Mark) (m n : Mark) → Advances v now xs m n → is_sent_in now m ≡ true →
    is_sent_in now n ≡ true
sent_goes_on v now xs m n given h = grind (arith, eq-eqb)

pub busy_is_kept : (k : ℕ) (v : Values) (now : ℕ) → Kept v now (EveryAfter (BusyBus k now) [])
busy_is_kept k v now = grind (arith, after_moves, busy_goes_on, count-set-grows, sent_goes_on)

-- the broadcast phase

module _ (v : Values) (now total : ℕ) (steps : List Step) where
  -- what is known of the phase, and that where a result waits, so many that are older were broadcast
  abbrev IsSound : Hardware → Type 0
  IsSound = Broadcasts (anything_is_kept v now) steps

  abbrev IsBusy : ℕ → Hardware → Type 0
  IsBusy k h = EveryAfter (BusyBus k now) [] (marks_in steps h)

  abbrev Bus : ℕ → Hardware → Type 0
  Bus k h = IsSound h × IsBusy k h

  rows_wait_not : (h : Hardware) → IsSound h →
      Each (IsSentIfReady now) (map mark_of_entry h.rob.entries) → IsBusy total h
  rows_wait_not h p es =
      none_waits total now [] _
      (Each-append _ _ _ (rows_sent v now _ p.basics.rows)
      (Each-append _ _ _ es (words_do_not_wait now h.front.entries)))

  after_send : (k : ℕ) {h : Hardware} {older younger : List Entry} {e : Entry} {issue : Issue} {message : Message}
      (sent : Sends h older younger e issue message) →
      Bus k h → IsBusy (suc k) (with_broadcast (h.rob.retired + length older) message h)
  after_send k {h} {older} {younger} {e} {issue} {message} sent p =
      let x : Entry = finished message h.cycle e in
      let xs : List Mark = older_marks steps older in
      let ys : List Mark = map mark_of_entry younger ++ map mark_of_fetched h.front.entries in
      rw (sent_entries h older younger e message sent.place, marks_at_entry steps older younger x h.front.entries)
      (one_more k ys (send_is (anything_is_kept v now) steps sent p.0)
      (subst (EveryAfter (BusyBus k now) [])
      (ap (λ es. marks steps es h.front.entries) sent.place ∙ marks_at_entry steps older younger e h.front.entries)
      p.1))

  bus_leads : (k : ℕ) {h : Hardware} {t : Turn Hardware} → k < total → BroadcastTurn h t → Bus k h →
      Leads IsSound IsSound t → Leads (Bus (suc k)) (IsBusy total) t
  bus_leads k {h} lt (no_result none) p goes =
      rows_wait_not h p.0
      (entries_sent v now (now + 1) now [] _ p.0.basics.entries
      (subst (λ n. EveryAfter (λ before z. has_result n before z ≡ false) [] h.rob.entries) p.0.basics.cycle none))
  bus_leads k {h} lt (sends older younger e issue message sent late) p goes = (goes, after_send k sent p)
  bus_leads k {h} lt (mends older younger e issue message sent early) p goes =
      let x : Entry = finished message h.cycle e in
      let y : Entry = predicting message.next_pc x in
      let evidence = send_is (anything_is_kept v now) steps sent p.0 in
      let xs : List Mark = older_marks steps older in
      rw (mended_entries h older younger e message sent.place, marks_at_entry steps older [] y [])
      (EveryAfter-append _ [] xs _ (none_waits total now [] xs evidence.oldest)
      (λ waits. absurd (was_sent (ap (λ (m : Mark). m.broadcast) evidence.becomes) waits.1), tt))
    where
      was_sent : (mark_of_entry (finished message h.cycle e)).broadcast ≡ Some now →
          (mark_of_entry (finished message h.cycle e)).broadcast ≡ None → ⊥
      was_sent some none = absurd (cc)

  pub bus_is_busy : (h : Hardware) → h.values.bus_width ≡ total → IsSound h → IsBusy total (broadcast h)
  bus_is_busy h width p =
      turns_within total Bus (IsBusy total) broadcast_turn
      (λ k g lt q.
      bus_leads k lt (broadcast_turn_is g) q
      (broadcast_turn_keeps (anything_is_kept v now) steps (broadcast_turn_is g) q.0))
      (λ g q. q.1) h.values.bus_width 0 h (omega (arith, width)) (
        p,
        EveryAfter-all (λ before m u waits. omega arith) [] (marks_in steps h)
            (Each-all (λ m. Unit {0}) (λ m. tt) (marks_in steps h)),
      )

-- at the end of each cycle, and so of the rows

sent_row : (c : ℕ) (x : Option Execution) → is_at c (until c (broadcast_of_execution x)) ≡ true →
    passes (λ y. y.broadcast == c) x ≡ true
sent_row c x h = grind arith

busy_marks : {v : Values} {steps : List Step} {h : Hardware} → History v steps h → (c : ℕ) → c < h.cycle →
    EveryAfter (BusyBus v.bus_width c) [] (as_of c (map mark_of_row (rows_of steps)))
busy_marks {v} history =
    rows_obey_after v (BusyBus v.bus_width)
    (λ earlier old new lines report before after passed.
    let all : List Step = earlier ++ report.steps in
    let legal = history_is_legal before in
    let now : ℕ = old.cycle in
    let h : Hardware = issued_all lines old in
    let issued = before_broadcast (with_marks Anything tt passed.issues) in
    let busy = bus_is_busy v now v.bus_width all h
    (ap (λ (w : Values). w.bus_width) passed.issues.basics.always.sizes.values) issued in
    let g : Hardware = sent_all lines old in
    let sent = before_dispatch (with_marks (EveryAfter (BusyBus v.bus_width now) []) busy passed.sends) in
    let dispatched = dispatch_keeps (busy_is_kept v.bus_width v now) all sent in
    rw (passed.new_marks) (EveryAfter-append _ [] _ _ dispatched.marks
    (none_waits v.bus_width now (marks_in all (dispatching lines old).hardware) _
    (words_do_not_wait now passed.fetches.added))))
    history

bus_by : (v : Values) (c : ℕ) (before : List Row) (row : Row) {o : Option Execution} → row.execution ≡ o →
    BusyBus v.bus_width c (as_of c (map mark_of_row before)) (at_end c (mark_of_row row)) →
    IfSome o (λ x. x.issued + x.cost ≤ c → c < x.broadcast → v.bus_width ≤ count_by (is_broadcast_in c) before)
bus_by v c before row given busy = grind (arith, le-leb, until_now, after_count, Each-all, sent_row, and_second)

in_cycle : {v : Values} (c : ℕ) {bound : ℕ} {row : Row} {o : Option Execution} → row.execution ≡ o →
    SoundRow v bound row → IfSome o (λ x. x.issued + x.cost ≤ c → c < x.broadcast → (row.fetched ≤ c) × (c < bound))
in_cycle c given sound = grind arith

-- the field `no_idle_bus` of `Laws`, of every run
pub law_of_no_idle_bus : {v : Values} {earlier steps : List Step} {old new : Hardware} →
    RunsOn v earlier steps old new → EachAfter (LeavesNoBusIdle v.bus_width old.cycle) (rows_of steps)
law_of_no_idle_bus {v} {earlier} {old = old} run before after row at = by_execution row.execution refl
  where
    by_execution : (o : Option Execution) → row.execution ≡ o →
        IfSome o (λ x. (c : ℕ) → old.cycle ≤ c → x.issued + x.cost ≤ c → c < x.broadcast →
        v.bus_width ≤ count_by (is_broadcast_in c) before)
    by_execution None e = tt
    by_execution (Some x) e = λ c from ready later.
        let here = in_cycle c e (row_of_run run before after row at) ready later in
        let busy = after_law (BusyBus v.bus_width c) c (rows_of earlier ++ before) after row
        (busy_marks run.all c here.1) (row_of_all run before after row at) here.0 in
        let wide = bus_by v c (rows_of earlier ++ before) row e busy ready later in
        let same = none_earlier run (sent_shows v) c from before in
        omega (arith, wide, same)
