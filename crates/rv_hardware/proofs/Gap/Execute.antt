-- No phase after commit changes what was described, and the stage of the oldest bounds the patience in the next cycle.
use Rattle.rv_hardware.proofs.Words.{◌≡◌, ℕ, ◌+◌, ◌≤◌, false, List, ◌∷◌, Option, sym, refl, ap, ◌∙◌, subst, true≢false}
use Rattle.rv_hardware.proofs.Words.{arith, is_serialising, Message, Instr, Issue, Each, finished, issue_of, predicting}
use Rattle.rv_hardware.proofs.Words.{Entry, Stage, Finished, FetchBuffer, broadcast, broadcast_turn, execute, dispatch}
use Rattle.rv_hardware.proofs.Words.{drain, Hardware, is_waiting, issue, Leaves}
use Rattle.rv_hardware.proofs.Marks.Cited.{drain-keeps, issue-keeps, HasRun, IsKeptByBroadcast, broadcast-keeps}
use Rattle.rv_hardware.proofs.Marks.Cited.{broadcast_turn-keeps, SameAs, same-kept, execute-keeps, IsKeptByDispatch}
use Rattle.rv_hardware.proofs.Marks.Cited.{dispatch-keeps, longest_execution, AreEnding, Ending, EndsBy}
use Rattle.rv_hardware.proofs.Gap.Head.{HasBegun, HeadIs, Waits, head-change, head-cut, head-push, IsAnywhere}
use Rattle.rv_hardware.proofs.Gap.Patience.{flight_time, head_time, patience, stage_time}

-- the next cycle begins
abbrev pub later : FetchBuffer → Hardware → Hardware
later front h = record h { front = front; cycle = h.cycle + 1 }

-- so the phases from drain to dispatch do not
pub execute-same : (h : Hardware) → SameAs h.values h.cache.values h.cycle (execute h).hardware
execute-same h = execute-keeps (same-kept h.values h.cache.values h.cycle) h (refl, refl, refl)

-- nor do drain and issue
pub issued-same : (h : Hardware) → SameAs h.values h.cache.values h.cycle (issue (drain h))
issued-same h =
    let kept = same-kept h.values h.cache.values h.cycle in
    issue-keeps (SameAs h.values h.cache.values h.cycle) kept.issue (drain h)
    (drain-keeps kept.drain h (refl, refl, refl))

-- nor does broadcast change the cycle's number
broadcast-same : (h : Hardware) → (broadcast h).cycle ≡ h.cycle
broadcast-same h = (broadcast-keeps (same-kept h.values h.cache.values h.cycle).broadcast h (refl, refl, refl)).2

-- in the next cycle the longest execution is the same
pub same-longest : (h : Hardware) (front : FetchBuffer) →
    longest_execution (later front (execute h).hardware) ≡ longest_execution h
same-longest h front = grind (arith, execute-same)

-- ---- the oldest instruction in the phases after issue
module _ (instruction : Option Instr) {R : Stage → Type 0} {cycle : ℕ}
    (closed : (stage : Stage) (message : Message) (issue : Option Issue) → HasRun cycle stage message → R stage →
    R (Finished issue cycle message)) where
  abbrev HasHead : Hardware → Type 0
  HasHead h = HeadIs instruction R h.rob.entries × (h.cycle ≡ cycle)

  head_broadcast : IsKeptByBroadcast HasHead
  head_broadcast = record {
    broadcasts = λ h older younger e message head split gives. (
      head-change instruction R older younger e (finished message h.cycle e) refl
          (λ same before.
          subst (λ c. R (Finished (issue_of e.stage) c message)) (sym head.1)
          (closed e.stage message (issue_of e.stage) (subst (λ c. HasRun c e.stage message) head.1 gives) before))
          (subst (HeadIs instruction R) split head.0),
      head.1,
    );
    mends = λ h older younger e next head split. (
      head-cut instruction R older younger e (predicting next e) refl refl (subst (HeadIs instruction R) split head.0),
      head.1,
    );
  }

  head_dispatch : IsKeptByDispatch HasHead
  head_dispatch = grind (arith, head-push)

  -- the dispatch phase leaves the oldest instruction as it was
  pub head-dispatched : (h : Hardware) → HeadIs instruction R h.rob.entries → h.cycle ≡ cycle →
      HeadIs instruction R (dispatch h).hardware.rob.entries
  head-dispatched h head is = (dispatch-keeps head_dispatch h (head, is)).0

  -- the broadcast phase leaves the oldest instruction in such a stage
  head-broadcasted : (h : Hardware) → HeadIs instruction R h.rob.entries → h.cycle ≡ cycle →
      HeadIs instruction R (broadcast h).rob.entries
  head-broadcasted h head is = (broadcast-keeps head_broadcast h (head, is)).0

  -- a turn of the broadcast phase does
  pub head-turn : (h : Hardware) → HasHead h → Leaves HasHead (broadcast_turn h)
  head-turn h has = broadcast_turn-keeps head_broadcast h has

-- the phases after issue leave the oldest instruction in such a stage
pub head-executed : (instruction : Option Instr) {R : Stage → Type 0} (h : Hardware) →
    ((stage : Stage) (message : Message) (issue : Option Issue) → HasRun h.cycle stage message → R stage →
    R (Finished issue h.cycle message)) →
    HeadIs instruction R (issue (drain h)).rob.entries → HeadIs instruction R (execute h).hardware.rob.entries
head-executed instruction {R} h closed head =
    let issued : Hardware = issue (drain h) in
    let number : issued.cycle ≡ h.cycle = (issued-same h).2 in
    head-dispatched instruction closed (broadcast issued)
    (head-broadcasted instruction closed issued head number) (broadcast-same issued ∙ number)

-- ---- its patience in the cycle after
plain_time : (h : Hardware) (instruction : Option Instr) (stage : Stage) → is_serialising instruction ≡ false →
    head_time h instruction stage ≡ stage_time h instruction stage
plain_time h instruction stage plain = grind arith

module _ (h : Hardware) (instruction : Option Instr) (R : Stage → Type 0) (most limit : ℕ) where
  head_in : (entries : List Entry) →
      ((stage : Stage) → R stage → EndsBy limit stage → head_time h instruction stage ≤ most) →
      HeadIs instruction R entries → Each (Ending limit) entries → flight_time h entries ≤ most
  head_in entries bound head ends = grind arith

  -- the patience is no greater than what the oldest instruction's stage allows
  pub head-patience : ((stage : Stage) → R stage → EndsBy limit stage → head_time h instruction stage ≤ most) →
      HeadIs instruction R h.rob.entries → Each (Ending limit) h.rob.entries → patience h ≤ most
  head-patience bound head ends = head_in _ bound head ends

  -- the same, where the oldest does not serialise
  pub plain-patience : is_serialising instruction ≡ false →
      ((stage : Stage) → R stage → EndsBy limit stage → stage_time h instruction stage ≤ most) →
      HeadIs instruction R h.rob.entries → Each (Ending limit) h.rob.entries → patience h ≤ most
  plain-patience plain bound head ends = grind (arith, head-patience, plain_time)

-- the patience of hardware with a given oldest instruction
pub plain-head : (h : Hardware) (e : Entry) (es : List Entry) → h.rob.entries ≡ e ∷ es →
    is_serialising e.instruction ≡ false → patience h ≡ stage_time h e.instruction e.stage
plain-head h e es split plain = ap (flight_time h) split ∙ plain_time h e.instruction e.stage plain

-- where it has begun, it is over within the longest execution
pub begun_stage : (h : Hardware) (instruction : Option Instr) (stage : Stage) → HasBegun stage →
    EndsBy (h.cycle + longest_execution h) stage → stage_time h instruction stage ≤ longest_execution h + 1
begun_stage h instruction stage given ends = grind arith

-- where the oldest has begun its execution, the patience is the longest execution's time and one at most
pub begun-patience : (h : Hardware) (instruction : Option Instr) → is_serialising instruction ≡ false →
    HeadIs instruction HasBegun h.rob.entries → AreEnding h → patience h ≤ longest_execution h + 1
begun-patience h instruction plain head ends = grind (arith, plain-patience, begun_stage)

-- ---- stages and results
-- a result leaves any stage in one
pub anywhere_closed : {cycle : ℕ} (stage : Stage) (message : Message) (issue : Option Issue) →
    HasRun cycle stage message → IsAnywhere stage → IsAnywhere (Finished issue cycle message)
anywhere_closed stage message issue gives is = tt

-- what has begun and gives a result has begun
pub begun_closed : (cycle : ℕ) (stage : Stage) (message : Message) (issue : Option Issue) → HasRun cycle stage message →
    HasBegun stage → HasBegun (Finished issue cycle message)
begun_closed cycle stage message issue gives begun = refl

-- an instruction that waits gives no result
pub waits_closed : (cycle : ℕ) (stage : Stage) (message : Message) (issue : Option Issue) → HasRun cycle stage message →
    Waits stage → Waits (Finished issue cycle message)
waits_closed cycle stage message issue gives waits = absurd (true≢false (sym waits ∙ ap is_waiting gives.runs))
