-- A turn of the broadcast phase finds no result, or broadcasts the oldest, and early recovery may squash the younger.
use Rattle.rv_hardware.proofs.Words.{◌≡◌, ℕ, ◌+◌, ◌≤◌, Bool, true, false, cond, not, ◌&&◌, List, [], ◌∷◌, ◌++◌, length}
use Rattle.rv_hardware.proofs.Words.{is_none, nat_le, Some, None, Option, sym, refl, subst, leb-true, Message, Issue}
use Rattle.rv_hardware.proofs.Words.{finished, predicting, Entry, Stage, Running, broadcast_oldest, broadcast_result}
use Rattle.rv_hardware.proofs.Words.{broadcast_turn, has_result, is_mispredicted, mends_early, result_at}
use Rattle.rv_hardware.proofs.Words.{with_broadcast, with_recovery, Hardware, oldest, Ends, GoesOn, Turn, EveryAfter}
use Rattle.rv_hardware.proofs.Words.{arith}
use Rattle.rv_hardware.proofs.Oldest.{Finds, oldest_finds, with_entry-at, entries_below-at}

-- the result of an execution that is over
pub record HasResult (cycle : ℕ) (st : Stage) : Type 0 where
  pub issue : Issue
  pub message : Message
  pub runs : st ≡ Running issue message
  pub over : issue.cycle + issue.cost ≤ cycle
  pub result : result_at cycle st ≡ Some message

running_result : (b : Bool) (cycle : ℕ) (issue : Issue) (message : Message) →
    nat_le (issue.cycle + issue.cost) cycle ≡ b → not (is_none (cond b (Some message) None)) ≡ true →
    HasResult cycle (Running issue message)
running_result b cycle issue message is some = grind (arith, leb-true)

pub result_cases : (cycle : ℕ) (st : Stage) → not (is_none (result_at cycle st)) ≡ true → HasResult cycle st
result_cases cycle st some = grind (arith, running_result)

-- its execution gave a message and is over
pub record HasRun (cycle : ℕ) (st : Stage) (message : Message) : Type 0 where
  pub issue : Issue
  pub runs : st ≡ Running issue message
  pub over : issue.cycle + issue.cost ≤ cycle

-- what a broadcast finds
pub record Sends (h : Hardware) (older younger : List Entry) (e : Entry) (issue : Issue)
    (message : Message) : Type 0 where
  pub place : h.rob.entries ≡ older ++ e ∷ younger
  pub runs : e.stage ≡ Running issue message
  pub over : issue.cycle + issue.cost ≤ h.cycle
  pub oldest_one : EveryAfter (λ before x. has_result h.cycle before x ≡ false) [] older

-- the hardware once the instruction after some older ones was broadcast, and once early recovery mended it
abbrev pub once_sent : Hardware → List Entry → Message → Hardware
once_sent h older message = with_broadcast (h.rob.retired + length older) message h

abbrev pub once_mended : Hardware → List Entry → Message → Hardware
once_mended h older message = with_recovery (h.rob.retired + length older) message (once_sent h older message)

-- early recovery mends what this message shows to be predicted wrongly
abbrev pub mends_now : Hardware → Entry → Message → Bool
mends_now h e message = mends_early h.values.recovery && is_mispredicted e message

-- no result is ready, or the oldest is broadcast, and early recovery squashes what is younger
pub data BroadcastTurn (h : Hardware) : Turn Hardware → Type 0 where
  no_result : EveryAfter (λ before x. has_result h.cycle before x ≡ false) [] h.rob.entries → BroadcastTurn h (Ends h)
  sends : (older younger : List Entry) (e : Entry) (issue : Issue) (message : Message) →
      Sends h older younger e issue message → mends_now h e message ≡ false →
      BroadcastTurn h (GoesOn (once_sent h older message))
  mends : (older younger : List Entry) (e : Entry) (issue : Issue) (message : Message) →
      Sends h older younger e issue message → mends_now h e message ≡ true →
      BroadcastTurn h (Ends (once_mended h older message))

entry_turn : {h : Hardware} {older younger : List Entry} {e : Entry} {issue : Issue} {message : Message} →
    Sends h older younger e issue message → (b : Bool) → mends_now h e message ≡ b →
    BroadcastTurn h (cond b (Ends (once_mended h older message)) (GoesOn (once_sent h older message)))
entry_turn {older} {younger} {e} {issue} {message} is true early = mends older younger e issue message is early
entry_turn {older} {younger} {e} {issue} {message} is false early = sends older younger e issue message is early

found_turn : (h : Hardware) (found : Option (List Entry × Entry)) → Finds (has_result h.cycle) h.rob.entries found →
    BroadcastTurn h (broadcast_oldest h found)
found_turn h None finds = no_result finds
found_turn h (Some found) finds =
    let held = result_cases h.cycle found.1.stage finds.2 in
    let is : Sends h found.0 finds.0 found.1 held.issue held.message =
    record { place = finds.1; runs = held.runs; over = held.over; oldest_one = finds.3 } in
    subst (λ r. BroadcastTurn h (broadcast_result h (h.rob.retired + length found.0) found.1 r)) (sym held.result)
    (entry_turn is (mends_now h found.1 held.message) refl)

-- what the definition's turn of the broadcast phase leaves is one of these outcomes
pub broadcast_turn_is : (h : Hardware) → BroadcastTurn h (broadcast_turn h)
broadcast_turn_is h =
    found_turn h (oldest (has_result h.cycle) h.rob.entries) (oldest_finds (has_result h.cycle) h.rob.entries)

-- the entry that is broadcast is the one that changes
pub sent_entries : (h : Hardware) (older younger : List Entry) (e : Entry) (message : Message) →
    h.rob.entries ≡ older ++ e ∷ younger →
    (once_sent h older message).rob.entries ≡ older ++ finished message h.cycle e ∷ younger
sent_entries h older younger e message given = grind (arith, with_entry-at)

-- after a broadcast that early recovery mends, the entries end with the instruction that was broadcast
pub mended_entries : (h : Hardware) (older younger : List Entry) (e : Entry) (message : Message) →
    h.rob.entries ≡ older ++ e ∷ younger →
    (once_mended h older message).rob.entries ≡ older ++ predicting message.next_pc (finished message h.cycle e) ∷ []
mended_entries h older younger e message given = grind (arith, sent_entries, with_entry-at, entries_below-at)
