-- The broadcast phase: the oldest results go on the common data bus.
use Rattle.std.specs.Prelude.{ℕ, ◌+◌, ◌==◌, ◌&&◌, not, nat_le, Bool, true, false}
use Rattle.std.specs.Prelude.{if◌then◌else◌, List, length, Option, Some, None, is_none}
use Rattle.rv_isa.specs.Instruction.{is_branch_or_jump}
use Rattle.rv_isa.specs.declared.{broadcast.Message.Message, values.Recovery.Recovery}
use Rattle.rv_isa.specs.declared.values.Recovery.TheVariants.{Commit, Early}
use Rattle.rv_rob.specs.Entry.{finished, predicting}
use Rattle.rv_rob.specs.ReorderBuffer.{changed, cut_from}
use Rattle.rv_rob.specs.declared.entry.{Entry.Entry, Stage.Stage}
use Rattle.rv_rob.specs.declared.entry.Stage.TheVariants.{Waiting, Running, Finished}
use Rattle.rv_hardware.specs.Hardware.{Hardware}
use Rattle.rv_hardware.specs.Issue.{oldest}
use Rattle.rv_hardware.specs.Repeated.{Turn, GoesOn, Ends, repeated}
use Rattle.rv_hardware.specs.Squash.{redirected}

-- the result of an execution that is over in a cycle
abbrev pub result_at : ℕ → Stage → Option Message
result_at cycle Waiting = None
result_at cycle (Running issue message) = if nat_le (issue.cycle + issue.cost) cycle then Some message else None
result_at cycle (Finished issue broadcast message) = None

-- the result of an entry can be broadcast in a cycle
abbrev pub has_result : ℕ → List Entry → Entry → Bool
has_result cycle older e = not (is_none (result_at cycle e.stage))

-- a wrong prediction is mended at its broadcast, not at commit
abbrev pub mends_early : Recovery → Bool
mends_early Commit = false
mends_early Early = true

-- a branch or a jump that does not fault, and goes on elsewhere than predicted
abbrev pub is_mispredicted : Entry → Message → Bool
is_mispredicted e message =
    is_branch_or_jump e.instruction && is_none message.fault && not (message.next_pc == e.predicted_next)

-- the instruction's result is broadcast
abbrev pub with_broadcast : ℕ → Message → Hardware → Hardware
with_broadcast seq message h = record h { rob = changed (finished message h.cycle) seq h.rob }

-- everything younger is squashed, and fetch begins anew where the instruction goes on
abbrev pub with_recovery : ℕ → Message → Hardware → Hardware
with_recovery seq message h = record h {
  rob = cut_from (seq + 1) (changed (predicting message.next_pc) seq h.rob);
  front = redirected message.next_pc h.front;
}

-- the broadcast of an entry: a wrong prediction that is mended early ends the phase
abbrev pub broadcast_entry : Hardware → ℕ → Entry → Message → Turn Hardware
broadcast_entry h seq e message =
    if mends_early h.values.recovery && is_mispredicted e message
    then Ends (with_recovery seq message (with_broadcast seq message h))
    else GoesOn (with_broadcast seq message h)

-- the broadcast of an entry whose result is there
abbrev pub broadcast_result : Hardware → ℕ → Entry → Option Message → Turn Hardware
broadcast_result h seq e None = Ends h
broadcast_result h seq e (Some message) = broadcast_entry h seq e message

-- the broadcast of the oldest result, if there is one
abbrev pub broadcast_oldest : Hardware → Option (List Entry × Entry) → Turn Hardware
broadcast_oldest h None = Ends h
broadcast_oldest h (Some found) =
    broadcast_result h (h.rob.retired + length found.0) found.1 (result_at h.cycle found.1.stage)

-- one turn: the oldest result; with early recovery a wrong prediction ends the phase
abbrev pub broadcast_turn : Hardware → Turn Hardware
broadcast_turn h = broadcast_oldest h (oldest (has_result h.cycle) h.rob.entries)

-- the broadcast phase: as many turns as the bus is wide
abbrev pub broadcast : Hardware → Hardware
broadcast h = repeated broadcast_turn h.values.bus_width h
