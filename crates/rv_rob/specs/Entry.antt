use Rattle.std.specs.Prelude.{ℕ, Option, None, Some}
use Rattle.rv_isa.specs.declared.{Issue.Issue, Message.Message}
use Rattle.rv_rob.specs.declared.entry.{Entry.Entry, Stage.Stage}
use Rattle.rv_rob.specs.declared.entry.Stage.TheVariants.{Waiting, Running, Finished}

-- the start of an execution, where there was one
abbrev pub issue_of : Stage → Option Issue
issue_of Waiting = None
issue_of (Running issue message) = Some issue
issue_of (Finished issue cycle message) = issue

-- the entry once its instruction has left its station, with the message that it will broadcast
abbrev pub started : Issue → Message → Entry → Entry
started issue message e = record e { stage = Running issue message }

-- the entry once its result is known, with the whole message and the cycle
abbrev pub finished : Message → ℕ → Entry → Entry
finished message cycle e = record e { stage = Finished (issue_of e.stage) cycle message }

-- the stage of an execution once its message is broadcast in a cycle; any other stays as it is
abbrev pub ended : ℕ → Stage → Stage
ended cycle Waiting = Waiting
ended cycle (Running issue message) = Finished (Some issue) cycle message
ended cycle (Finished issue broadcast message) = Finished issue broadcast message

-- the entry once the message that it carries is broadcast in a cycle
abbrev pub broadcast_in : ℕ → Entry → Entry
broadcast_in cycle e = record e { stage = ended cycle e.stage }

-- the entry with this predicted next pc
abbrev pub predicting : ℕ → Entry → Entry
predicting next_pc e = record e { predicted_next = next_pc }
