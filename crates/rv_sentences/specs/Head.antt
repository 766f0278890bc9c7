-- The instruction that a cycle of a run is on account of, by the head of the reorder buffer: the one there; where the
-- buffer is empty since a flush, the one that flushed it.
use Rattle.std.specs.Prelude.{ℕ, ◌||◌, Bool, if◌then◌else◌, List, [], ◌∷◌, is_none, is_some, Option, Some, None}
use Rattle.std.specs.List.{slice_get}
use Rattle.std.specs.Option.{option_map, option_or}
use Rattle.rv_isa.specs.Instruction.{is_serialising}
use Rattle.rv_memory.specs.Memory.{word_of}
use Rattle.rv_rob.specs.declared.entry.Entry.{Entry}
use Rattle.rv_hardware.specs.Hardware.{Hardware}
use Rattle.rv_hardware.specs.History.{Moment}
use Rattle.rv_passage.specs.Prediction.{is_mispredicted}
use Rattle.rv_passage.specs.Table.{still_open}
use Rattle.rv_passage.specs.Walk.{FollowedCycle, walk}
use Rattle.rv_passage.specs.declared.passage.{Ending.Ending, Passage.Passage}
use Rattle.rv_passage.specs.declared.passage.Ending.TheVariants as ending

-- the word of the instruction at the head, if there is one
abbrev pub head_word : Hardware → Option ℕ
head_word h = option_map (λ (e : Entry). word_of e.pc) (slice_get h.rob.entries 0)

-- what was fetched after an instruction that retired is squashed: it is serialising, or was mispredicted
abbrev pub flushes : Passage → Bool
flushes p = is_serialising p.instruction || is_mispredicted p

-- the word of the last instruction that retired or trapped, if it flushed the buffer, with one instruction more, which ended so
abbrev pub flusher_with : Ending → Passage → Option ℕ → Option ℕ
flusher_with ending.InFlight p before = before
flusher_with (ending.Retired order cycle written next) p before = if flushes p then Some (word_of p.pc) else None
flusher_with (ending.Trapped cycle cause) p before = Some (word_of p.pc)
flusher_with (ending.Squashed cycle) p before = before

-- with several more
abbrev pub flusher_after : List Passage → Option ℕ → Option ℕ
flusher_after [] before = before
flusher_after (p ∷ ps) before = flusher_after ps (flusher_with p.ending p before)

-- the word that a cycle is on account of which left such hardware, by what had flushed the buffer if it was empty before
abbrev pub account_of : Hardware → List Passage → Option ℕ → Option ℕ
account_of after rows before = option_or (head_word after) (flusher_after rows before)

-- what had flushed the buffer if it is empty then
abbrev pub flusher_in : Hardware → List Passage → Option ℕ → Option ℕ
flusher_in after rows before = if is_some (head_word after) then None else flusher_after rows before

-- after several cycles
abbrev pub last_flusher : Option ℕ → List FollowedCycle → Option ℕ
last_flusher before [] = before
last_flusher before (cycle ∷ cycles) = last_flusher (flusher_in cycle.after cycle.passages.rows before) cycles

-- the words that each of them is on account of
abbrev pub accounts_from : Option ℕ → List FollowedCycle → List (Option ℕ)
accounts_from before [] = []
accounts_from before (cycle ∷ cycles) =
    account_of cycle.after cycle.passages.rows before
    ∷ accounts_from (flusher_in cycle.after cycle.passages.rows before) cycles

-- those of a run
abbrev pub accounts_of : Hardware → List Moment → List (Option ℕ)
accounts_of h moments = accounts_from None (walk still_open h moments)

abbrev pub flusher_of : Hardware → List Moment → Option ℕ
flusher_of h moments = last_flusher None (walk still_open h moments)

-- the word that it is
abbrev pub itself : Option ℕ → Option ℕ
itself account = account

-- the cycles that are on account of no instruction
abbrev pub is_idle : Option ℕ → Bool
is_idle account = is_none account
