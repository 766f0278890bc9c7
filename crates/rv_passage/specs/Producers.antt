-- Whose results an instruction waits for.
use Rattle.std.specs.Prelude.{ℕ, ◌==◌, ◌&&◌, Bool, if◌then◌else◌, is_none, is_some}
use Rattle.std.specs.Prelude.{List, reverse, Option, Some, None, option_and_then}
use Rattle.std.specs.List.{find, slice_index_or}
use Rattle.std.specs.Option.{option_map, option_or}
use Rattle.rv_isa.specs.Instruction.{is_target, kind_of_word, target_of_word}
use Rattle.rv_isa.specs.Operands.{kind_of, sources_of}
use Rattle.rv_isa.specs.declared.instructions.Instr.{Instr}
use Rattle.rv_passage.specs.Passage.{is_in_flight, nothing_awaited}
use Rattle.rv_passage.specs.declared.{passage.Passage.Passage, producers.Producer.Producer}
use Rattle.rv_passage.specs.declared.{producers.Producers.Producers}

-- an instruction is in flight, and writes a register
abbrev pub is_writer : ℕ → Passage → Bool
is_writer register p = is_in_flight p && is_target register (target_of_word p.instruction)

-- its result is still to come: it uses a unit, and was not broadcast
abbrev pub is_to_come : Passage → Bool
is_to_come p = is_some (kind_of_word p.instruction) && is_none p.broadcast

-- it is waited for where its result is still to come
abbrev pub producer_by : ℕ → Passage → Option Producer
producer_by register p =
    if is_to_come p then Some (record { register = register; number = p.number; pc = p.pc; broadcast = None }) else None

-- the youngest of the older instructions in flight that writes a register, where its result is still to come
abbrev pub producer_among : List Passage → Option ℕ → Option Producer
producer_among older None = None
producer_among older (Some register) =
    option_and_then (producer_by register) (find (is_writer register) (reverse older))

-- a producer, where it is not the first one again
abbrev pub other_than : Option Producer → Producer → Option Producer
other_than None p = Some p
other_than (Some first) p = if first.number == p.number then None else Some p

-- the producers for the registers that are read
abbrev pub producers_for : List Passage → List (Option ℕ) → Producers
producers_for older sources =
    let first = producer_among older (slice_index_or sources 0 None) in
    record {
      first = first;
      second = option_and_then (other_than first) (producer_among older (slice_index_or sources 1 None));
    }

-- those of an instruction that is dispatched after the older ones; one that uses no unit waits for none
abbrev pub producers_among : List Passage → Option Instr → Producers
producers_among older None = nothing_awaited
producers_among older (Some instruction) =
    if is_some (kind_of instruction) then producers_for older (sources_of instruction) else nothing_awaited

-- the cycle of the broadcast of the instruction with a number
abbrev pub broadcast_among : List Passage → ℕ → Option ℕ
broadcast_among older number =
    option_and_then (λ (p : Passage). p.broadcast) (find (λ p. p.number == number) (reverse older))

-- a producer as it stands at the end of a later cycle
abbrev pub followed_in : List Passage → Producer → Producer
followed_in older producer =
    record producer { broadcast = option_or producer.broadcast (broadcast_among older producer.number) }

-- all of them
abbrev pub all_followed_in : List Passage → Producers → Producers
all_followed_in older producers =
    record {
      first = option_map (followed_in older) producers.first;
      second = option_map (followed_in older) producers.second;
    }

-- those of an instruction at the end of a cycle, as it stands now: they are noted in the cycle of its dispatch, and followed then
abbrev pub producers_now : List Passage → Passage → Passage → Producers
producers_now older now p =
    if is_some p.dispatched then all_followed_in older p.producers
    else if is_some now.dispatched then producers_among older now.instruction
    else nothing_awaited

-- it goes on as it stands now, under its number, with what was predicted at its fetch
abbrev pub standing_at : List Passage → Passage → Passage → Passage
standing_at older now p =
    record now { number = p.number; predicted = p.predicted; producers = producers_now older now p }
