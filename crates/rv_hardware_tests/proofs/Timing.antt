-- Stamps and reasons of stalls of short programs, worked out by hand.
-- A row: pc, word, the written register and its value, the cycles of fetch, dispatch and issue, the cost, the cycles of
-- broadcast and retirement. One that is serialised has no unit, so neither issue, cost nor broadcast.
use Rattle.rv_hardware.proofs.Words.{[], ◌∷◌, false, Some, None, refl}
use Rattle.rv_isa.specs.Csr as csr
use Rattle.rv_isa.specs.declared.causes.Cause.TheVariants.{InstructionAccessFault, IllegalInstruction, LoadAccessFault}
use Rattle.rv_isa.specs.declared.causes.Cause.TheVariants.{StoreAddressMisaligned}
use Rattle.rv_isa.specs.declared.operations.Kind.TheVariants as kind
use Rattle.rv_decode.specs.Decodes.{instruction_of}
use Rattle.rv_decode.specs.InstructionTable.{table}
use Rattle.rv_hardware.specs.declared.report.Stall.TheVariants as stall
use Rattle.rv_hardware.specs.declared.step.Step.TheVariants.{Trap}
use Rattle.rv_hardware_tests.proofs.Programs.{breakpoint, early, ebreak, executed, machine, machine_with, serialised}
use Rattle.rv_hardware_tests.proofs.Reports.{Reports, WaitsFor, computed, waits}

-- addi x1,x0,5 on a machine of width 1
one_instruction_on_a_narrow_machine : Reports
    (record (machine_with kind.Alu (record machine.kinds.alu { units = 1 }))
    { fetch_width = 1; dispatch_width = 1; commit_width = 1; bus_width = 1 })
    (0x00500093 ∷ ebreak ∷ []) 6
    (executed 0x80000000 0x00500093 (Some (1, 5)) 0 1 2 1 3 4 ∷
    breakpoint 0x80000004 5)
unfolding instruction_of table
one_instruction_on_a_narrow_machine = computed [] refl refl refl

-- a dependent instruction issues in the cycle after its operand's broadcast
dependent_instruction_waits : Reports machine
    (0x00100093 ∷ 0x00108113 ∷ ebreak ∷ []) 7
    (executed 0x80000000 0x00100093 (Some (1, 1)) 0 1 2 1 3 4 ∷
    executed 0x80000004 0x00108113 (Some (2, 2)) 0 1 4 1 5 6 ∷
    breakpoint 0x80000008 6)
unfolding instruction_of table
dependent_instruction_waits = computed [] refl refl refl

-- a division of 8 cycles; what is younger is broadcast before it and retires after it
younger_result_comes_first : Reports (machine_with kind.Div (record machine.kinds.div { latency = 8 }))
    (0x020042b3 ∷ 0x00100313 ∷ ebreak ∷ []) 13
    (executed 0x80000000 0x020042b3 (Some (5, 4294967295)) 0 1 2 8 10 11 ∷
    executed 0x80000004 0x00100313 (Some (6, 1)) 0 1 2 1 3 11 ∷
    breakpoint 0x80000008 12)
unfolding instruction_of table
younger_result_comes_first = computed [] refl refl refl

-- two results on a bus of width 1
narrow_bus_sends_the_older_result_first : Reports (record machine { bus_width = 1 })
    (0x00100093 ∷ 0x00200113 ∷ ebreak ∷ []) 6
    (executed 0x80000000 0x00100093 (Some (1, 1)) 0 1 2 1 3 4 ∷
    executed 0x80000004 0x00200113 (Some (2, 2)) 0 1 2 1 4 5 ∷
    breakpoint 0x80000008 5)
unfolding instruction_of table
narrow_bus_sends_the_older_result_first = computed [] refl refl refl

-- a load that misses the cache keeps the port; the next one hits
load_misses_and_the_next_one_hits : Reports machine
    (0x800012b7 ∷ 0x0002a383 ∷ 0x0042a403 ∷ ebreak ∷ []) 18
    (executed 0x80000000 0x800012b7 (Some (5, 2147487744)) 0 1 2 1 3 4 ∷
    executed 0x80000004 0x0002a383 (Some (7, 0)) 0 1 4 11 15 16 ∷
    executed 0x80000008 0x0042a403 (Some (8, 0)) 1 2 15 1 16 17 ∷
    breakpoint 0x8000000c 17)
unfolding instruction_of table
load_misses_and_the_next_one_hits = computed [] refl refl refl

-- a load leaves its line clean: in a cache of one line the next line costs no write-back
load_drops_a_clean_line : Reports (record machine { cache = record machine.cache { sets = 1; ways = 1 } })
    (0x800012b7 ∷ 0x0002a383 ∷ 0x0402a403 ∷ ebreak ∷ []) 28
    (executed 0x80000000 0x800012b7 (Some (5, 2147487744)) 0 1 2 1 3 4 ∷
    executed 0x80000004 0x0002a383 (Some (7, 0)) 0 1 4 11 15 16 ∷
    executed 0x80000008 0x0402a403 (Some (8, 0)) 1 2 15 11 26 27 ∷
    breakpoint 0x8000000c 27)
unfolding instruction_of table
load_drops_a_clean_line = computed [] refl refl refl

-- lui x5,0x80010 and lw x7,0(x5): a load outside RAM costs the latency of its kind
load_outside_memory_costs_the_latency : Reports
    (record (machine_with kind.Mem (record machine.kinds.mem { latency = 7 })) { forward = 3 })
    (0x800102b7 ∷ 0x0002a383 ∷ ebreak ∷ []) 13
    (executed 0x80000000 0x800102b7 (Some (5, 0x80010000)) 0 1 2 1 3 4 ∷
    Trap 0x80000004 LoadAccessFault 0x80010000 12 ∷
    [])
unfolding instruction_of table
load_outside_memory_costs_the_latency = computed [] refl refl refl

-- a load takes its bytes from the store before it
store_is_forwarded_to_a_load : Reports machine
    (0x800012b7 ∷ 0x00700313 ∷ 0x0062a023 ∷ 0x0002a383 ∷ ebreak ∷ []) 9
    (executed 0x80000000 0x800012b7 (Some (5, 2147487744)) 0 1 2 1 3 4 ∷
    executed 0x80000004 0x00700313 (Some (6, 7)) 0 1 2 1 3 4 ∷
    executed 0x80000008 0x0062a023 None 1 2 4 1 5 6 ∷
    executed 0x8000000c 0x0002a383 (Some (7, 7)) 1 2 6 1 7 8 ∷
    breakpoint 0x80000010 8)
unfolding instruction_of table
store_is_forwarded_to_a_load = computed (0x80001000 ∷ []) refl refl refl

-- beq x0,x0 by 8 is predicted not to be taken
wrong_prediction_is_mended_at_retirement : Reports machine
    (0x00000463 ∷ 0 ∷ ebreak ∷ []) 7
    (executed 0x80000000 0x00000463 None 0 1 2 1 3 4 ∷
    breakpoint 0x80000008 6)
unfolding instruction_of table
wrong_prediction_is_mended_at_retirement = computed [] refl refl refl

-- the same with early recovery
wrong_prediction_is_mended_at_broadcast : Reports early
    (0x00000463 ∷ 0 ∷ ebreak ∷ []) 6
    (executed 0x80000000 0x00000463 None 0 1 2 1 3 4 ∷
    breakpoint 0x80000008 5)
unfolding instruction_of table
wrong_prediction_is_mended_at_broadcast = computed [] refl refl refl

-- lui x5,0x80000 and jalr x0,12(x5), whose target is known at its broadcast
jump_to_a_register_is_mended_at_broadcast : Reports early
    (0x800002b7 ∷ 0x00c28067 ∷ 0 ∷ ebreak ∷ []) 8
    (executed 0x80000000 0x800002b7 (Some (5, 0x80000000)) 0 1 2 1 3 4 ∷
    executed 0x80000004 0x00c28067 None 0 1 4 1 5 6 ∷
    breakpoint 0x8000000c 7)
unfolding instruction_of table
jump_to_a_register_is_mended_at_broadcast = computed [] refl refl refl

-- no program: an illegal word, and then access faults at 0
empty_memory_traps_again_and_again : Reports machine
    [] 10
    (Trap 0x80000000 IllegalInstruction 0 2 ∷
    Trap 0 InstructionAccessFault 0 4 ∷
    Trap 0 InstructionAccessFault 0 6 ∷
    Trap 0 InstructionAccessFault 0 8 ∷
    [])
unfolding instruction_of table
empty_memory_traps_again_and_again = computed [] refl refl refl

-- a reorder buffer with one entry
reorder_buffer_of_one : Reports (record machine { rob = 1 })
    (0x00100093 ∷ ebreak ∷ []) 6
    (executed 0x80000000 0x00100093 (Some (1, 1)) 0 1 2 1 3 4 ∷
    breakpoint 0x80000004 5)
unfolding instruction_of table
reorder_buffer_of_one = computed [] refl refl refl

-- csrrs x5,mip,x0 after a division
serialising_instruction_waits_for_the_head : Reports machine
    (0x02004333 ∷ 0x344022f3 ∷ ebreak ∷ []) 22
    (executed 0x80000000 0x02004333 (Some (6, 4294967295)) 0 1 2 16 18 19 ∷
    serialised 0x80000004 0x344022f3 (Some (5, 0)) 0 1 19 ∷
    breakpoint 0x80000008 21)
unfolding instruction_of table csr.order
serialising_instruction_waits_for_the_head = computed [] refl refl refl

-- a wrong prediction after a division is mended when the branch retires
branch_beside_a_division : Reports machine
    (0x020042b3 ∷ 0x00000463 ∷ 0 ∷ ebreak ∷ []) 22
    (executed 0x80000000 0x020042b3 (Some (5, 4294967295)) 0 1 2 16 18 19 ∷
    executed 0x80000004 0x00000463 None 0 1 2 1 3 19 ∷
    breakpoint 0x8000000c 21)
unfolding instruction_of table
branch_beside_a_division = computed [] refl refl refl

-- or, with early recovery, when its result is broadcast
branch_beside_a_division_mended_early : Reports early
    (0x020042b3 ∷ 0x00000463 ∷ 0 ∷ ebreak ∷ []) 21
    (executed 0x80000000 0x020042b3 (Some (5, 4294967295)) 0 1 2 16 18 19 ∷
    executed 0x80000004 0x00000463 None 0 1 2 1 3 19 ∷
    breakpoint 0x8000000c 20)
unfolding instruction_of table
branch_beside_a_division_mended_early = computed [] refl refl refl

-- two stores into two lines, and FENCE.I, which waits for both and then for the write-back of both lines
fence_waits_for_stores_and_write_back : Reports machine
    (0x80000437 ∷ 0x02040413 ∷ 0x00842023 ∷ 0x04842023 ∷ 0x0000100f ∷ 0x00042483 ∷ ebreak ∷ []) 56
    (executed 0x80000000 0x80000437 (Some (8, 0x80000000)) 0 1 2 1 3 4 ∷
    executed 0x80000004 0x02040413 (Some (8, 0x80000020)) 0 1 4 1 5 6 ∷
    executed 0x80000008 0x00842023 None 1 2 6 1 7 8 ∷
    executed 0x8000000c 0x04842023 None 1 2 7 1 8 9 ∷
    serialised 0x80000010 0x0000100f None 2 3 51 ∷
    executed 0x80000014 0x00042483 (Some (9, 0x80000020)) 51 52 53 1 54 55 ∷
    breakpoint 0x80000018 55)
unfolding instruction_of table
fence_waits_for_stores_and_write_back = computed (0x80000020 ∷ 0x80000060 ∷ []) refl refl refl

-- a store queue with one place: the next store is dispatched when the one before it has left the cache's port
store_queue_of_one : Reports (record machine { store_queue = 1 })
    (0x80000437 ∷ 0x02040413 ∷ 0x00842023 ∷ 0x00842223 ∷ 0x00842423 ∷ ebreak ∷ []) 27
    (executed 0x80000000 0x80000437 (Some (8, 0x80000000)) 0 1 2 1 3 4 ∷
    executed 0x80000004 0x02040413 (Some (8, 0x80000020)) 0 1 4 1 5 6 ∷
    executed 0x80000008 0x00842023 None 1 2 6 1 7 8 ∷
    executed 0x8000000c 0x00842223 None 1 19 20 1 21 22 ∷
    executed 0x80000010 0x00842423 None 2 23 24 1 25 26 ∷
    breakpoint 0x80000014 26)
unfolding instruction_of table
store_queue_of_one = computed (0x80000020 ∷ 0x80000024 ∷ 0x80000028 ∷ []) refl refl refl

-- sw x5,2(x0): a store that faults costs the latency of its kind
store_that_faults_costs_the_latency : Reports (machine_with kind.Mem (record machine.kinds.mem { latency = 5 }))
    (0x00502123 ∷ []) 9
    (Trap 0x80000000 StoreAddressMisaligned 2 8 ∷
    [])
unfolding instruction_of table
store_that_faults_costs_the_latency = computed [] refl refl refl

-- a unit without a pipeline is held by a store for the latency of its kind, and by a load for what it costs
load_holds_its_unit_for_its_cost : Reports
    (machine_with kind.Mem (record machine.kinds.mem { latency = 8; pipelined = false }))
    (0x00000417 ∷ 0x02040413 ∷ 0x0252c3b3 ∷ 0x00542023 ∷ 0x00042303 ∷ 0x00042383 ∷ ebreak ∷ []) 23
    (executed 0x80000000 0x00000417 (Some (8, 0x80000000)) 0 1 2 1 3 4 ∷
    executed 0x80000004 0x02040413 (Some (8, 0x80000020)) 0 1 4 1 5 6 ∷
    executed 0x80000008 0x0252c3b3 (Some (7, 4294967295)) 1 2 3 16 19 20 ∷
    executed 0x8000000c 0x00542023 None 1 2 6 8 14 20 ∷
    executed 0x80000010 0x00042303 (Some (6, 0)) 2 3 15 1 16 21 ∷
    executed 0x80000014 0x00042383 (Some (7, 0)) 2 3 16 1 17 21 ∷
    breakpoint 0x80000018 22)
unfolding instruction_of table
load_holds_its_unit_for_its_cost = computed (0x80000020 ∷ []) refl refl refl

-- div x5,x6,x7, and two additions that wait for x5, with room for one: a full reorder buffer comes before full stations
full_reorder_buffer_comes_before_full_stations : WaitsFor
    (record (machine_with kind.Alu (record machine.kinds.alu { stations = 1 })) { rob = 2 })
    (0x027342b3 ∷ 0x00528433 ∷ 0x005404b3 ∷ ebreak ∷ []) 4
    (Some stall.Fetch ∷
    None ∷
    Some stall.Rob ∷
    Some stall.Rob ∷
    [])
unfolding instruction_of table
full_reorder_buffer_comes_before_full_stations = waits [] refl refl refl

-- two stores after a division, with room for one: full stations are the reason before a full store queue
full_stations_come_before_a_full_store_queue : WaitsFor
    (record (machine_with kind.Mem (record machine.kinds.mem { stations = 1 })) { store_queue = 1 })
    (0x00000417 ∷ 0x02040413 ∷ 0x027342b3 ∷ 0x00542023 ∷ 0x00542223 ∷ ebreak ∷ []) 4
    (Some stall.Fetch ∷
    None ∷
    None ∷
    Some stall.Station ∷
    [])
unfolding instruction_of table
full_stations_come_before_a_full_store_queue = waits [] refl refl refl

-- two stores: a full reorder buffer is the reason before a full store queue
full_reorder_buffer_comes_before_a_full_store_queue : WaitsFor (record machine { rob = 1; store_queue = 1 })
    (0x00002023 ∷ 0x00002023 ∷ ebreak ∷ []) 3
    (Some stall.Fetch ∷
    None ∷
    Some stall.Rob ∷
    [])
unfolding instruction_of table
full_reorder_buffer_comes_before_a_full_store_queue = waits [] refl refl refl

-- a division, and a CSR instruction that waits for it: that is the reason before the full reorder buffer
serialising_comes_before_a_full_reorder_buffer : WaitsFor (record machine { rob = 2 })
    (0x027342b3 ∷ 0x30501073 ∷ 0x00000013 ∷ ebreak ∷ []) 4
    (Some stall.Fetch ∷
    None ∷
    Some stall.Serial ∷
    Some stall.Serial ∷
    [])
unfolding instruction_of table csr.order
serialising_comes_before_a_full_reorder_buffer = waits [] refl refl refl

-- early recovery from beq x0,x0,8 empties the fetch buffer, which is the reason beside the full reorder buffer
empty_fetch_buffer_comes_before_a_full_reorder_buffer : WaitsFor (record early { rob = 1 })
    (0x00000463 ∷ 0x00000000 ∷ ebreak ∷ []) 5
    (Some stall.Fetch ∷
    None ∷
    Some stall.Rob ∷
    Some stall.Fetch ∷
    None ∷
    [])
unfolding instruction_of table
empty_fetch_buffer_comes_before_a_full_reorder_buffer = waits [] refl refl refl

-- jal x0,8 with early recovery
jump_is_mended_at_broadcast : Reports early
    (0x0080006f ∷ 0x00000000 ∷ ebreak ∷ []) 6
    (executed 0x80000000 0x0080006f None 0 1 2 1 3 4 ∷
    breakpoint 0x80000008 5)
unfolding instruction_of table
jump_is_mended_at_broadcast = computed [] refl refl refl

-- two divisions begin in one cycle on two units without a pipeline
two_divisions_take_two_units : Reports (machine_with kind.Div (record machine.kinds.div { units = 2 }))
    (0x027342b3 ∷ 0x02734433 ∷ ebreak ∷ []) 21
    (executed 0x80000000 0x027342b3 (Some (5, 0xffffffff)) 0 1 2 16 18 19 ∷
    executed 0x80000004 0x02734433 (Some (8, 0xffffffff)) 0 1 2 16 18 19 ∷
    breakpoint 0x80000008 20)
unfolding instruction_of table
two_divisions_take_two_units = computed [] refl refl refl

-- a division waits for a product, and a younger one takes the unit before it
younger_division_is_ready_first : Reports machine
    (0x027302b3 ∷ 0x0272c433 ∷ 0x027344b3 ∷ ebreak ∷ []) 38
    (executed 0x80000000 0x027302b3 (Some (5, 0x0)) 0 1 2 3 5 6 ∷
    executed 0x80000004 0x0272c433 (Some (8, 0xffffffff)) 0 1 19 16 35 36 ∷
    executed 0x80000008 0x027344b3 (Some (9, 0xffffffff)) 1 2 3 16 19 36 ∷
    breakpoint 0x8000000c 37)
unfolding instruction_of table
younger_division_is_ready_first = computed [] refl refl refl
