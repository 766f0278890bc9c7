-- What loads and stores take from each other, from the cache and from its port.
-- A row: pc, word, the written register and its value, the cycles of fetch, dispatch and issue, the cost, the cycles of
-- broadcast and retirement. One that is serialised has no unit, so neither issue, cost nor broadcast.
use Rattle.rv_hardware.proofs.Words.{[], ◌∷◌, Some, None, refl, LoadAddressMisaligned}
use Rattle.rv_isa.specs.Csr as csr
use Rattle.rv_isa.specs.declared.operations.Kind.TheVariants as kind
use Rattle.rv_decode.specs.Decodes.{instruction_of}
use Rattle.rv_decode.specs.InstructionTable.{table}
use Rattle.rv_hardware.specs.declared.report.Stall.TheVariants as stall
use Rattle.rv_hardware_tests.proofs.Programs.{breakpoint, ebreak, executed, machine, machine_with, serialised}
use Rattle.rv_hardware_tests.proofs.Reports.{Reports, ReportsAt, WaitsFor, computed, waits}
use Rattle.rv_hardware.specs.declared.step.Step.TheVariants.{Trap}

-- a load gets each of its bytes from another store
load_takes_bytes_of_two_stores : Reports machine
    (0x00000417 ∷ 0x02040413 ∷ 0x0252c3b3 ∷ 0x00840023 ∷ 0x007400a3 ∷ 0x00045303 ∷ ebreak ∷ 0 ∷ 0x44332211 ∷ []) 25
    (executed 0x80000000 0x00000417 (Some (8, 0x80000000)) 0 1 2 1 3 4 ∷
    executed 0x80000004 0x02040413 (Some (8, 0x80000020)) 0 1 4 1 5 6 ∷
    executed 0x80000008 0x0252c3b3 (Some (7, 0xffffffff)) 1 2 3 16 19 20 ∷
    executed 0x8000000c 0x00840023 None 1 2 6 1 7 20 ∷
    executed 0x80000010 0x007400a3 None 2 3 20 1 21 22 ∷
    executed 0x80000014 0x00045303 (Some (6, 0xff20)) 2 3 22 1 23 24 ∷
    breakpoint 0x80000018 24)
unfolding instruction_of table
load_takes_bytes_of_two_stores = computed (0x80000020 ∷ []) refl refl refl

-- loads that are narrower than the store before them, at its front and at an offset
load_takes_bytes_of_a_wider_store : Reports machine
    (0x00000417 ∷ 0x02040413 ∷ 0x0252c3b3 ∷ 0x00842023 ∷ 0x00044303 ∷ 0x00245383 ∷ ebreak ∷ []) 23
    (executed 0x80000000 0x00000417 (Some (8, 0x80000000)) 0 1 2 1 3 4 ∷
    executed 0x80000004 0x02040413 (Some (8, 0x80000020)) 0 1 4 1 5 6 ∷
    executed 0x80000008 0x0252c3b3 (Some (7, 0xffffffff)) 1 2 3 16 19 20 ∷
    executed 0x8000000c 0x00842023 None 1 2 6 1 7 20 ∷
    executed 0x80000010 0x00044303 (Some (6, 0x20)) 2 3 8 1 9 21 ∷
    executed 0x80000014 0x00245383 (Some (7, 0x8000)) 2 3 9 1 10 21 ∷
    breakpoint 0x80000018 22)
unfolding instruction_of table
load_takes_bytes_of_a_wider_store = computed (0x80000020 ∷ []) refl refl refl

-- a load of which a store has one byte costs its access, and not what is forwarded
load_of_some_stored_bytes_costs_the_access : Reports (record machine { forward = 5 })
    (0x80001437 ∷ 0x028044b3 ∷ 0x008400a3 ∷ 0x07f40513 ∷ 0x00a40123 ∷ 0x00042283 ∷ ebreak ∷ []) 24
    (executed 0x80000000 0x80001437 (Some (8, 0x80001000)) 0 1 2 1 3 4 ∷
    executed 0x80000004 0x028044b3 (Some (9, 0x0)) 0 1 4 16 20 21 ∷
    executed 0x80000008 0x008400a3 None 1 2 4 1 5 21 ∷
    executed 0x8000000c 0x07f40513 (Some (10, 0x8000107f)) 1 2 4 1 5 22 ∷
    executed 0x80000010 0x00a40123 None 2 3 6 1 7 22 ∷
    executed 0x80000014 0x00042283 (Some (5, 0x7f0000)) 2 3 8 11 19 23 ∷
    breakpoint 0x80000018 23)
unfolding instruction_of table
load_of_some_stored_bytes_costs_the_access = computed (0x80001000 ∷ []) refl refl refl

-- of two lines the one that was used longest ago goes; it is dirty, and costs a write-back of 7 beside hit and miss
dirty_victim_costs_its_write_back : Reports
    (record machine { cache = record machine.cache { sets = 1; write_back = 7 } })
    (0x00000417 ∷ 0x02040413 ∷ 0x00042023 ∷ 0x340022f3 ∷ 0x04042303 ∷ 0x08042383 ∷ ebreak ∷ []) 50
    (executed 0x80000000 0x00000417 (Some (8, 0x80000000)) 0 1 2 1 3 4 ∷
    executed 0x80000004 0x02040413 (Some (8, 0x80000020)) 0 1 4 1 5 6 ∷
    executed 0x80000008 0x00042023 None 1 2 6 1 7 8 ∷
    serialised 0x8000000c 0x340022f3 (Some (5, 0x0)) 1 2 8 ∷
    executed 0x80000010 0x04042303 (Some (6, 0x0)) 8 9 19 11 30 31 ∷
    executed 0x80000014 0x08042383 (Some (7, 0x0)) 8 9 30 18 48 49 ∷
    breakpoint 0x80000018 49)
unfolding instruction_of table csr.order
dirty_victim_costs_its_write_back = computed (0x80000020 ∷ []) refl refl refl

-- two loads are ready in one cycle and two units idle, but the cache has one port
two_units_share_the_port : Reports (machine_with kind.Mem (record machine.kinds.mem { units = 2 }))
    (0x00000417 ∷ 0x02040413 ∷ 0x00042283 ∷ 0x34002373 ∷ 0x00042303 ∷ 0x00442383 ∷ ebreak ∷ 0 ∷ 1 ∷ 2 ∷ []) 24
    (executed 0x80000000 0x00000417 (Some (8, 0x80000000)) 0 1 2 1 3 4 ∷
    executed 0x80000004 0x02040413 (Some (8, 0x80000020)) 0 1 4 1 5 6 ∷
    executed 0x80000008 0x00042283 (Some (5, 0x1)) 1 2 6 11 17 18 ∷
    serialised 0x8000000c 0x34002373 (Some (6, 0x0)) 1 2 18 ∷
    executed 0x80000010 0x00042303 (Some (6, 0x1)) 18 19 20 1 21 22 ∷
    executed 0x80000014 0x00442383 (Some (7, 0x2)) 18 19 21 1 22 23 ∷
    breakpoint 0x80000018 23)
unfolding instruction_of table csr.order
two_units_share_the_port = computed [] refl refl refl

-- a store queue with two places: a retired store has one of them until its access is over
store_queue_of_two : Reports (record machine { store_queue = 2 })
    (0x80000437 ∷ 0x02040413 ∷ 0x00842023 ∷ 0x00842223 ∷ 0x00842423 ∷ ebreak ∷ []) 23
    (executed 0x80000000 0x80000437 (Some (8, 0x80000000)) 0 1 2 1 3 4 ∷
    executed 0x80000004 0x02040413 (Some (8, 0x80000020)) 0 1 4 1 5 6 ∷
    executed 0x80000008 0x00842023 None 1 2 6 1 7 8 ∷
    executed 0x8000000c 0x00842223 None 1 2 7 1 8 9 ∷
    executed 0x80000010 0x00842423 None 2 19 20 1 21 22 ∷
    breakpoint 0x80000014 22)
unfolding instruction_of table
store_queue_of_two = computed (0x80000020 ∷ 0x80000024 ∷ 0x80000028 ∷ []) refl refl refl

-- at reset the cache holds no line, not even the first one of RAM at 0
first_load_misses : ReportsAt 0 (record machine { ram_base = 0 })
    (0x00002283 ∷ ebreak ∷ []) 15
    (executed 0x00000000 0x00002283 (Some (5, 0x2283)) 0 1 2 11 13 14 ∷
    breakpoint 0x00000004 14)
unfolding instruction_of table
first_load_misses = computed [] refl refl refl

-- the word after a division is stored to, and its line is not written back: fetch reads FENCE.I, which RAM still has
fetch_reads_past_the_cache : WaitsFor machine
    (0x80000437 ∷ 0x01300493 ∷ 0x00942a23 ∷ 0x34002573 ∷ 0x020042b3 ∷ 0x0000100f ∷ []) 10
    (Some stall.Fetch ∷
    None ∷
    None ∷
    Some stall.Serial ∷
    Some stall.Serial ∷
    Some stall.Serial ∷
    Some stall.Fetch ∷
    None ∷
    Some stall.Serial ∷
    Some stall.Serial ∷
    [])
unfolding instruction_of table csr.order
fetch_reads_past_the_cache = waits (0x80000014 ∷ []) refl refl refl

-- a load waits for a sum, and a younger one takes the port before it
younger_load_is_ready_first : Reports machine
    (0x800012b7 ∷ 0x00028333 ∷ 0x00032403 ∷ 0x0402a483 ∷ ebreak ∷ []) 29
    (executed 0x80000000 0x800012b7 (Some (5, 0x80001000)) 0 1 2 1 3 4 ∷
    executed 0x80000004 0x00028333 (Some (6, 0x80001000)) 0 1 4 1 5 6 ∷
    executed 0x80000008 0x00032403 (Some (8, 0x0)) 1 2 15 11 26 27 ∷
    executed 0x8000000c 0x0402a483 (Some (9, 0x0)) 1 2 4 11 15 27 ∷
    breakpoint 0x80000010 28)
unfolding instruction_of table
younger_load_is_ready_first = computed [] refl refl refl

-- a load is ready in the cycle in which a store retires, which takes the port
retired_store_takes_the_port_before_a_load : Reports machine
    (0x800012b7 ∷ 0x0202f3b3 ∷ 0x0052a023 ∷ 0x0403a483 ∷ ebreak ∷ []) 45
    (executed 0x80000000 0x800012b7 (Some (5, 0x80001000)) 0 1 2 1 3 4 ∷
    executed 0x80000004 0x0202f3b3 (Some (7, 0x80001000)) 0 1 4 16 20 21 ∷
    executed 0x80000008 0x0052a023 None 1 2 4 1 5 21 ∷
    executed 0x8000000c 0x0403a483 (Some (9, 0x0)) 1 2 32 11 43 44 ∷
    breakpoint 0x80000010 44)
unfolding instruction_of table
retired_store_takes_the_port_before_a_load = computed (0x80001000 ∷ []) refl refl refl

-- two stores retire in one cycle
two_stores_retire_in_one_cycle : Reports machine
    (0x800012b7 ∷ 0x0202f3b3 ∷ 0x00000013 ∷ 0x0052a023 ∷ 0x0052a223 ∷ ebreak ∷ []) 24
    (executed 0x80000000 0x800012b7 (Some (5, 0x80001000)) 0 1 2 1 3 4 ∷
    executed 0x80000004 0x0202f3b3 (Some (7, 0x80001000)) 0 1 4 16 20 21 ∷
    executed 0x80000008 0x00000013 None 1 2 3 1 4 21 ∷
    executed 0x8000000c 0x0052a023 None 1 2 4 1 5 22 ∷
    executed 0x80000010 0x0052a223 None 2 3 5 1 6 22 ∷
    breakpoint 0x80000014 23)
unfolding instruction_of table
two_stores_retire_in_one_cycle = computed (0x80001000 ∷ 0x80001004 ∷ []) refl refl refl

-- a load that faults does not wait for the port, which the load before it has
faulting_load_does_not_wait_for_the_port : Reports machine
    (0x800012b7 ∷ 0x0002a303 ∷ 0x0012a383 ∷ []) 17
    (executed 0x80000000 0x800012b7 (Some (5, 0x80001000)) 0 1 2 1 3 4 ∷
    executed 0x80000004 0x0002a303 (Some (6, 0x0)) 0 1 4 11 15 16 ∷
    Trap 0x80000008 LoadAddressMisaligned 0x80001001 16 ∷
    [])
unfolding instruction_of table
faulting_load_does_not_wait_for_the_port = computed [] refl refl refl

-- of two lines, of which the first was used again, the second is dropped
line_used_longest_ago_is_dropped : Reports (record machine { cache = record machine.cache { sets = 1 } })
    (0x800012b7 ∷ 0x0002a303 ∷ 0x0102a383 ∷ 0x0002a403 ∷ 0x0202a483 ∷ 0x0002a503 ∷ ebreak ∷ []) 41
    (executed 0x80000000 0x800012b7 (Some (5, 0x80001000)) 0 1 2 1 3 4 ∷
    executed 0x80000004 0x0002a303 (Some (6, 0x0)) 0 1 4 11 15 16 ∷
    executed 0x80000008 0x0102a383 (Some (7, 0x0)) 1 2 15 11 26 27 ∷
    executed 0x8000000c 0x0002a403 (Some (8, 0x0)) 1 2 26 1 27 28 ∷
    executed 0x80000010 0x0202a483 (Some (9, 0x0)) 2 3 27 11 38 39 ∷
    executed 0x80000014 0x0002a503 (Some (10, 0x0)) 2 4 38 1 39 40 ∷
    breakpoint 0x80000018 40)
unfolding instruction_of table
line_used_longest_ago_is_dropped = computed [] refl refl refl

-- the same, where a store uses the first line again
store_that_hits_uses_its_line : Reports (record machine { cache = record machine.cache { sets = 1 } })
    (0x800012b7 ∷ 0x0002a303 ∷ 0x0102a383 ∷ 0x0052a023 ∷ 0x34002573 ∷ 0x0202a403 ∷ 0x0002a483 ∷ ebreak ∷
    []) 44
    (executed 0x80000000 0x800012b7 (Some (5, 0x80001000)) 0 1 2 1 3 4 ∷
    executed 0x80000004 0x0002a303 (Some (6, 0x0)) 0 1 4 11 15 16 ∷
    executed 0x80000008 0x0102a383 (Some (7, 0x0)) 1 2 15 11 26 27 ∷
    executed 0x8000000c 0x0052a023 None 1 2 5 1 6 27 ∷
    serialised 0x80000010 0x34002573 (Some (10, 0x0)) 2 3 28 ∷
    executed 0x80000014 0x0202a403 (Some (8, 0x0)) 28 29 30 11 41 42 ∷
    executed 0x80000018 0x0002a483 (Some (9, 0x80001000)) 28 29 41 1 42 43 ∷
    breakpoint 0x8000001c 43)
unfolding instruction_of table csr.order
store_that_hits_uses_its_line = computed (0x80001000 ∷ []) refl refl refl

-- two lines beside each other are held in two sets of one way
neighbouring_lines_have_their_own_sets : Reports
    (record machine { cache = record machine.cache { sets = 2; ways = 1 } })
    (0x800012b7 ∷ 0x0002a303 ∷ 0x0102a383 ∷ 0x0002a403 ∷ ebreak ∷ []) 29
    (executed 0x80000000 0x800012b7 (Some (5, 0x80001000)) 0 1 2 1 3 4 ∷
    executed 0x80000004 0x0002a303 (Some (6, 0x0)) 0 1 4 11 15 16 ∷
    executed 0x80000008 0x0102a383 (Some (7, 0x0)) 1 2 15 11 26 27 ∷
    executed 0x8000000c 0x0002a403 (Some (8, 0x0)) 1 2 26 1 27 28 ∷
    breakpoint 0x80000010 28)
unfolding instruction_of table
neighbouring_lines_have_their_own_sets = computed [] refl refl refl
