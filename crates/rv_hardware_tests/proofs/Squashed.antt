-- What a trap or a wrong prediction leaves after it: executions that hold units, and words that were fetched.
-- A row: pc, word, the written register and its value, the cycles of fetch, dispatch and issue, the cost, the cycles of
-- broadcast and retirement. One that is serialised has no unit, so neither issue, cost nor broadcast.
use Rattle.rv_hardware.proofs.Words.{[], ◌∷◌, false, Some, None, refl, Early, StoreAddressMisaligned}
use Rattle.rv_isa.specs.Csr as csr
use Rattle.rv_isa.specs.declared.causes.Cause.TheVariants.{InstructionAddressMisaligned, IllegalInstruction}
use Rattle.rv_isa.specs.declared.causes.Cause.TheVariants.{EnvironmentCall, LoadAddressMisaligned}
use Rattle.rv_isa.specs.declared.operations.Kind.TheVariants as kind
use Rattle.rv_decode.specs.Decodes.{instruction_of}
use Rattle.rv_decode.specs.InstructionTable.{table}
use Rattle.rv_hardware.specs.declared.step.Step.TheVariants.{Trap}
use Rattle.rv_hardware_tests.proofs.Programs.{breakpoint, ebreak, executed, machine, machine_with, serialised}
use Rattle.rv_hardware_tests.proofs.Reports.{Reports, ReportsAt, computed}

-- a load that faults holds a unit without a pipeline for the latency of its kind, and a squashed load for its cost
trap_leaves_units_held : Reports (machine_with kind.Mem (record machine.kinds.mem { latency = 8; pipelined = false }))
    (0x00000297 ∷ 0x01c28293 ∷ 0x30529073 ∷ 0x00000417 ∷ 0x02440413 ∷ 0x00142303 ∷ 0x00042383 ∷ 0x00042483 ∷
    ebreak ∷ []) 34
    (executed 0x80000000 0x00000297 (Some (5, 0x80000000)) 0 1 2 1 3 4 ∷
    executed 0x80000004 0x01c28293 (Some (5, 0x8000001c)) 0 1 4 1 5 6 ∷
    serialised 0x80000008 0x30529073 None 1 2 6 ∷
    executed 0x8000000c 0x00000417 (Some (8, 0x8000000c)) 6 7 8 1 9 10 ∷
    executed 0x80000010 0x02440413 (Some (8, 0x80000030)) 6 7 10 1 11 12 ∷
    Trap 0x80000014 LoadAddressMisaligned 0x80000031 21 ∷
    executed 0x8000001c 0x00042483 (Some (9, 0x0)) 21 22 31 1 32 33 ∷
    breakpoint 0x80000020 33)
unfolding instruction_of table csr.order
trap_leaves_units_held = computed [] refl refl refl

-- a load that faults wakes the division that waits for it, which takes the unit before the trap
faulting_load_wakes_a_division : Reports machine
    (0x00000297 ∷ 0x02428293 ∷ 0x30529073 ∷ 0x025284b3 ∷ 0x029484b3 ∷ 0x029484b3 ∷ 0x00102303 ∷ 0x026343b3 ∷
    0x340024f3 ∷ 0x0252c433 ∷ ebreak ∷ []) 45
    (executed 0x80000000 0x00000297 (Some (5, 0x80000000)) 0 1 2 1 3 4 ∷
    executed 0x80000004 0x02428293 (Some (5, 0x80000024)) 0 1 4 1 5 6 ∷
    serialised 0x80000008 0x30529073 None 1 2 6 ∷
    executed 0x8000000c 0x025284b3 (Some (9, 0x510)) 6 7 8 3 11 12 ∷
    executed 0x80000010 0x029484b3 (Some (9, 0x19a100)) 6 7 12 3 15 16 ∷
    executed 0x80000014 0x029484b3 (Some (9, 0xd7410000)) 7 8 16 3 19 20 ∷
    Trap 0x80000018 LoadAddressMisaligned 0x1 20 ∷
    executed 0x80000024 0x0252c433 (Some (8, 0x1)) 20 21 27 16 43 44 ∷
    breakpoint 0x80000028 44)
unfolding instruction_of table csr.order
faulting_load_wakes_a_division = computed [] refl refl refl

-- a CSR that is not there traps as the head
missing_csr_waits_for_the_division_before_it : Reports machine
    (0x027342b3 ∷ 0xb0002473 ∷ ebreak ∷ []) 20
    (executed 0x80000000 0x027342b3 (Some (5, 0xffffffff)) 0 1 2 16 18 19 ∷
    Trap 0x80000004 IllegalInstruction 0xb0002473 19 ∷
    [])
unfolding instruction_of table csr.order
missing_csr_waits_for_the_division_before_it = computed [] refl refl refl

-- a division on the wrong path holds its unit when early recovery has squashed it
squashed_division_holds_its_unit : Reports
    (record (machine_with kind.Alu (record machine.kinds.alu { latency = 4 })) { recovery = Early })
    (0x00000663 ∷ 0x020043b3 ∷ 0x02004433 ∷ 0x020044b3 ∷ ebreak ∷ []) 36
    (executed 0x80000000 0x00000663 None 0 1 2 4 6 7 ∷
    executed 0x8000000c 0x020044b3 (Some (9, 0xffffffff)) 6 7 18 16 34 35 ∷
    breakpoint 0x80000010 35)
unfolding instruction_of table
squashed_division_holds_its_unit = computed [] refl refl refl

-- a branch that faults is not mended early: the division after it takes the unit, and the handler's waits for that
faulting_branch_is_not_mended_early : ReportsAt 0 (record machine { ram_base = 0; recovery = Early })
    (0x020042b3 ∷ 0x00000163 ∷ 0x020043b3 ∷ []) 52
    (executed 0x00000000 0x020042b3 (Some (5, 0xffffffff)) 0 1 2 16 18 19 ∷
    Trap 0x00000004 InstructionAddressMisaligned 0x6 19 ∷
    executed 0x00000000 0x020042b3 (Some (5, 0xffffffff)) 19 20 34 16 50 51 ∷
    Trap 0x00000004 InstructionAddressMisaligned 0x6 51 ∷
    [])
unfolding instruction_of table
faulting_branch_is_not_mended_early = computed [] refl refl refl

-- a load after a wrong prediction keeps the port for its cost
squashed_load_keeps_the_port : ReportsAt 0 (record machine { ram_base = 0 })
    (0x00000663 ∷ 0x04002303 ∷ 0x00000013 ∷ 0x04002383 ∷ ebreak ∷ []) 16
    (executed 0x00000000 0x00000663 None 0 1 2 1 3 4 ∷
    executed 0x0000000c 0x04002383 (Some (7, 0x0)) 4 5 13 1 14 15 ∷
    breakpoint 0x00000010 15)
unfolding instruction_of table
squashed_load_keeps_the_port = computed [] refl refl refl

-- a load after a call of the environment keeps the port for its cost
trap_keeps_the_port : Reports (record machine { cache = record machine.cache { miss = 40 } })
    (0x00000297 ∷ 0x01c28293 ∷ 0x30529073 ∷ 0x00000417 ∷ 0x02004333 ∷ 0x00000073 ∷ 0x04042383 ∷ 0x08042483 ∷
    ebreak ∷ []) 94
    (executed 0x80000000 0x00000297 (Some (5, 0x80000000)) 0 1 2 1 3 4 ∷
    executed 0x80000004 0x01c28293 (Some (5, 0x8000001c)) 0 1 4 1 5 6 ∷
    serialised 0x80000008 0x30529073 None 1 2 6 ∷
    executed 0x8000000c 0x00000417 (Some (8, 0x8000000c)) 6 7 8 1 9 10 ∷
    executed 0x80000010 0x02004333 (Some (6, 0xffffffff)) 6 7 8 16 24 25 ∷
    Trap 0x80000014 EnvironmentCall 0 25 ∷
    executed 0x8000001c 0x08042483 (Some (9, 0x0)) 25 26 51 41 92 93 ∷
    breakpoint 0x80000020 93)
unfolding instruction_of table csr.order
trap_keeps_the_port = computed [] refl refl refl

-- a load does not wait for a store that faults: it brings its line in before the trap
load_after_a_faulting_store_takes_its_line : Reports machine
    (0x00000297 ∷ 0x02428293 ∷ 0x30529073 ∷ 0x00000417 ∷ 0x04440413 ∷ 0x0252c3b3 ∷ 0x00042123 ∷ 0x00042303 ∷
    ebreak ∷ 0x00042383 ∷ ebreak ∷ []) 31
    (executed 0x80000000 0x00000297 (Some (5, 0x80000000)) 0 1 2 1 3 4 ∷
    executed 0x80000004 0x02428293 (Some (5, 0x80000024)) 0 1 4 1 5 6 ∷
    serialised 0x80000008 0x30529073 None 1 2 6 ∷
    executed 0x8000000c 0x00000417 (Some (8, 0x8000000c)) 6 7 8 1 9 10 ∷
    executed 0x80000010 0x04440413 (Some (8, 0x80000050)) 6 7 10 1 11 12 ∷
    executed 0x80000014 0x0252c3b3 (Some (7, 0x1)) 7 8 9 16 25 26 ∷
    Trap 0x80000018 StoreAddressMisaligned 0x80000052 26 ∷
    executed 0x80000024 0x00042383 (Some (7, 0x0)) 26 27 28 1 29 30 ∷
    breakpoint 0x80000028 30)
unfolding instruction_of table csr.order
load_after_a_faulting_store_takes_its_line = computed [] refl refl refl
