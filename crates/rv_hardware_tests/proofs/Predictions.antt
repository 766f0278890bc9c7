-- What a bimodal predictor learns, and when: programs on one of one entry.
-- A row: pc, word, the written register and its value, the cycles of fetch, dispatch and issue, the cost, the cycles of
-- broadcast and retirement.
use Rattle.rv_hardware.proofs.Words.{[], ◌∷◌, Some, None, refl}
use Rattle.rv_isa.specs.declared.causes.Cause.TheVariants.{InstructionAddressMisaligned}
use Rattle.rv_isa.specs.declared.operations.Kind.TheVariants as kind
use Rattle.rv_decode.specs.Decodes.{instruction_of}
use Rattle.rv_decode.specs.InstructionTable.{table}
use Rattle.rv_hardware.specs.declared.step.Step.TheVariants.{Trap}
use Rattle.rv_hardware_tests.proofs.Programs.{breakpoint, ebreak, executed, machine, machine_with}
use Rattle.rv_hardware_tests.proofs.Reports.{ReportsByOneCounter, computed_by_one_counter}

-- two branches that retire in one cycle teach the counter in program order: down from 0, and then up to 1
lessons_come_in_program_order : ReportsByOneCounter machine
    (0x02001263 ∷ 0x0252c3b3 ∷ 0x00000013 ∷ 0x00001c63 ∷ 0x00000463 ∷ 0x00000013 ∷ 0x00300313 ∷ 0xfff30313 ∷
    0xfe031ee3 ∷ ebreak ∷ []) 0x80000000 39
    (executed 0x80000000 0x02001263 None 0 1 2 1 3 4 ∷
    executed 0x80000004 0x0252c3b3 (Some (7, 0xffffffff)) 0 1 2 16 18 19 ∷
    executed 0x80000008 0x00000013 None 1 2 3 1 4 19 ∷
    executed 0x8000000c 0x00001c63 None 1 2 3 1 4 20 ∷
    executed 0x80000010 0x00000463 None 2 3 4 1 5 20 ∷
    executed 0x80000018 0x00300313 (Some (6, 0x3)) 20 21 22 1 23 24 ∷
    executed 0x8000001c 0xfff30313 (Some (6, 0x2)) 20 21 24 1 25 26 ∷
    executed 0x80000020 0xfe031ee3 None 21 22 26 1 27 28 ∷
    executed 0x8000001c 0xfff30313 (Some (6, 0x1)) 28 29 30 1 31 32 ∷
    executed 0x80000020 0xfe031ee3 None 28 29 32 1 33 34 ∷
    executed 0x8000001c 0xfff30313 (Some (6, 0x0)) 29 30 32 1 33 34 ∷
    executed 0x80000020 0xfe031ee3 None 29 30 34 1 35 36 ∷
    breakpoint 0x80000024 38)
unfolding instruction_of table
lessons_come_in_program_order = computed_by_one_counter [] refl refl refl

-- a branch that retires is learned before the fetch of its cycle
lessons_come_before_the_fetch : ReportsByOneCounter machine
    (0x00400293 ∷ 0xfff28293 ∷ 0xfe029ee3 ∷ ebreak ∷ []) 0x80000000 21
    (executed 0x80000000 0x00400293 (Some (5, 0x4)) 0 1 2 1 3 4 ∷
    executed 0x80000004 0xfff28293 (Some (5, 0x3)) 0 1 4 1 5 6 ∷
    executed 0x80000008 0xfe029ee3 None 1 2 6 1 7 8 ∷
    executed 0x80000004 0xfff28293 (Some (5, 0x2)) 8 9 10 1 11 12 ∷
    executed 0x80000008 0xfe029ee3 None 8 9 12 1 13 14 ∷
    executed 0x80000004 0xfff28293 (Some (5, 0x1)) 9 10 12 1 13 14 ∷
    executed 0x80000008 0xfe029ee3 None 9 10 14 1 15 16 ∷
    executed 0x80000004 0xfff28293 (Some (5, 0x0)) 10 11 14 1 15 16 ∷
    executed 0x80000008 0xfe029ee3 None 10 12 16 1 17 18 ∷
    breakpoint 0x8000000c 20)
unfolding instruction_of table
lessons_come_before_the_fetch = computed_by_one_counter [] refl refl refl

-- a branch that traps teaches nothing: each turn the division after it is fetched and holds the unit of the next turn
traps_teach_nothing : ReportsByOneCounter
    (record (machine_with kind.Div (record machine.kinds.div { latency = 8 })) { ram_base = 0 })
    (0x020042b3 ∷ 0x00000563 ∷ 0x020043b3 ∷ []) 0 44
    (executed 0x00000000 0x020042b3 (Some (5, 0xffffffff)) 0 1 2 8 10 11 ∷
    Trap 0x00000004 InstructionAddressMisaligned 0xe 11 ∷
    executed 0x00000000 0x020042b3 (Some (5, 0xffffffff)) 11 12 18 8 26 27 ∷
    Trap 0x00000004 InstructionAddressMisaligned 0xe 27 ∷
    executed 0x00000000 0x020042b3 (Some (5, 0xffffffff)) 27 28 34 8 42 43 ∷
    Trap 0x00000004 InstructionAddressMisaligned 0xe 43 ∷
    [])
unfolding instruction_of table
traps_teach_nothing = computed_by_one_counter [] refl refl refl
