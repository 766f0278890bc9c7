-- What an instruction gives depends on its pc, on the registers that it reads, and on memory where it is a load.
use Rattle.rv_hardware.proofs.Words.{◌≡◌, ℕ, Bool, true, false, not, List, [], ◌∷◌, if◌then◌else◌, Some, None, Option}
use Rattle.rv_hardware.proofs.Words.{refl, ap, true≢false, bytes_of_number, is_load, is_serialising, sources_of_word}
use Rattle.rv_hardware.proofs.Words.{sources_of, bytes_of, pc_plus, pc_plus_4, StoreAccess, Cause, Instr, Auipc, Branch}
use Rattle.rv_hardware.proofs.Words.{Csr, Ebreak, Ecall, FenceI, Jal, Jalr, Load, Lui, Mret, Op, OpImmediate, Shift}
use Rattle.rv_hardware.proofs.Words.{Lines, LoadForm, Width, Layout, Faults, Retires, branches, goes_to, jumps, loads}
use Rattle.rv_hardware.proofs.Words.{stores, State, register_of, effect_message, result_in, result_of_word, arith}
use Rattle.rv_isa.specs.declared.instructions.Instr.TheVariants.{Store}
use Rattle.rv_arch.specs.Effect.{writes}

-- the registers of some operands are the same in two states
abbrev pub ReadsSame : State → State → List (Option ℕ) → Type 0
ReadsSame s t [] = Unit {0}
ReadsSame s t (None ∷ sources) = ReadsSame s t sources
ReadsSame s t (Some register ∷ sources) = (register_of s register ≡ register_of t register) × ReadsSame s t sources

module _ (s t : State) where
  writes_same : (rd value value' next next' : ℕ) → value ≡ value' → next ≡ next' →
      effect_message None (writes s rd value next) ≡ effect_message None (writes t rd value' next')
  writes_same rd value value' next next' p q = grind arith

  goes_same : (next next' : ℕ) → next ≡ next' →
      effect_message None (goes_to s next) ≡ effect_message None (goes_to t next')
  goes_same next next' q = grind arith

  jumps_by : (aligned : Bool) (cause : Cause) (rd target : ℕ) → s.pc ≡ t.pc →
      effect_message None (if aligned then writes s rd (pc_plus_4 s.pc) target else Faults cause target) ≡
      effect_message None (if aligned then writes t rd (pc_plus_4 t.pc) target else Faults cause target)
  jumps_by aligned cause rd target here = grind (arith, writes_same)

  jumps_same : (rd target target' : ℕ) → s.pc ≡ t.pc → target ≡ target' →
      effect_message None (jumps s rd target) ≡ effect_message None (jumps t rd target')
  jumps_same rd target target' here there = grind (arith, jumps_by)

  branches_by : (aligned taken : Bool) (cause : Cause) (target : ℕ) → s.pc ≡ t.pc →
      effect_message None
      (if taken then (if aligned then goes_to s target else Faults cause target) else goes_to s (pc_plus_4 s.pc)) ≡
      effect_message None
      (if taken then (if aligned then goes_to t target else Faults cause target) else goes_to t (pc_plus_4 t.pc))
  branches_by aligned taken cause target here = grind (arith, goes_same)

  branches_same : (taken taken' : Bool) (target target' : ℕ) → s.pc ≡ t.pc → taken ≡ taken' → target ≡ target' →
      effect_message None (branches s taken target) ≡ effect_message None (branches t taken' target')
  branches_same taken taken' target target' here way there = grind (arith, branches_by)

  loads_by : (aligned inside : Bool) (a b : Cause) (rd address value value' : ℕ) → s.pc ≡ t.pc → value ≡ value' →
      effect_message None
      (if not aligned then Faults a address
      else (if not inside then Faults b address else writes s rd value (pc_plus_4 s.pc))) ≡
      effect_message None
      (if not aligned then Faults a address
      else (if not inside then Faults b address else writes t rd value' (pc_plus_4 t.pc)))
  loads_by aligned inside a b rd address value value' here same = grind (arith, writes_same)

  loads_same : (layout : Layout) (form : LoadForm) (rd address address' : ℕ) → s.pc ≡ t.pc → s.ram ≡ t.ram →
      address ≡ address' →
      effect_message None (loads layout s form rd address) ≡ effect_message None (loads layout t form rd address')
  loads_same layout form rd address address' here given there = grind (arith, loads_by)

  stores_by : (aligned writable : Bool) (a b : Cause) (access : Option StoreAccess) (address : ℕ) (u v : State) →
      u.pc ≡ v.pc →
      effect_message access
      (if not aligned then Faults a address else (if not writable then Faults b address else Retires None u)) ≡
      effect_message access
      (if not aligned then Faults a address else (if not writable then Faults b address else Retires None v))
  stores_by aligned writable a b access address u v here = grind arith

  stores_same : (layout : Layout) (width : Width) (address address' word word' : ℕ) → s.pc ≡ t.pc → address ≡ address' →
      word ≡ word' →
      effect_message (Some (record { address = address; bytes = bytes_of_number (bytes_of width) word }))
      (stores layout s width address word) ≡
      effect_message (Some (record { address = address'; bytes = bytes_of_number (bytes_of width) word' }))
      (stores layout t width address' word')
  stores_same layout width address address' word word' here there same = grind (arith, stores_by)

  module _ (layout : Layout) (lines lines' : Lines) (here : s.pc ≡ t.pc) where
    same_result_in : (word word' : ℕ) (i : Instr) → is_serialising (Some i) ≡ false → ReadsSame s t (sources_of i) →
        (is_load (Some i) ≡ true → s.ram ≡ t.ram) → result_in layout s lines word i ≡ result_in layout t lines' word' i
    same_result_in word word' (Lui rd immediate) plain reads memory = writes_same rd _ _ _ _ refl (ap pc_plus_4 here)
    same_result_in word word' (Auipc rd immediate) plain reads memory = grind (arith, writes_same)
    same_result_in word word' (Jal rd offset) plain reads memory =
        jumps_same rd _ _ here (ap (λ n. pc_plus n offset) here)
    same_result_in word word' (Jalr rd rs1 offset) plain reads memory = grind (arith, jumps_same)
    same_result_in word word' (Branch condition rs1 rs2 offset) plain reads memory = grind (arith, branches_same)
    same_result_in word word' (Load form rd rs1 offset) plain reads memory = grind (arith, loads_same)
    same_result_in word word' (Store width rs1 rs2 offset) plain reads memory = grind (arith, stores_same)
    same_result_in word word' (OpImmediate op rd rs1 immediate) plain reads memory = grind (arith, writes_same)
    same_result_in word word' (Shift op rd rs1 amount) plain reads memory = grind (arith, writes_same)
    same_result_in word word' (Op op rd rs1 rs2) plain reads memory = grind (arith, writes_same)
    same_result_in word word' FenceI plain reads memory = absurd (true≢false plain)
    same_result_in word word' (Csr op rd csr source) plain reads memory = absurd (true≢false plain)
    same_result_in word word' Ecall plain reads memory = refl
    same_result_in word word' Ebreak plain reads memory = refl
    same_result_in word word' Mret plain reads memory = absurd (true≢false plain)
    same_result_in word word' _ plain reads memory = goes_same _ _ (ap pc_plus_4 here)

    -- in two states that agree on the sources, and for a load on RAM, an instruction gives the same result
    pub same_result : (word : Option ℕ) (instruction : Option Instr) → is_serialising instruction ≡ false →
        ReadsSame s t (sources_of_word instruction) → (is_load instruction ≡ true → s.ram ≡ t.ram) →
        result_of_word layout s lines word instruction ≡ result_of_word layout t lines' word instruction
    same_result word instruction plain reads given = grind (arith, same_result_in)
