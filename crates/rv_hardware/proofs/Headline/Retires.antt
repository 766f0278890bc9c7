-- What an instruction's retirement makes of a state is what its message records.
use Rattle.rv_hardware.proofs.Words.{◌≡◌, ℕ, zero, suc, ◌+◌, ◌/◌, ◌%◌, ◌≤◌, Bool, true, false, cond, not, length}
use Rattle.rv_hardware.proofs.Words.{IfSome, if◌then◌else◌, nat_eq, slice_set, Some, None, Option, option_map, refl, ap}
use Rattle.rv_hardware.proofs.Words.{true≢false, arith, eqb-true, cond-false, nat_tests, bytes_of_number, holds}
use Rattle.rv_hardware.proofs.Words.{is_serialising, target_of, written, bytes_of, modulo_word, pc_plus, pc_plus_4, sum}
use Rattle.rv_hardware.proofs.Words.{Message, StoreAccess, Cause, InstructionAddressMisaligned, Instr, Auipc, Branch}
use Rattle.rv_hardware.proofs.Words.{Csr, Ebreak, Ecall, FenceI, Jal, Jalr, Load, Lui, Mret, Op, OpImmediate, Shift}
use Rattle.rv_hardware.proofs.Words.{Lines, LoadForm, Width, Layout, is_aligned, is_writable, Effect, Faults, Retires}
use Rattle.rv_hardware.proofs.Words.{effect, goes_to, loads, State, register_of, IsAligned, store_of_message}
use Rattle.rv_hardware.proofs.Words.{with_store, with_value, access_of, effect_message, value_written, stale_after}
use Rattle.rv_isa.specs.declared.instructions.Instr.TheVariants.{Store}
use Rattle.rv_arch.specs.Effect.{writes}

-- the bytes of a store lie in RAM, after its read-only front, and within one word
pub record IsStoreAccess (layout : Layout) (access : StoreAccess) : Type 0 where
  pub above : layout.base ≤ access.address
  pub below : access.address + length access.bytes ≤ layout.base + layout.size
  pub some : 1 ≤ length access.bytes
  pub aligned : IsAligned access.address (length access.bytes)
  pub writable : is_writable layout access.address (length access.bytes) ≡ true

-- a retirement from a state to the next, with a written register, as a message records it
pub record IsRetirement (layout : Layout) (s next : State) (target : Option ℕ) (message : Message)
    (register : Option (ℕ × ℕ)) : Type 0 where
  pub next_is : next ≡ record {
    pc = message.next_pc;
    registers = with_value s.registers target (Some message);
    csrs = s.csrs;
    ram = with_store layout.base (store_of_message message.store) s.ram;
    stale = stale_after message.store s.stale;
  }
  pub register_is : register ≡ option_map (λ (r : ℕ). (r, message.value)) target
  pub aligned : message.next_pc % 4 ≡ 0
  pub store : IfSome message.store (IsStoreAccess layout)

-- ... where the effect is a retirement
abbrev pub IsRecorded : Layout → State → Option ℕ → Option StoreAccess → Effect → Type 0
IsRecorded layout s target access (Retires register next) =
    IsRetirement layout s next target (effect_message access (Retires register next)) register
IsRecorded layout s target access (Faults cause value) = Unit {0}

-- the pc after an aligned one is aligned
pub aligned_next : (pc : ℕ) → pc % 4 ≡ 0 → pc_plus_4 pc % 4 ≡ 0
aligned_next pc aligned = omega arith

is_aligned_by_4 : (target : ℕ) → is_aligned target 4 ≡ true → target % 4 ≡ 0
is_aligned_by_4 target aligned = eqb-true (target % 4) 0 aligned

-- an access has a byte
pub some_bytes : (width : Width) → 1 ≤ bytes_of width
some_bytes width = grind arith

module _ (layout : Layout) (s : State) (here : s.pc % 4 ≡ 0) where
  registers_by : (none : Bool) (rd value : ℕ) (message : Message) → nat_eq rd 0 ≡ none →
      message.value ≡ value_written (cond {A = Option (ℕ × ℕ)} none None (Some (rd, value))) →
      with_value s.registers (cond none None (Some rd)) (Some message) ≡
      cond none s.registers (slice_set s.registers rd value)
  registers_by none rd value message is same = grind (arith, cond-false)

  register_by : (none : Bool) (rd value : ℕ) (message : Message) →
      message.value ≡ value_written (cond {A = Option (ℕ × ℕ)} none None (Some (rd, value))) →
      cond {A = Option (ℕ × ℕ)} none None (Some (rd, value)) ≡
      option_map (λ (r : ℕ). (r, message.value)) (cond none None (Some rd))
  register_by none rd value message same = grind arith

  writes_recorded : (rd value next : ℕ) → next % 4 ≡ 0 → IsRecorded layout s (written rd) None (writes s rd value next)
  writes_recorded rd value next aligned = grind (arith, registers_by, register_by)

  goes_recorded : (next : ℕ) → next % 4 ≡ 0 → IsRecorded layout s None None (goes_to s next)
  goes_recorded next aligned = record { next_is = refl; register_is = refl; aligned = aligned; store = tt }

  jumps_by : (b : Bool) (cause : Cause) (rd target : ℕ) → is_aligned target 4 ≡ b →
      IsRecorded layout s (written rd) None (if b then writes s rd (pc_plus_4 s.pc) target else Faults cause target)
  jumps_by b cause rd target is = grind (arith, writes_recorded, is_aligned_by_4)

  branches_by : (taken : Bool) {b : Bool} (cause : Cause) (target : ℕ) → is_aligned target 4 ≡ b →
      IsRecorded layout s None None
      (if taken then (if b then goes_to s target else Faults cause target) else goes_to s (pc_plus_4 s.pc))
  branches_by taken cause target is = grind (arith, goes_recorded, aligned_next, is_aligned_by_4)

  loads_by : (aligned inside : Bool) (a b : Cause) (rd address value : ℕ) →
      IsRecorded layout s (written rd) None
      (if not aligned then Faults a address
      else (if not inside then Faults b address else writes s rd value (pc_plus_4 s.pc)))
  loads_by aligned inside a b rd address value = grind (arith, writes_recorded, aligned_next)

  length-bytes_of_number : (count number : ℕ) → length (bytes_of_number count number) ≡ count
  length-bytes_of_number zero number = refl
  length-bytes_of_number (suc count) number = ap suc (length-bytes_of_number count (number / 256))

  one_word_of : (width : Width) (address : ℕ) → is_aligned address (bytes_of width) ≡ true →
      address % 4 + bytes_of width ≤ 4
  one_word_of width address aligned = grind (arith, eqb-true)

  aligned_bytes : (width : Width) (address : ℕ) → is_aligned address (bytes_of width) ≡ true →
      IsAligned address (bytes_of width)
  aligned_bytes width address aligned = grind (arith, eqb-true)

  inside_of : (address count : ℕ) → is_writable layout address count ≡ true →
      (layout.base ≤ address) × (address + count ≤ layout.base + layout.size)
  inside_of address count writable = (grind (arith, nat_tests), grind (arith, nat_tests))

  stores_by : (aligned writable : Bool) (a b : Cause) (width : Width) (address word : ℕ) →
      is_aligned address (bytes_of width) ≡ aligned → is_writable layout address (bytes_of width) ≡ writable →
      let access : StoreAccess = record { address = address; bytes = bytes_of_number (bytes_of width) word } in
      IsRecorded layout s None (Some access)
      (if not aligned then Faults a address else (if not writable then Faults b address else Retires None (record s {
        pc = pc_plus_4 s.pc;
        ram = with_store layout.base (store_of_message (Some access)) s.ram;
        stale = stale_after (Some access) s.stale;
      })))
  stores_by true true a b width address word is_a is_w =
      grind (arith, inside_of, length-bytes_of_number, aligned_next, one_word_of, some_bytes, aligned_bytes)
  stores_by aligned writable a b width address word is_a is_w = tt

  loaded : (form : LoadForm) (rd address : ℕ) → IsRecorded layout s (written rd) None (loads layout s form rd address)
  loaded form rd address = grind (arith, loads_by)

  -- what an instruction's message records is its effect on the state
  pub effect_recorded : (lines : Lines) (word : ℕ) (i : Instr) → is_serialising (Some i) ≡ false →
      IsRecorded layout s (target_of i) (access_of s i) (effect layout s lines word i)
  effect_recorded lines word (Lui rd immediate) plain = writes_recorded rd _ _ (aligned_next s.pc here)
  effect_recorded lines word (Auipc rd immediate) plain = writes_recorded rd _ _ (aligned_next s.pc here)
  effect_recorded lines word (Jal rd offset) plain = jumps_by _ _ rd _ refl
  effect_recorded lines word (Jalr rd rs1 offset) plain = jumps_by _ _ rd _ refl
  effect_recorded lines word (Branch condition rs1 rs2 offset) plain =
      branches_by (holds condition (register_of s rs1) (register_of s rs2)) InstructionAddressMisaligned
      (pc_plus s.pc offset) refl
  effect_recorded lines word (Load form rd rs1 offset) plain =
      loaded form rd (sum (register_of s rs1) (modulo_word offset))
  effect_recorded lines word (Store width rs1 rs2 offset) plain = stores_by _ _ _ _ width _ _ refl refl
  effect_recorded lines word (OpImmediate op rd rs1 immediate) plain = writes_recorded rd _ _ (aligned_next s.pc here)
  effect_recorded lines word (Shift op rd rs1 amount) plain = writes_recorded rd _ _ (aligned_next s.pc here)
  effect_recorded lines word (Op op rd rs1 rs2) plain = writes_recorded rd _ _ (aligned_next s.pc here)
  effect_recorded lines word FenceI plain = absurd (true≢false plain)
  effect_recorded lines word (Csr op rd csr source) plain = absurd (true≢false plain)
  effect_recorded lines word Ecall plain = tt
  effect_recorded lines word Ebreak plain = tt
  effect_recorded lines word Mret plain = absurd (true≢false plain)
  effect_recorded lines word _ plain = goes_recorded _ (aligned_next s.pc here)
