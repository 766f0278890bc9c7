-- A fault that a unit finds is of a branch, a jump, a load or a store.
use Rattle.rv_hardware.proofs.Words.{◌≡◌, ℕ, Bool, true, false, is_some, Some, None, Option, refl, kind_of_word}
use Rattle.rv_hardware.proofs.Words.{Message, StoreAccess, InstructionAddressMisaligned, Fault, Instr, Lines, LoadForm}
use Rattle.rv_hardware.proofs.Words.{Width, Layout, is_aligned, Effect, Faults, Retires, branches, effect, jumps, loads}
use Rattle.rv_hardware.proofs.Words.{stores, State, effect_message, result_of_word, needs_no_unit, by_test, arith}
use Rattle.rv_hardware.proofs.Turns.Forms.{IsResultOfWord}

-- what a unit finds
abbrev FindsFault : Effect → Type 0
FindsFault (Retires written next) = Unit {0}
FindsFault (Faults cause value) = needs_no_unit cause ≡ false

-- a fault, if there is one, is one that a unit finds
abbrev pub IsUnitFault : Option Fault → Type 0
IsUnitFault None = Unit {0}
IsUnitFault (Some fault) = needs_no_unit fault.cause ≡ false

by_jump : (s : State) (rd target : ℕ) → FindsFault (jumps s rd target)
by_jump s rd target =
    by_test FindsFault (is_aligned target 4) _ (Faults InstructionAddressMisaligned target) (λ is. tt) (λ is. refl)

by_branch : (s : State) (taken : Bool) (target : ℕ) → FindsFault (branches s taken target)
by_branch s taken target = grind (arith, by_test)

by_load : (layout : Layout) (s : State) (form : LoadForm) (rd address : ℕ) → FindsFault (loads layout s form rd address)
by_load layout s form rd address = grind (arith, by_test)

by_store : (layout : Layout) (s : State) (width : Width) (address word : ℕ) →
    FindsFault (stores layout s width address word)
by_store layout s width address word = grind (arith, by_test)

by_unit : (layout : Layout) (s : State) (lines : Lines) (word : ℕ) (instruction : Instr) →
    is_some (kind_of_word (Some instruction)) ≡ true → FindsFault (effect layout s lines word instruction)
by_unit layout s lines word instruction unit = grind (arith, by_jump, by_branch, by_load, by_store)

in_message : (access : Option StoreAccess) (e : Effect) → FindsFault e → IsUnitFault (effect_message access e).fault
in_message access e finds = grind arith

-- a word was fetched, or a fault is known
abbrev pub HasWordOr : Option Fault → Option ℕ → Type 0
HasWordOr fault (Some word) = Unit {0}
HasWordOr None None = ⊥
HasWordOr (Some fault) None = Unit {0}

by_word : (layout : Layout) (s : State) (lines : Lines) (word : Option ℕ) (instruction : Option Instr) →
    HasWordOr None word → is_some (kind_of_word instruction) ≡ true →
    IsUnitFault (result_of_word layout s lines word instruction).fault
by_word layout s lines word instruction has unit = grind (arith, in_message, by_unit)

-- a message of an instruction with a unit gives no fault but one that its unit finds
pub by_result : (word : Option ℕ) (instruction : Option Instr) (message : Message) →
    IsResultOfWord word instruction message → HasWordOr None word → is_some (kind_of_word instruction) ≡ true →
    IsUnitFault message.fault
by_result word instruction message result has unit = grind (arith, by_word)
