-- What to write in place of the operand of a statement that is at fault.
use Rattle.std.specs.Prelude.{ℕ, List, [], ◌∷◌, ◌++◌, codes, Bool, false, ◌&&◌, ◌||◌, if◌then◌else◌}
use Rattle.std.specs.{Option.option_map_or, Str.bytes_eq}
use Rattle.rv_asm.specs.Token.{Token}
use Rattle.rv_asm.specs.Token as token
use Rattle.rv_asm.specs.declared.fault.AsmFault.TheVariants as fault
use Rattle.rv_refusal.specs.Culprit.{operand_of_fault}
use Rattle.rv_refusal.specs.ForeignName.{csr_hint}
use Rattle.rv_refusal.specs.Names.{registers, takes_csr}
use Rattle.rv_refusal.specs.NameOn.{begins_with}
use Rattle.rv_refusal.specs.NameSet.{is_one_of}
use Rattle.rv_refusal.specs.OperandShape.{begins_with_address, begins_with_number, lacks_closing, lacks_comma}
use Rattle.rv_refusal.specs.OperandShape.{lacks_opening, stands_before_another}
use Rattle.rv_refusal.specs.Statement.{first_name}

-- what to write in place of a register where a value is to stand
unfoldable pub register_hint : List ℕ → List ℕ
register_hint name =
    if is_one_of registers name
    then codes "hint: " ++ (name ++ codes " is a register, and a symbol or a number stands here\n")
    else []

-- an instruction takes registers before its symbol or its address: a branch on two of them, and a store
abbrev pub begins_with_registers : List ℕ → Bool
begins_with_registers name =
    is_one_of (codes "beq" ∷ codes "bne" ∷ codes "blt" ∷ codes "bge" ∷ codes "bltu" ∷ codes "bgeu" ∷ codes "bgt"
    ∷ codes "ble" ∷ codes "bgtu" ∷ codes "bleu" ∷ codes "sb" ∷ codes "sh" ∷ codes "sw" ∷ []) name

-- what to write in place of a number before other operands
unfoldable pub loaded_hint : List ℕ → List ℕ
loaded_hint name =
    if begins_with_registers name
    then codes "hint: a register stands here: li t0, 5 loads 5 into t0, and zero is a register that holds 0\n"
    else []

-- the multiplications and divisions
unfoldable pub products : List (List ℕ)
products =
    codes "mul" ∷ codes "mulh" ∷ codes "mulhsu" ∷ codes "mulhu" ∷ codes "div" ∷ codes "divu" ∷ codes "rem"
    ∷ codes "remu" ∷ []

-- what an instruction on registers is with a number as its last operand
unfoldable pub with_number : List ℕ → List ℕ
with_number name =
    if is_one_of (codes "add" ∷ codes "and" ∷ codes "or" ∷ codes "xor" ∷ codes "slt" ∷ codes "sll" ∷ codes "srl"
    ∷ codes "sra" ∷ codes "csrw" ∷ codes "csrs" ∷ codes "csrc" ∷ codes "csrrw" ∷ codes "csrrs" ∷ codes "csrrc" ∷ [])
    name
    then codes "hint: with a number it is " ++ (name ++ codes "i\n")
    else (if bytes_eq name (codes "sub") then codes
    "hint: with a number it is addi, and the number has the other sign\n"
    else (if is_one_of (codes "mv" ∷ codes "la" ∷ []) name then codes "hint: with a number it is li\n"
    else []))

-- what to write in place of a number
unfoldable pub number_hint : List ℕ → List Token → List ℕ
number_hint name operand =
    if is_one_of products name then codes "hint: it takes registers alone: li loads a number into one\n"
    else (if stands_before_another operand then loaded_hint name else with_number name)

-- an instruction loads or stores
abbrev pub accesses_memory : List ℕ → Bool
accesses_memory name =
    is_one_of (codes "lb" ∷ codes "lh" ∷ codes "lw" ∷ codes "lbu" ∷ codes "lhu" ∷ codes "sb" ∷ codes "sh"
    ∷ codes "sw" ∷ []) name

-- an instruction has an offset with a register in parentheses
abbrev pub takes_offset : List ℕ → Bool
takes_offset name = accesses_memory name || bytes_eq name (codes "jalr")

-- an offset with a register stands before the register of a load or a store
abbrev pub is_reversed : List ℕ → List Token → Bool
is_reversed name operand = accesses_memory name && begins_with_address operand

-- that a load or a store has its register first
unfoldable pub reversed_hint : List ℕ
reversed_hint = codes "hint: the register stands before offset(register), as in sw a0, 8(sp)\n"

-- an offset with a register lacks a parenthesis
abbrev pub lacks_parenthesis : List ℕ → List Token → Bool
lacks_parenthesis name operand = takes_offset name && (lacks_opening operand || lacks_closing operand)

-- how an offset with a register is written
unfoldable pub offset_hint : List ℕ
offset_hint = codes "hint: an address is written as offset(register), as in 8(sp)\n"

-- what to write in place of a name where an address is to stand
unfoldable pub address_hint : List ℕ → List ℕ
address_hint name =
    if is_one_of registers name then offset_hint
    else codes "hint: an address is in a register: la t0, symbol loads it, and 0(t0) is the word there\n"

-- what to write in place of a name where jalr has an offset with a register
unfoldable pub jump_hint : List ℕ → List ℕ
jump_hint name =
    if is_one_of registers name then codes "hint: it jumps to offset(register), as in jalr ra, 0(t0)\n"
    else codes "hint: jal and call take a symbol, and jalr a register\n"

-- what to write in place of a name where li has a number; one that begins with $ may be meant as a number
unfoldable pub load_hint : List ℕ → List ℕ
load_hint name =
    if is_one_of registers name then codes "hint: with a register it is mv\n"
    else (if begins_with 36 name then []
    else codes "hint: la loads the address of a label; a line .equ stands above each use of its name\n")

-- what to write in place of a name at the front of an operand
unfoldable pub named_hint : List ℕ → List ℕ → List ℕ
named_hint name other =
    if accesses_memory name then address_hint other
    else (if bytes_eq name (codes "jalr") then jump_hint other
    else (if bytes_eq name (codes "li") then load_hint other
    else (if takes_csr name then csr_hint other
    else [])))

-- statements without operands
unfoldable pub bare_statements : List (List ℕ)
bare_statements =
    codes ".text" ∷ codes ".data" ∷ codes "nop" ∷ codes "ret" ∷ codes "ecall" ∷ codes "ebreak" ∷ codes "mret"
    ∷ codes "wfi" ∷ codes "fence" ∷ codes "fence.i" ∷ []

-- what to write in place of an operand with tokens, from its first one on
unfoldable pub written_hint : List ℕ → List Token → List ℕ
written_hint name operand =
    if is_one_of bare_statements name then codes "hint: it takes no operand, and a line has one statement\n"
    else (if lacks_parenthesis name operand then offset_hint
    else (if lacks_comma operand then codes "hint: a comma stands between two operands\n"
    else (if is_reversed name operand then reversed_hint
    else (if begins_with_number operand then number_hint name operand
    else option_map_or (named_hint name) (first_name operand) []))))

-- that no operand stands after a comma
unfoldable pub nothing_hint : List ℕ
nothing_hint = codes "hint: no operand stands after the last comma; what stands after # is a comment\n"

-- what to write in place of an operand, from its first token on
unfoldable pub operand_hint : List ℕ → List Token → List ℕ
operand_hint name [] = nothing_hint
operand_hint name (first ∷ rest) = written_hint name (first ∷ rest)

-- what to write in place of the operand at fault
abbrev pub operands_hint : (List ℕ → Bool) → List Token → List ℕ
operands_hint defined body =
    option_map_or (λ name. option_map_or (operand_hint name) (operand_of_fault fault.BadOperands defined body) [])
    (first_name body) []

-- a statement is a jump to what its only operand names, which has to be a register
abbrev pub jumps_to_name : List Token → Bool
jumps_to_name (token.Name name ∷ token.Name target ∷ []) = is_one_of (codes "jr" ∷ codes "jalr" ∷ []) name
jumps_to_name _ = false

-- what to write in place of a statement with a name where a register is to stand
unfoldable pub target_hint : List Token → List ℕ
target_hint body =
    if jumps_to_name body then codes "hint: jr and jalr take a register, and j, jal and call a symbol\n" else []

-- what to write in place of an immediate that is out of range
unfoldable pub range_hint : List ℕ → List ℕ
range_hint name =
    if is_one_of (codes "addi" ∷ codes "lui" ∷ []) name then codes
    "hint: li loads each number of 32 bits, and la the address of a label\n"
    else []
