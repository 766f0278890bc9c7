-- The name to write in place of one of other assemblers or machines.
use Rattle.std.specs.Prelude.{ℕ, List, [], ◌∷◌, codes, Option}
use Rattle.rv_asm.specs.Names.{named}

-- what others write, and what to write in its place
unfoldable pub counterparts : List (List ℕ × List ℕ)
counterparts =
    -- directives of other assemblers
    (codes ".set", codes ".equ") ∷ (codes ".eqv", codes ".equ") ∷ (codes ".define", codes ".equ") ∷
    (codes ".long", codes ".word") ∷ (codes ".int", codes ".word") ∷ (codes ".4byte", codes ".word") ∷
    (codes ".quad", codes ".word") ∷ (codes ".dword", codes ".word") ∷ (codes ".8byte", codes ".word") ∷
    (codes "dd", codes ".word") ∷ (codes ".short", codes ".half") ∷ (codes ".hword", codes ".half") ∷
    (codes ".2byte", codes ".half") ∷ (codes "dw", codes ".half") ∷ (codes "db", codes ".byte") ∷
    (codes ".fill", codes ".zero") ∷ (codes ".comm", codes ".zero") ∷ (codes ".lcomm", codes ".zero") ∷
    (codes ".rodata", codes ".data") ∷ (codes ".rdata", codes ".data") ∷ (codes ".bss", codes ".data") ∷
    (codes ".sdata", codes ".data") ∷ (codes ".sbss", codes ".data") ∷
    -- jumps and branches
    (codes "b", codes "j") ∷ (codes "br", codes "j") ∷ (codes "jmp", codes "j") ∷ (codes "jump", codes "j") ∷
    (codes "goto", codes "j") ∷ (codes "tail", codes "j") ∷ (codes "bl", codes "call") ∷ (codes "bx", codes "jr") ∷
    (codes "return", codes "ret") ∷ (codes "cbz", codes "beqz") ∷ (codes "cbnz", codes "bnez") ∷
    -- what moves or computes a value
    (codes "subi", codes "addi") ∷ (codes "inc", codes "addi") ∷ (codes "dec", codes "addi") ∷
    (codes "mov", codes "mv") ∷ (codes "move", codes "mv") ∷ (codes "movi", codes "li") ∷ (codes "ldi", codes "li") ∷
    (codes "lla", codes "la") ∷ (codes "ld", codes "lw") ∷ (codes "lwu", codes "lw") ∷ (codes "ldr", codes "lw") ∷
    (codes "load", codes "lw") ∷ (codes "sd", codes "sw") ∷ (codes "str", codes "sw") ∷ (codes "store", codes "sw") ∷
    (codes "shl", codes "sll") ∷ (codes "lsl", codes "sll") ∷ (codes "sal", codes "sll") ∷
    (codes "shr", codes "srl") ∷ (codes "lsr", codes "srl") ∷ (codes "sar", codes "sra") ∷
    (codes "asr", codes "sra") ∷ (codes "mod", codes "rem") ∷ (codes "mflo", codes "mul") ∷
    (codes "mfhi", codes "mulh") ∷
    -- what traps, returns from a trap, ends a program, or does nothing
    (codes "scall", codes "ecall") ∷ (codes "syscall", codes "ecall") ∷ (codes "svc", codes "ecall") ∷
    (codes "swi", codes "ecall") ∷ (codes "int", codes "ecall") ∷ (codes "halt", codes "ebreak") ∷
    (codes "hlt", codes "ebreak") ∷ (codes "exit", codes "ebreak") ∷ (codes "break", codes "ebreak") ∷
    (codes "sbreak", codes "ebreak") ∷ (codes "sret", codes "mret") ∷ (codes "uret", codes "mret") ∷
    (codes "eret", codes "mret") ∷ (codes "iret", codes "mret") ∷ (codes "fence.tso", codes "fence") ∷
    (codes "noop", codes "nop") ∷
    []

-- what to write in place of a name of other assemblers or machines
abbrev pub counterpart : List ℕ → Option (List ℕ)
counterpart name = named counterparts name
