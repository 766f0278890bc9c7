-- What to say of names of other assemblers and machines that no one name here stands for.
use Rattle.std.specs.Prelude.{ℕ, List, [], ◌∷◌, codes, if◌then◌else◌}
use Rattle.std.specs.Str.{bytes_eq}
use Rattle.rv_refusal.specs.NameOn.{begins_with}
use Rattle.rv_refusal.specs.NameSet.{is_one_of}

-- directives of other assemblers that say nothing to this machine
unfoldable pub idle_directives : List (List ℕ)
idle_directives =
    codes ".option" ∷ codes ".type" ∷ codes ".size" ∷ codes ".file" ∷ codes ".ident" ∷ codes ".attribute" ∷ codes ".end"
    ∷ codes ".weak" ∷ codes ".local" ∷ codes ".loc" ∷ codes ".ent" ∷ codes ".extern" ∷ codes ".cfi_startproc"
    ∷ codes ".cfi_endproc" ∷ []

-- those that make lines, or take them in under a condition
unfoldable pub line_directives : List (List ℕ)
line_directives =
    codes ".macro" ∷ codes ".endm" ∷ codes ".rept" ∷ codes ".endr" ∷ codes ".if" ∷ codes ".else" ∷ codes ".endif"
    ∷ codes ".include" ∷ []

-- those of data of 64 bits
unfoldable pub double_directives : List (List ℕ)
double_directives = codes ".quad" ∷ codes ".dword" ∷ codes ".8byte" ∷ []

-- directives and instructions of floating point
unfoldable pub float_names : List (List ℕ)
float_names =
    codes ".float" ∷ codes ".double" ∷ codes "flw" ∷ codes "fsw" ∷ codes "fld" ∷ codes "fsd" ∷ []

-- instructions of other machines that move a register to the stack, or from it
unfoldable pub stack_names : List (List ℕ)
stack_names = codes "push" ∷ codes "pop" ∷ []

-- those that compare, and branches by what they left
unfoldable pub comparisons : List (List ℕ)
comparisons =
    codes "cmp" ∷ codes "tst" ∷ codes "tbz" ∷ codes "tbnz" ∷ codes "je" ∷ codes "jz" ∷ codes "jne"
    ∷ codes "jnz" ∷ codes "jg" ∷ codes "jge" ∷ codes "jl" ∷ codes "jle" ∷ []

-- instructions of extensions that this machine lacks
unfoldable pub extensions : List (List ℕ)
extensions =
    codes "min" ∷ codes "minu" ∷ codes "max" ∷ codes "maxu" ∷ codes "abs" ∷ codes "rol" ∷ codes "ror" ∷ codes "clz"
    ∷ codes "ctz" ∷ codes "cpop" ∷ codes "lr.w" ∷ codes "sc.w" ∷ []

-- CSRs of other machines that count cycles, instructions or time
unfoldable pub counters : List (List ℕ)
counters =
    codes "cycle" ∷ codes "cycleh" ∷ codes "time" ∷ codes "timeh" ∷ codes "instret" ∷ codes "instreth"
    ∷ codes "mcycle" ∷ codes "mcycleh" ∷ codes "minstret" ∷ codes "minstreth" ∷ codes "mtime" ∷ codes "mtimeh" ∷ []

-- instructions that read them
unfoldable pub counter_reads : List (List ℕ)
counter_reads =
    codes "rdcycle" ∷ codes "rdcycleh" ∷ codes "rdtime" ∷ codes "rdtimeh" ∷ codes "rdinstret" ∷ codes "rdinstreth" ∷ []

-- how a register is moved to the stack, and from it
unfoldable pub stack_hint : List ℕ
stack_hint =
    codes "hint: addi sp, sp, -4 and sw ra, 0(sp) push ra; lw ra, 0(sp) and addi sp, sp, 4 pop it\n"

-- that nothing counts
unfoldable pub counter_hint : List ℕ
counter_hint =
    codes "hint: the machine has no counters: the lines cycles and retired of the report say what a run took\n"

-- what to write in place of a CSR of other machines that none here stands for
unfoldable pub csr_hint : List ℕ → List ℕ
csr_hint name = if is_one_of counters name then counter_hint else []

-- what to write in place of a statement with a directive of other assemblers
unfoldable pub directive_hint : List ℕ → List ℕ
directive_hint name =
    if is_one_of idle_directives name then codes "hint: this line may be left out\n"
    else (if is_one_of line_directives name then codes
    "hint: there are no macros and no conditions: the lines stand themselves\n"
    else (if is_one_of double_directives name then codes "hint: two words, the lower one first\n"
    else (if bytes_eq name (codes ".org") then codes
    "hint: no line chooses its address: .zero 8 leaves 8 bytes, .balign 8 goes on at a multiple of 8\n"
    else [])))

-- what to write in place of a statement with a mnemonic of other assemblers or machines
unfoldable pub mnemonic_hint : List ℕ → List ℕ
mnemonic_hint name =
    if is_one_of stack_names name then stack_hint
    else (if is_one_of comparisons name then codes
    "hint: a branch compares two registers itself, as in beq a0, a1, loop\n"
    else (if is_one_of extensions name then codes
    "hint: the machine has the base instructions, M, Zicsr, Zifencei, and three of Zba\n"
    else (if is_one_of counter_reads name then counter_hint
    else (if bytes_eq name (codes "section") then codes "hint: a line .text or .data begins a section\n"
    else []))))

-- what to write in place of a statement with a name of other assemblers or machines that no one name here stands for
unfoldable pub foreign_hint : List ℕ → List ℕ
foreign_hint name =
    if is_one_of float_names name then codes "hint: the machine has no floating point\n"
    else (if begins_with 46 name then directive_hint name else mnemonic_hint name)
