use Rattle.rv_core.proofs.Words.{◌≡◌, ℕ, false, Some, None, Option, sym, refl, ap, ◌∙◌, is_serialising, kind_of_word}
use Rattle.rv_core.proofs.Words.{pc_plus_4, Message, Instr, Ebreak, Ecall, Lines, Layout, goes_to, State}
use Rattle.rv_core.proofs.Words.{effect_message, result_in, result_of_word}
use Rattle.rv_core.proofs.execute.result_at_dispatch.Goals as goal

-- an instruction without a unit that neither serialises nor faults only goes on
passed : (instruction : Instr) → (instruction ≡ Ecall → ⊥) → (instruction ≡ Ebreak → ⊥) →
    kind_of_word (Some instruction) ≡ None →
    is_serialising (Some instruction) ≡ false → (layout : Layout) (s : State) (lines : Lines) (word : ℕ) →
    effect_message None (goes_to s (pc_plus_4 s.pc)) ≡ result_in layout s lines word instruction
passed Ecall call break none serial layout s lines word = absurd (call refl)
passed Ebreak call break none serial layout s lines word = absurd (break refl)
passed _ call break none serial layout s lines word = cc

of_word : (layout : Layout) (s : State) (lines : Lines) (word : Option ℕ) (decoded : Option Instr)
    (n : ℕ) (instruction : Instr)
    (m : Message) → word ≡ Some n → decoded ≡ Some instruction → m ≡ result_in layout s lines n instruction →
    m ≡ result_of_word layout s lines word decoded
of_word layout s lines word decoded n instruction m is known given = rw (is, known) given

pub returns-in_default-instruction-2 : goal.returns-in_default-instruction-2
returns-in_default-instruction-2 c = λ none serial layout s lines at.
    let instruction = c.in-Some-instruction.instruction in
    of_word layout s lines c.args.word c.args.instruction.now c.in-Some.word instruction c.passed.result c.in-Some.is
    c.in-Some-instruction.is
    (c.passed.ensures s
    ∙ ap (λ pc. effect_message None (goes_to s (pc_plus_4 pc))) (sym at)
    ∙ passed instruction c.in_default-instruction-2.not-Ecall c.in_default-instruction-2.not-Ebreak
    (rw c.in-Some-instruction.is at none) (rw c.in-Some-instruction.is at serial) layout s lines c.in-Some.word)
