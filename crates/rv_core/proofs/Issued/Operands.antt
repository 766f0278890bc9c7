-- The operands in a station are what the definition reads after the older instructions.
use Rattle.rv_core.proofs.Words.{◌≡◌, ℕ, ◌+◌, ◌<◌, cond, ◌≢◌, List, [], ◌∷◌, length, IfSome, slice_index}
use Rattle.rv_core.proofs.Words.{slice_index_or, Some, None, All, Option, refl, ◌∙◌, arith, get_or-set_other}
use Rattle.rv_core.proofs.Words.{get_or-set_same, eqb-true, ne_eqb, eqb-false, All-head, All-tail, is_target}
use Rattle.rv_core.proofs.Words.{target_of_word, sources_of, target_of, Message, Instr, Csr, Lui, State, Entry}
use Rattle.rv_core.proofs.Words.{broadcast_of, is_known_from, registers_after, with_value, has_operands, has_value}
use Rattle.rv_core.proofs.Words.{is_ready_station, ready_of, ready_with, Operand, Value, Ready, Station, is_known}
use Rattle.rv_core.proofs.Words.{Reads, operand_value, RegisterStatus, operand_by, operand_of, status_after}
use Rattle.rv_core.proofs.Words.{status_with, values_in, waiting_of}
use Rattle.rv_hardware.proofs.Headline.Known.{length-with_value}
use Rattle.rv_isa.specs.declared.instructions.CsrSource.TheVariants as source

-- an instruction has two sources
pub two_sources : (i : Instr) → sources_of i ≡ slice_index_or (sources_of i) 0 None
    ∷ slice_index_or (sources_of i) 1 None ∷ []
two_sources (Csr op rd csr (source.Register rs1)) = refl
two_sources _ = refl

-- x0 is no target
pub target_nonzero : (i : Instr) (r : ℕ) → target_of i ≡ Some r → r ≢ 0
target_nonzero (Lui rd immediate) r is nought = grind (arith, eqb-false)
target_nonzero _ r is nought = grind (arith, eqb-false)

target_of_word_nonzero : (word : Option Instr) (r : ℕ) → target_of_word word ≡ Some r → r ≢ 0
target_of_word_nonzero word r is = grind (arith, target_nonzero)

-- whether the value is there

known_after : (es : List Entry) (status : RegisterStatus) (seq r : ℕ) →
    has_value (status_after status seq es r) ≡ is_known_from (has_value (status r)) es r
known_after [] status seq r = refl
known_after (e ∷ es) status seq r = grind (arith, known_after es (status_with status seq e) (seq + 1) r)

-- a register has a value in the status where the definition knows it
pub is_known-status : (registers : List ℕ) (seq : ℕ) (older : List Entry) (r : ℕ) →
    has_value (status_after (values_in registers) seq older r) ≡ is_known older r
is_known-status registers seq older r = known_after older (values_in registers) seq r

-- which value it is

-- each value that a status has is the register's
abbrev pub ShowsRegisters : RegisterStatus → List ℕ → Type 0
ShowsRegisters status registers = (r v : ℕ) → status r ≡ Value v → slice_index registers r ≡ v

shows_by : (status : RegisterStatus) (registers : List ℕ) (seq : ℕ) (target : Option ℕ) (o : Option Message) →
    IfSome target (λ t. t < length registers) → ((t : ℕ) → target ≡ Some t → t ≢ 0) → ShowsRegisters status registers →
    (r v : ℕ) →
    cond (is_target r target) (operand_by seq o) (status r) ≡ Value v →
    slice_index (with_value registers target o) r ≡ v
shows_by status registers seq None o within positive shows r v is = shows r v is
shows_by status registers seq (Some t) None within positive shows r v is = grind (arith, shows)
shows_by status registers seq (Some t) (Some message) within positive shows r v is =
    grind (arith, shows, positive t refl, within, eqb-true, eqb-false, ne_eqb, get_or-set_same, get_or-set_other)

pub shows_after : (es : List Entry) (status : RegisterStatus) (registers : List ℕ) (seq : ℕ) → length registers ≡ 32 →
    All (λ e. IfSome (target_of_word e.instruction) (λ t. t < 32)) es → ShowsRegisters status registers →
    ShowsRegisters (status_after status seq es) (registers_after registers es)
shows_after [] status registers seq sized targets shows = shows
shows_after (e ∷ es) status registers seq sized targets shows =
    let P : Entry → Type 0 = λ x. IfSome (target_of_word x.instruction) (λ t. t < 32) in
    let target : IfSome (target_of_word e.instruction) (λ t. t < length registers) =
    rw sized (All-head P e es targets) in
    shows_after es (status_with status seq e)
    (with_value registers (target_of_word e.instruction) (broadcast_of e.stage))
    (seq + 1)
    (length-with_value registers (target_of_word e.instruction) (broadcast_of e.stage) ∙ sized)
    (All-tail P e es targets)
    (shows_by status registers seq (target_of_word e.instruction) (broadcast_of e.stage) target
    (target_of_word_nonzero e.instruction) shows)

-- the status after older instructions shows what the registers are after them
pub shows_at : (older : List Entry) (registers : List ℕ) (seq : ℕ) → length registers ≡ 32 →
    All (λ e. IfSome (target_of_word e.instruction) (λ t. t < 32)) older →
    ShowsRegisters (status_after (values_in registers) seq older) (registers_after registers older)
shows_at older registers seq sized targets =
    shows_after older (values_in registers) registers seq sized targets (λ r v is. cc)

-- an instruction that is ready reads the values of its registers

operand_value-shown : (status : RegisterStatus) (s : State) (from : Option ℕ) (v : ℕ) →
    ShowsRegisters status s.registers →
    operand_of status from ≡ Value v → operand_value s from ≡ v
operand_value-shown status s from v shows is = grind (arith, shows)

-- what leaves a station has the two values of its operands, and its number, pc and instruction
pub ready_parts : (w : Station) (a b : Operand) (ready : Ready) → ready_with w a b ≡ Some ready →
    (a ≡ Value ready.first) × (b ≡ Value ready.second) × (ready.seq ≡ w.seq) × (ready.pc ≡ w.pc) ×
    (ready.instruction ≡ w.instruction)
ready_parts w a b ready is = (grind arith, grind arith, grind arith, grind arith, grind arith)

-- what leaves a station has what the instruction reads
pub reads : (status : RegisterStatus) (seq pc : ℕ) (i : Instr) (s : State) (ready : Ready) →
    ready_of (waiting_of status seq pc i) ≡ Some ready → ShowsRegisters status s.registers → s.pc ≡ pc →
    Reads s ready.pc ready.first ready.second i
reads status seq pc i s ready is shows at = grind (arith, ready_parts, two_sources, operand_value-shown)

-- a station is ready where the definition has the operands of its instruction
pub is_ready-known : (status : RegisterStatus) (older : List Entry) (seq pc : ℕ) (i : Instr) →
    ((r : ℕ) → has_value (status r) ≡ is_known older r) →
    is_ready_station (waiting_of status seq pc i) ≡ has_operands older (sources_of i)
is_ready-known status older seq pc i known = rw (two_sources i) (grind (arith, known))
