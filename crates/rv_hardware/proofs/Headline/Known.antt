-- The state in which an instruction executes agrees with the one after the older ones where it looks.
use Rattle.rv_hardware.proofs.Words.{◌≡◌, ℕ, ◌+◌, ◌≤◌, Bool, true, false, cond, List, [], ◌∷◌, ◌++◌, length, is_some}
use Rattle.rv_hardware.proofs.Words.{IfSome, if◌then◌else◌, nat_eq, slice_index, slice_index_or as get_or, slice_set}
use Rattle.rv_hardware.proofs.Words.{Some, None, Option, sym, refl, ap, ◌∙◌, true≢false, arith, length-set}
use Rattle.rv_hardware.proofs.Words.{get_or-set_other, get_or-set_same, eqb-true, and_parts, cond-false, cond-true}
use Rattle.rv_hardware.proofs.Words.{eqb-false, false≢true, get_or_past, set_past, list_all-append, list_all, no_lines}
use Rattle.rv_hardware.proofs.Words.{is_load, is_serialising, is_store, is_target, sources_of_word, target_of_word}
use Rattle.rv_hardware.proofs.Words.{target_of, Message, Instr, Lines, Layout, Effect, effect, State, register_of}
use Rattle.rv_hardware.proofs.Words.{with_register, is_known as is_known_store, is_known_state, Store as QueuedStore}
use Rattle.rv_hardware.proofs.Words.{Entry, Stage, Hardware, broadcast_of, is_known_from, bytes_after, registers_after}
use Rattle.rv_hardware.proofs.Words.{store_of_broadcast, store_of_message, stores_of, with_store, with_value}
use Rattle.rv_hardware.proofs.Words.{has_operands, access_of, effect_message, result_of_word, layout_of, seen}
use Rattle.rv_hardware.proofs.Words.{state_after, stores_after}
use Rattle.rv_hardware.specs.InFlight.{is_known}
use Rattle.rv_hardware.proofs.Headline.Fold.{result_at, executed, after_entries, IsResult, AreInFlight}
use Rattle.rv_hardware.proofs.Headline.Result.{ReadsSame, same_result}

-- ---- x0 is nobody's target
abbrev IsNotZero : Option ℕ → Type 0
IsNotZero target = IfSome target (λ n. nat_eq n 0 ≡ false)

written_not_zero : (b : Bool) (rd : ℕ) → nat_eq rd 0 ≡ b → IsNotZero (cond b None (Some rd))
written_not_zero b rd is = grind arith

target_of_not_zero : (i : Instr) → IsNotZero (target_of i)
target_of_not_zero i = grind (arith, written_not_zero)

target_not_zero : (i : Option Instr) → IsNotZero (target_of_word i)
target_not_zero i = grind (arith, target_of_not_zero)

-- ---- registers
with_register_set : (registers : List ℕ) (rd value : ℕ) → nat_eq rd 0 ≡ false →
    with_register registers rd value ≡ slice_set registers rd value
with_register_set registers rd value is = cond-false (nat_eq rd 0) registers (slice_set registers rd value) is

length-with_register : (b : Bool) (registers : List ℕ) (rd value : ℕ) →
    length (cond b registers (slice_set registers rd value)) ≡ length registers
length-with_register b registers rd value = grind (arith, length-set)

-- there are as many registers after a value was written as before
pub length-with_value : (registers : List ℕ) (target : Option ℕ) (message : Option Message) →
    length (with_value registers target message) ≡ length registers
length-with_value registers target message = grind (arith, length-with_register)

past_end : (zs : List ℕ) (r value : ℕ) → length zs ≤ r → slice_index (slice_set zs r value) r ≡ 0
past_end zs r value past = ap (λ (xs : List ℕ). get_or xs r 0) (set_past zs r value past) ∙ get_or_past zs r 0 past

-- a register that was just written has the value, in any two lists of one length
same_where_written : (xs ys : List ℕ) (r value : ℕ) → length xs ≡ length ys →
    slice_index (slice_set xs r value) r ≡ slice_index (slice_set ys r value) r
same_where_written xs ys r value size = grind (arith, get_or-set_same, past_end)

-- the same where the youngest instruction is known, that writes the register
agree_after_one : (xs ys : List ℕ) (r : ℕ) (known : Bool) (target : Option ℕ) (broadcast : Option Message)
    (message : Message) →
    length xs ≡ length ys → (known ≡ true → slice_index xs r ≡ slice_index ys r) → IsNotZero target →
    IfSome broadcast (λ b. b ≡ message) → (if is_target r target then is_some broadcast else known) ≡ true →
    slice_index (with_value xs target broadcast) r ≡ slice_index (with_value ys target (Some message)) r
agree_after_one xs ys r known None broadcast message size same zero is test = same test
agree_after_one xs ys r known (Some rd) None message size same zero is test =
    grind (arith, false≢true, cond-true, eqb-false, cond-false, with_register_set, get_or-set_other)
agree_after_one xs ys r known (Some rd) (Some b) message size same zero is test =
    grind (arith, with_register_set, eqb-true, same_where_written, eqb-false, get_or-set_other, cond-false)

-- what was broadcast is the result
pub broadcast_is : (stage : Stage) (result : Message) → IsResult result stage →
    IfSome (broadcast_of stage) (λ b. b ≡ result)
broadcast_is stage result is = grind arith

module _ (layout : Layout) (now : State) where
  known_from : (older : List Entry) (s : State) (registers : List ℕ) {known : Bool} (r : ℕ) →
      AreInFlight layout now s older → length registers ≡ length s.registers →
      (known ≡ true → slice_index registers r ≡ register_of s r) → is_known_from known older r ≡ true →
      slice_index (registers_after registers older) r ≡ register_of (after_entries layout older s) r
  known_from [] s registers r all size same test = same test
  known_from (e ∷ es) s registers {known} r all size same test =
      let target = target_of_word e.instruction in
      let message = result_at layout s e in
      known_from es (executed layout e s) (with_value registers target (broadcast_of e.stage)) r all.1
      (length-with_value registers target (broadcast_of e.stage) ∙ size ∙
      sym (length-with_value s.registers target (Some message)))
      (agree_after_one registers s.registers r known target (broadcast_of e.stage) message size same
      (target_not_zero e.instruction) (broadcast_is e.stage message all.0.result))
      test

  pub operands_known : (older : List Entry) (s t : State) (sources : List (Option ℕ)) → AreInFlight layout now s older →
      t.registers ≡ registers_after s.registers older → has_operands older sources ≡ true →
      ReadsSame t (after_entries layout older s) sources
  operands_known older s t [] all is has = tt
  operands_known older s t (None ∷ sources) all is has = operands_known older s t sources all is has
  operands_known older s t (Some r ∷ sources) all is has =
      let parts = and_parts (is_known older r) (has_operands older sources) has in (
        ap (λ (xs : List ℕ). slice_index xs r) is ∙ known_from older s s.registers r all refl (λ h. refl) parts.0,
        operands_known older s t sources all is parts.1,
      )

-- ---- memory
no_store_of_effect : (effect : Effect) → (effect_message None effect).store ≡ None
no_store_of_effect effect = grind arith

no_access : (s : State) (i : Instr) → is_store (Some i) ≡ false → access_of s i ≡ None
no_access s i other = grind (arith, true≢false)

-- only stores write to memory
pub no_store : (layout : Layout) (s : State) (lines : Lines) (word : Option ℕ) (i : Option Instr) → is_store i ≡ false →
    (result_of_word layout s lines word i).store ≡ None
no_store layout s lines word i other = grind (arith, no_access, no_store_of_effect)

-- a store that is known has its bytes
store_known : (base : ℕ) (xs ys : List ℕ) (broadcast : Option Message) (message : Message) → xs ≡ ys →
    IfSome broadcast (λ b. b ≡ message) → is_known_state (store_of_broadcast broadcast) ≡ true →
    with_store base (store_of_broadcast broadcast) xs ≡ with_store base (store_of_message message.store) ys
store_known base xs ys broadcast message same is known = grind (arith, false≢true)

module _ (layout : Layout) (now : State) where
  known_by : {b : Bool} (e : Entry) (es : List Entry) (s : State) (seq : ℕ) {bytes : List ℕ} →
      is_store e.instruction ≡ b → IsResult (result_at layout s e) e.stage → bytes ≡ s.ram →
      ((bytes' : List ℕ) → bytes' ≡ (executed layout e s).ram →
      list_all is_known_store (stores_of (seq + 1) es) ≡ true →
      bytes_after layout.base (stores_of (seq + 1) es) bytes' ≡ (after_entries layout (e ∷ es) s).ram) →
      list_all is_known_store
      (if b then record { seq = seq; state = store_of_broadcast (broadcast_of e.stage) } ∷ stores_of (seq + 1) es
      else stores_of (seq + 1) es) ≡
      true →
      bytes_after layout.base
      (if b then record { seq = seq; state = store_of_broadcast (broadcast_of e.stage) } ∷ stores_of (seq + 1) es
      else stores_of (seq + 1) es)
      bytes ≡
      (after_entries layout (e ∷ es) s).ram
  known_by e es s seq is result same rest known = grind (arith, and_parts, store_known, broadcast_is, no_store)

  pub memory_known : (older : List Entry) (s : State) (seq : ℕ) {bytes : List ℕ} → AreInFlight layout now s older →
      bytes ≡ s.ram → list_all is_known_store (stores_of seq older) ≡ true →
      bytes_after layout.base (stores_of seq older) bytes ≡ (after_entries layout older s).ram
  memory_known [] s seq all same known = same
  memory_known (e ∷ es) s seq {bytes} all same known =
      known_by e es s seq refl all.0.result same
      (λ bytes' same' known'. memory_known es (executed layout e s) (seq + 1) all.1 same' known') known

-- memory after stores in two parts is memory after the second, begun after the first
pub bytes_after-append : (base : ℕ) (xs ys : List QueuedStore) (bytes : List ℕ) →
    bytes_after base (xs ++ ys) bytes ≡ bytes_after base ys (bytes_after base xs bytes)
bytes_after-append base [] ys bytes = refl
bytes_after-append base (x ∷ xs) ys bytes = bytes_after-append base xs ys (with_store base x.state bytes)

-- ---- so what an instruction gives that has its operands is the one-at-a-time machine's
module _ (h : Hardware) (older : List Entry) (e : Entry) where
  -- an instruction whose operands and older stores are known gives the result that it has in program order
  pub issued_result : AreInFlight (layout_of h.values) (seen h) (seen h) older →
      e.pc ≡ (after_entries (layout_of h.values) older (seen h)).pc → is_serialising e.instruction ≡ false →
      has_operands older (sources_of_word e.instruction) ≡ true →
      (is_load e.instruction ≡ true → list_all is_known_store (stores_after h older) ≡ true) →
      result_of_word (layout_of h.values) (state_after h older e.pc) h.lines e.word e.instruction ≡
      result_at (layout_of h.values) (after_entries (layout_of h.values) older (seen h)) e
  issued_result all here plain has known =
      same_result (state_after h older e.pc) (after_entries (layout_of h.values) older (seen h))
      (layout_of h.values) h.lines no_lines here e.word e.instruction plain
      (operands_known (layout_of h.values) (seen h) older (seen h) (state_after h older e.pc)
      (sources_of_word e.instruction) all refl has)
      (λ loads.
      bytes_after-append h.values.ram_base h.committed (stores_of h.rob.retired older) h.cache.bytes
      ∙ memory_known (layout_of h.values) (seen h) older (seen h) h.rob.retired all refl
      (and_parts (list_all is_known_store h.committed) (list_all is_known_store (stores_of h.rob.retired older))
      (sym (list_all-append is_known_store h.committed (stores_of h.rob.retired older)) ∙ known loads)).1)
