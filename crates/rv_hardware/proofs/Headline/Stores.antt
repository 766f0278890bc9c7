-- What the stores in flight write lies in writable RAM.
use Rattle.rv_hardware.proofs.Words.{◌≡◌, ℕ, ◌+◌, ◌%◌, true, false, List, [], ◌∷◌, ◌++◌, IfSome, Option, sym, subst}
use Rattle.rv_hardware.proofs.Words.{false≢true, is_serialising, is_store, Message, StoreAccess, Instr, Lines, Layout}
use Rattle.rv_hardware.proofs.Words.{Effect, effect, State, Each, Entry, Stage, Finished, Running, Waiting, Hardware}
use Rattle.rv_hardware.proofs.Words.{broadcast_of, store_of_broadcast, store_of_message, stores_of, effect_message}
use Rattle.rv_hardware.proofs.Words.{result_of_word, Reachable, layout_of, seen, stores_after, arith, each_then}
use Rattle.rv_hardware.proofs.Words.{Each-append}
use Rattle.rv_hardware.proofs.Headline.Bytes.{IsStateInside, IsInside}
use Rattle.rv_hardware.proofs.Headline.Cycle.{always_sound}
use Rattle.rv_hardware.proofs.Headline.Fold.{executed, IsResult, AreInFlight}
use Rattle.rv_hardware.proofs.Headline.Invariant.{IsSound}
use Rattle.rv_hardware.proofs.Headline.Known.{no_store}
use Rattle.rv_hardware.proofs.Headline.Retires.{IsRecorded, IsStoreAccess, effect_recorded}
use Rattle.rv_hardware.proofs.Headline.Split.{AreInFlight-older}

-- a serialising instruction is no store
pub serialising_is_no_store : (i : Option Instr) → is_serialising i ≡ true → is_store i ≡ false
serialising_is_no_store i serial = grind (arith, false≢true)

store_of_effect : (layout : Layout) (s : State) (target : Option ℕ) (access : Option StoreAccess) (effect : Effect) →
    IsRecorded layout s target access effect → IfSome (effect_message access effect).store (IsStoreAccess layout)
store_of_effect layout s target access effect recorded = grind arith

store_inside : (layout : Layout) (s : State) (lines : Lines) (word : Option ℕ) (i : Option Instr) → s.pc % 4 ≡ 0 →
    IfSome (result_of_word layout s lines word i).store (IsStoreAccess layout)
store_inside layout s lines word i here =
    grind (arith, no_store, serialising_is_no_store, store_of_effect, effect_recorded)

-- what an instruction that executes, or did, writes to memory
abbrev pub IsStageInside : Layout → Stage → Type 0
IsStageInside layout Waiting = Unit {0}
IsStageInside layout (Running issue message) = IfSome message.store (IsStoreAccess layout)
IsStageInside layout (Finished issue cycle message) = IfSome message.store (IsStoreAccess layout)

stage_inside : (layout : Layout) (result : Message) (stage : Stage) → IfSome result.store (IsStoreAccess layout) →
    IsResult result stage → IsStageInside layout stage
stage_inside layout result stage legal is = grind arith

pub stages_inside : (layout : Layout) (now : State) (es : List Entry) (s : State) → s.pc % 4 ≡ 0 →
    AreInFlight layout now s es → Each (λ e. IsStageInside layout e.stage) es
stages_inside layout now [] s here all = tt
stages_inside layout now (e ∷ es) s here all =
    grind (arith, stage_inside, store_inside, stages_inside layout now es (executed layout e s) all.0.aligned all.1)

message_inside : (layout : Layout) (access : Option StoreAccess) → IfSome access (IsStoreAccess layout) →
    IsStateInside layout (store_of_message access)
message_inside layout access legal = grind arith

broadcast_inside : (layout : Layout) (stage : Stage) → IsStageInside layout stage →
    IsStateInside layout (store_of_broadcast (broadcast_of stage))
broadcast_inside layout stage legal = grind (arith, message_inside)

stores_of_inside : (layout : Layout) (es : List Entry) (seq : ℕ) → Each (λ e. IsStageInside layout e.stage) es →
    Each (IsInside layout) (stores_of seq es)
stores_of_inside layout [] seq all = tt
stores_of_inside layout (e ∷ es) seq all = grind (arith, broadcast_inside, stores_of_inside layout es (seq + 1) all.1)

-- the stores that are older than an instruction in flight
pub stores_inside : (h : Hardware) → Reachable h → (older younger : List Entry) → h.rob.entries ≡ older ++ younger →
    Each (IsInside (layout_of h.values)) (stores_after h older)
stores_inside h reached older younger entries =
    let is : IsSound h = always_sound reached in
    let layout = layout_of h.values in
    let all : AreInFlight layout (seen h) (seen h) older =
    AreInFlight-older layout (seen h) (seen h) older younger
    (subst (AreInFlight layout (seen h) (seen h)) entries is.program.in_flight) in
    Each-append _ _ _
    (each_then (λ s retired. subst (IsStateInside layout) (sym retired.state_is) retired.legal) _ is.memory.retired)
    (stores_of_inside layout older h.rob.retired (stages_inside layout (seen h) older (seen h) is.pc_aligned all))
