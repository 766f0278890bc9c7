-- What a described predictor answers is an address, where it was taught addresses.
use Rattle.rv_hardware.proofs.Words.{ℕ, ◌<◌, ◌^◌, Bool, true, false, if◌then◌else◌, IfSome, Option, Some, None, arith}
use Rattle.rv_hardware.proofs.Words.{nat_le, unwrap_or, pc_plus_4, zero, suc, List, [], ◌∷◌, replicate, slice_index_or}
use Rattle.rv_hardware.proofs.Words.{slice_set}
use Rattle.rv_decode.specs.Decodes.{instruction_of}
use Rattle.rv_isa.specs.declared.values.PredictorKind.{PredictorKind}
use Rattle.rv_isa.specs.declared.values.PredictorKind.TheVariants as kind
use Rattle.rv_isa.specs.declared.instructions.Instr.{Instr}
use Rattle.rv_isa.specs.declared.instructions.Instr.TheVariants.{Branch, Jal, Jalr}
use Rattle.rv_front.specs.Flow.{flow_after, flow_at, flow_of}
use Rattle.rv_front.specs.Lesson.{Lesson}
use Rattle.rv_front.specs.Predictors.{counter_at, described, learned, place_of, predicted, tables_of, taught, target_at}
use Rattle.rv_front.specs.Tables.{Tables}
use Rattle.rv_front.specs.declared.flow.Flow.{Flow}
use Rattle.rv_front.specs.declared.flow.Flow.TheVariants as flow
use Rattle.rv_front.specs.declared.predictors.DescribedPredictor.{DescribedPredictor}
use Rattle.rv_front.specs.declared.predictors.DescribedPredictor.TheVariants.{BackwardTaken, Bimodal, NotTaken}
use Rattle.rv_hardware_tests.proofs.Fetches.{AnswersAddresses}
use Rattle.rv_hardware_tests.proofs.Programs.{described_answer, straight_ahead, unchanged}

-- the next word's address is one
pub straight_addresses : AnswersAddresses straight_ahead unchanged tt
straight_addresses pc word = omega arith

-- where a flow leads is an address
abbrev LeadsToAddress : Flow → Type 0
LeadsToAddress (flow.Jump target) = target < 2 ^ 32
LeadsToAddress (flow.Branch target backward) = target < 2 ^ 32
LeadsToAddress _ = Unit {0}

flow_of_leads : (pc : ℕ) (instruction : Instr) → LeadsToAddress (flow_of pc instruction)
flow_of_leads pc (Jal rd offset) = omega arith
flow_of_leads pc (Jalr rd rs1 offset) = tt
flow_of_leads pc (Branch condition rs1 rs2 offset) = omega arith
flow_of_leads pc other = tt

flow_leads : (pc : ℕ) (instruction : Option Instr) → LeadsToAddress (flow_after pc instruction)
flow_leads pc None = tt
flow_leads pc (Some instruction) = flow_of_leads pc instruction

taken_or_not : (pc target : ℕ) (is_taken : Bool) → target < 2 ^ 32 →
    (if is_taken then target else pc_plus_4 pc) < 2 ^ 32
taken_or_not pc target true is = is
taken_or_not pc target false is = omega arith

known_or_next : (pc : ℕ) (known : Option ℕ) → IfSome known (λ target. target < 2 ^ 32) →
    unwrap_or known (pc_plus_4 pc) < 2 ^ 32
known_or_next pc None is = omega arith
known_or_next pc (Some target) is = is

predicts_address : (is_taken : Bool → Bool) (known : Option ℕ) (pc : ℕ) (f : Flow) →
    IfSome known (λ target. target < 2 ^ 32) → LeadsToAddress f → predicted is_taken known pc f < 2 ^ 32
predicts_address is_taken known pc flow.Sequential is leads = omega arith
predicts_address is_taken known pc (flow.Jump target) is leads = leads
predicts_address is_taken known pc (flow.Branch target backward) is leads =
    taken_or_not pc target (is_taken backward) leads
predicts_address is_taken known pc flow.Indirect is leads = known_or_next pc known is

-- a target that is known is an address
abbrev IsAddress : Option ℕ → Type 0
IsAddress known = IfSome known (λ target. target < 2 ^ 32)

-- each target in some tables is one
abbrev pub HaveAddresses : Tables → Type 0
HaveAddresses tables = (place : ℕ) → IsAddress (slice_index_or tables.targets place None)

-- each target that the predictor was taught is one
abbrev pub KeepsAddresses : DescribedPredictor → Type 0
KeepsAddresses predictor = IfSome (tables_of predictor) HaveAddresses

-- a described predictor whose targets are addresses answers with addresses
pub described_addresses : (predictor : DescribedPredictor) → KeepsAddresses predictor →
    AnswersAddresses described_answer taught predictor
described_addresses (NotTaken plain) keeps pc word =
    predicts_address (λ backward. false) None pc (flow_at pc word) tt (flow_leads pc (instruction_of word))
described_addresses (BackwardTaken plain) keeps pc word =
    predicts_address (λ backward. backward) None pc (flow_at pc word) tt (flow_leads pc (instruction_of word))
described_addresses (Bimodal tables) keeps pc word =
    predicts_address (λ backward. nat_le 2 (counter_at tables pc)) (target_at tables pc) pc (flow_at pc word)
    (keeps (place_of tables pc)) (flow_leads pc (instruction_of word))

no_targets : (entries place : ℕ) → IsAddress (slice_index_or (replicate entries None) place None)
no_targets zero place = tt
no_targets (suc entries) zero = tt
no_targets (suc entries) (suc place) = no_targets entries place

-- one that was taught nothing keeps none
pub described_keeps : (kind : PredictorKind) (entries : ℕ) → KeepsAddresses (described kind entries)
described_keeps kind.Bimodal entries = no_targets entries
described_keeps _ entries = tt

one_more_target : (targets : List (Option ℕ)) (to next place : ℕ) → next < 2 ^ 32 →
    IsAddress (slice_index_or targets place None) →
    IsAddress (slice_index_or (slice_set targets to (Some next)) place None)
one_more_target [] to next place fits is = is
one_more_target (t ∷ ts) zero next zero fits is = fits
one_more_target (t ∷ ts) zero next (suc place) fits is = is
one_more_target (t ∷ ts) (suc to) next zero fits is = is
one_more_target (t ∷ ts) (suc to) next (suc place) fits is = one_more_target ts to next place fits is

learned_keeps : (tables : Tables) (pc next : ℕ) (f : Flow) → next < 2 ^ 32 → HaveAddresses tables →
    HaveAddresses (learned tables pc next f)
learned_keeps tables pc next flow.Sequential fits have = have
learned_keeps tables pc next (flow.Jump target) fits have = have
learned_keeps tables pc next (flow.Branch target backward) fits have = have
learned_keeps tables pc next flow.Indirect fits have =
    λ place. one_more_target tables.targets (place_of tables pc) next place fits (have place)

-- a lesson of where the program went on keeps them addresses
pub taught_keeps : (predictor : DescribedPredictor) (lesson : Lesson) → lesson.next < 2 ^ 32 →
    KeepsAddresses predictor → KeepsAddresses (taught predictor lesson)
taught_keeps (Bimodal tables) lesson fits keeps =
    learned_keeps tables lesson.pc lesson.next (flow_at lesson.pc lesson.word) fits keeps
taught_keeps plain lesson fits keeps = keeps
