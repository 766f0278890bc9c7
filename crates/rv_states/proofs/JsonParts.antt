-- The text of each part is JSON, or members of an object, or lines of JSON, and has no markup.
use Rattle.std.proofs.Common.{ℕ, List, Bool, true, false, if◌then◌else◌, [], Option, Some, None, refl}
use Rattle.std.specs.Prelude.{codes, map, option_map}
use Rattle.rv_isa.specs.Choice.{predictor_name}
use Rattle.rv_isa.specs.declared.{broadcast.StoreAccess.StoreAccess, issues.Issue.Issue}
use Rattle.rv_isa.specs.declared.{lines.Lines.Lines, operations.Kind.Kind, per_kind.PerKind.PerKind}
use Rattle.rv_isa.specs.declared.operations.Kind.TheVariants as kind
use Rattle.rv_isa.specs.declared.values.{CacheValues.CacheValues, KindValues.KindValues, PredictorKind.PredictorKind}
use Rattle.rv_isa.specs.declared.values.{PredictorValues.PredictorValues, Recovery.Recovery, Values.Values}
use Rattle.rv_isa.specs.declared.values.Recovery.TheVariants.{Commit, Early}
use Rattle.rv_arch.specs.Csr.{Kept}
use Rattle.rv_arch.specs.declared.outcome.Stop.{Stop}
use Rattle.rv_arch.specs.declared.outcome.Stop.TheVariants.{Limit, Breakpoint, Stale, Exhausted}
use Rattle.rv_cache.specs.declared.line.CacheLine.{CacheLine}
use Rattle.rv_front.specs.FetchBuffer.{FetchBuffer}
use Rattle.rv_front.specs.declared.fetched.Fetched.{Fetched}
use Rattle.rv_hardware.specs.declared.step.Step.{Step}
use Rattle.rv_hardware.specs.declared.step.Step.TheVariants as step
use Rattle.rv_passage.specs.Passage.{is_in_flight}
use Rattle.rv_passage.specs.declared.passage.{Ending.Ending, Passage.Passage}
use Rattle.rv_passage.specs.declared.passage.Ending.TheVariants as ending
use Rattle.rv_rob.specs.declared.entry.{Entry.Entry, Stage.Stage}
use Rattle.rv_source.specs.Listing.{Line, Listed, line_at}
use Rattle.rv_stations.specs.declared.waiting.Operand.{Operand}
use Rattle.rv_stations.specs.declared.waiting.Operand.TheVariants.{Value, Tag}
use Rattle.rv_stores.specs.declared.store.{Store.Store, StorePhase.StorePhase, StoreState.StoreState}
use Rattle.rv_stores.specs.declared.store.StorePhase.TheVariants.{Speculative, Committed, Draining}
use Rattle.rv_stores.specs.declared.store.StoreState.TheVariants.{Waiting, Faulted, Filled}
use Rattle.rv_units.specs.Pool.{Pool}
use Rattle.rv_states.specs.Entry.{cause_of, cost_of, entry_text, fault_value_of, finished_in}
use Rattle.rv_states.specs.Entry.{head_text, issued_in, kind_text, next_pc_of, stage_text, value_of}
use Rattle.rv_states.specs.Fetched.{fetched_json, next_fetch_text}
use Rattle.rv_states.specs.Grammar.{AreLines, AreMembers, IsJson}
use Rattle.rv_states.specs.Instruction.{details_text, ended_text, ending_text, instruction_json}
use Rattle.rv_states.specs.Instruction.{passage_text, retired_text, squashed_text, trapped_text}
use Rattle.rv_states.specs.Json.{array, numeral, quoted}
use Rattle.rv_states.specs.Listing.{line_if, line_text, listing_lines, place_text, statement_text}
use Rattle.rv_states.specs.Machine.{buffers_text, cache_json, format_text, header_line, kind_json, kinds_text}
use Rattle.rv_states.specs.Machine.{machine_json, numbers_text, predictor_json, recovery_text, sizes_text, widths_text}
use Rattle.rv_states.specs.Observed.{lines_text as levels_text, observed_text}
use Rattle.rv_states.specs.Operand.{known_text, operand_json}
use Rattle.rv_states.specs.Place.{word_address}
use Rattle.rv_states.specs.Prediction.{asked_json, place_json}
use Rattle.rv_states.specs.Queue.{access_text, filling_text, head_text as store_head}
use Rattle.rv_states.specs.Queue.{phase_name, state_name, store_json}
use Rattle.rv_states.specs.Registers.{csrs_json, interrupts_text, trap_text}
use Rattle.rv_states.specs.Set.{line_json, lines_text}
use Rattle.rv_states.specs.Step.{interrupt_json, retirement_json, step_json, trap_json}
use Rattle.rv_states.specs.Stop.{stop_json, stop_line, stop_name}
use Rattle.rv_states.specs.Units.{start_json, units_json}
use Rattle.rv_states.specs.Word.{word_json, word_text}
use Rattle.rv_isa.proofs.Names.{predictor_name-word}
use Rattle.rv_states.proofs.Names.{word-safe}
use Rattle.rv_states.proofs.Grammar.{IsOpen}
use Rattle.rv_states.proofs.Safe.{IsSafe, array_of, beginning, begun, both, closes, counted, counted_some}
use Rattle.rv_states.proofs.Safe.{each_safe, in_quotes, last, lines_each, member, more, no_lines}
use Rattle.rv_states.proofs.Safe.{no_members, number, object, object_line, one_line, string_of, truth_of}

-- the machine
sizes : (v : Values) → IsSafe IsOpen (sizes_text v)
unfolding sizes_text
sizes v = begun (beginning _ refl (number _)) (both (counted _ refl _) (counted _ refl _))

widths : (v : Values) → IsSafe AreMembers (widths_text v)
unfolding widths_text
widths v = both (counted _ refl _) (both (counted _ refl _) (both (counted _ refl _) (counted _ refl _)))

buffers : (v : Values) → IsSafe AreMembers (buffers_text v)
unfolding buffers_text
buffers v = both (counted _ refl _) (both (counted _ refl _) (both (counted _ refl _) (counted _ refl _)))

recovery : (r : Recovery) → IsSafe AreMembers (recovery_text r)
unfolding recovery_text
recovery Commit = member _ refl (in_quotes _ refl)
recovery Early = member _ refl (in_quotes _ refl)

numbers : (v : Values) → IsSafe IsOpen (numbers_text v)
unfolding numbers_text
numbers v = begun (sizes v) (both (widths v) (both (buffers v) (recovery v.recovery)))

kind_of : (k : KindValues) → IsSafe IsJson (kind_json k)
unfolding kind_json
kind_of k = object (beginning _ refl (number _))
    (more (both (counted _ refl _) (both (counted _ refl _) (member _ refl (truth_of _)))) closes)

kinds : (v : Values) → IsSafe AreMembers (kinds_text v)
unfolding kinds_text
kinds v = both (member _ refl (kind_of _))
    (both (member _ refl (kind_of _)) (both (member _ refl (kind_of _)) (member _ refl (kind_of _))))

cache : (c : CacheValues) → IsSafe IsJson (cache_json c)
unfolding cache_json
cache c =
    object (beginning _ refl (number _))
    (more (both (counted _ refl _)
    (both (counted _ refl _) (both (counted _ refl _) (both (counted _ refl _) (counted _ refl _))))) closes)

predictor_named : (p : PredictorKind) → IsSafe IsJson (quoted (predictor_name p))
predictor_named p = in_quotes _ (word-safe (predictor_name p) (predictor_name-word p))

predictor : (p : PredictorValues) → IsSafe IsJson (predictor_json p)
unfolding predictor_json
predictor p = object (beginning _ refl (number _)) (more (member _ refl (predictor_named p.kind)) closes)

machine : (v : Values) → IsSafe IsJson (machine_json v)
unfolding machine_json
machine v = object (numbers v)
    (more (kinds v) (more (member _ refl (cache _)) (more (member _ refl (predictor _)) closes)))

format : (first : ℕ) → IsSafe IsOpen (format_text first)
unfolding format_text
format first = begun (beginning _ refl (number _)) (member _ refl (in_quotes _ refl))

-- the first line is lines of JSON
pub header_is : (first : ℕ) (v : Values) → IsSafe AreLines (header_line first v)
unfolding header_line
header_is first v = object_line (format first) (last (codes "machine") refl (machine v))

-- the program
place : (address n : ℕ) → IsSafe IsOpen (place_text address n)
unfolding place_text
place address n = begun (beginning _ refl (number _)) (counted _ refl _)

statement : (is_first : Bool) (text : List ℕ) → IsSafe AreMembers (statement_text is_first text)
unfolding statement_text
statement true text = member _ refl (string_of text)
statement false text = no_members

line_is : (is_first : Bool) (address : ℕ) (line : Line) → IsSafe AreLines (line_text is_first address line)
unfolding line_text
line_is is_first address line = object_line (place address line.number) (more (statement is_first line.text) closes)

line_if_is : (before : Option ℕ) (address : ℕ) (line : Option Line) → IsSafe AreLines (line_if before address line)
line_if_is before address None = no_lines
line_if_is before address (Some line) = line_is _ address line

-- the lines of the program are
pub listing_is : (listing : Listed) (v : Values) → IsSafe AreLines (listing_lines listing v)
unfolding listing_lines
listing_is listing v = lines_each _
    (λ n. line_if_is _ (word_address v.ram_base n) (line_at listing (word_address v.ram_base n))) _

-- memory and the cache
pub word_is : (address word : ℕ) (stale : Bool) → IsSafe AreLines (word_text address word stale)
unfolding word_json word_text
word_is address word stale =
    one_line (object (beginning _ refl (number _)) (more (both (counted _ refl _) (member _ refl (truth_of _))) closes))

cache_line : (line : CacheLine) → IsSafe IsJson (line_json line)
unfolding line_json
cache_line line = object (beginning _ refl (number _)) (more (member _ refl (truth_of _)) closes)

-- the lines of a set of the cache are
pub set_is : (set : ℕ) (lines : List CacheLine) → IsSafe AreLines (lines_text set lines)
unfolding lines_text
set_is set lines = object_line (beginning _ refl (number _))
    (more (member _ refl (array_of _ (each_safe line_json cache_line lines))) closes)

-- the reorder buffer
kind_is : (kind : Option Kind) → IsSafe AreMembers (kind_text kind)
unfolding kind_text
kind_is None = no_members
kind_is (Some kind.Alu) = member _ refl (in_quotes _ refl)
kind_is (Some kind.Mul) = member _ refl (in_quotes _ refl)
kind_is (Some kind.Div) = member _ refl (in_quotes _ refl)
kind_is (Some kind.Mem) = member _ refl (in_quotes _ refl)

head_is : (n : ℕ) (e : Entry) → IsSafe IsOpen (head_text n e)
unfolding head_text
head_is n e =
    begun (beginning _ refl (number _))
    (both (counted _ refl _)
    (both (counted_some _ refl _)
    (both (counted _ refl _) (both (counted _ refl _) (both (counted _ refl _) (counted_some _ refl _))))))

stage_is : (stage : Stage) → IsSafe AreMembers (stage_text stage)
unfolding stage_text
stage_is stage =
    both (counted_some (codes "issued") refl (issued_in stage))
    (both (counted_some (codes "cost") refl (cost_of stage))
    (both (counted_some (codes "finished") refl (finished_in stage))
    (both (counted_some (codes "value") refl (value_of stage))
    (both (counted_some (codes "next_pc") refl (next_pc_of stage))
    (both (counted_some (codes "cause") refl (cause_of stage))
    (counted_some (codes "mtval") refl (fault_value_of stage)))))))

-- an entry of the reorder buffer is an object that is still open
pub entry_is : (n : ℕ) (e : Entry) → IsSafe IsOpen (entry_text n e)
unfolding entry_text
entry_is n e = begun (head_is n e) (both (kind_is _) (stage_is _))

known_is : (operand : Operand) → IsSafe AreMembers (known_text operand)
unfolding known_text
known_is (Value value) = counted _ refl _
known_is (Tag number) = counted _ refl _

-- an operand is a value
pub operand_is : (register : ℕ) (operand : Operand) → IsSafe IsJson (operand_json register operand)
unfolding operand_json
operand_is register operand = object (beginning _ refl (number _)) (more (known_is operand) closes)

-- what happened in a cycle
passage_is : (p : Passage) → IsSafe AreMembers (passage_text p)
unfolding passage_text
passage_is p =
    both (counted _ refl p.pc)
    (both (counted_some _ refl p.word) (both (counted _ refl p.fetched) (both (counted_some _ refl p.dispatched)
    (both (counted_some (codes "issued") refl (option_map (λ (issue : Issue). issue.cycle) p.issue))
    (both (counted_some (codes "cost") refl (option_map (λ (issue : Issue). issue.cost) p.issue))
    (counted_some _ refl p.broadcast))))))

ending_is : (e : Ending) → IsSafe AreMembers (ending_text e)
unfolding retired_text trapped_text squashed_text
ending_is ending.InFlight = no_members
ending_is (ending.Retired order cycle None next) = member _ refl (in_quotes _ refl)
ending_is (ending.Retired order cycle (Some written) next) =
    both (member _ refl (in_quotes _ refl)) (both (counted _ refl _) (counted _ refl _))
ending_is (ending.Trapped cycle cause) = both (member _ refl (in_quotes _ refl)) (counted _ refl _)
ending_is (ending.Squashed cycle) = member _ refl (in_quotes _ refl)

unless : (hidden : Bool) {text : List ℕ} → IsSafe AreMembers text → IsSafe AreMembers (if hidden then [] else text)
unless true are = no_members
unless false are = are

details_are : (p : Passage) → IsSafe AreMembers (details_text p)
unfolding ended_text
details_are p = let all : IsSafe AreMembers (ended_text p) = both (passage_is p) (ending_is p.ending) in
    unless (is_in_flight p) all

-- an instruction is a value
pub instruction_is : (p : Passage) → IsSafe IsJson (instruction_json p)
unfolding instruction_json
instruction_is p = object (beginning _ refl (number _)) (more (details_are p) closes)

-- a step is a value
pub step_is : (s : Step) → IsSafe IsJson (step_json s)
unfolding retirement_json trap_json interrupt_json
step_is (step.Retired row) = object (beginning _ refl (number _)) (more (member _ refl (in_quotes _ refl)) closes)
step_is (step.Trap pc cause value cycle) =
    object (beginning _ refl (number _))
    (more (both (member _ refl (in_quotes _ refl)) (both (counted _ refl _) (counted _ refl _))) closes)
step_is (step.Interrupt pc cause cycle) =
    object (beginning _ refl (number _)) (more (both (member _ refl (in_quotes _ refl)) (counted _ refl _)) closes)

-- the fetch buffer
pub fetched_is : (f : Fetched) → IsSafe IsJson (fetched_json f)
unfolding fetched_json
fetched_is f = object (beginning _ refl (number _))
    (more (both (counted_some _ refl _) (both (counted _ refl _) (counted _ refl _))) closes)

-- where the fetch goes on is members of an object
pub next_fetch_is : (f : FetchBuffer) → IsSafe AreMembers (next_fetch_text f)
unfolding next_fetch_text
next_fetch_is f = both (counted _ refl _) (member _ refl (truth_of _))

-- the units
start_is : (start : Issue) → IsSafe IsJson (start_json start)
unfolding start_json
start_is start = object (beginning _ refl (number _)) (more (counted _ refl _) closes)

starts_are : (pool : Pool) → IsSafe IsJson (array (map start_json pool.starts))
starts_are pool = array_of _ (each_safe start_json start_is pool.starts)

-- the units are a value
pub units_are : (units : PerKind Pool) → IsSafe IsJson (units_json units)
unfolding units_json
units_are units =
    object (beginning _ refl (starts_are units.alu))
    (more (member _ refl (starts_are units.mul))
    (more (member _ refl (starts_are units.div)) (more (member _ refl (starts_are units.mem)) closes)))

-- the store queue
access_is : (access : StoreAccess) → IsSafe AreMembers (access_text access)
unfolding access_text
access_is access = both (counted _ refl _) (member _ refl (array_of _ (each_safe numeral number _)))

phase_is : (phase : StorePhase) → IsSafe IsJson (quoted (phase_name phase))
phase_is Speculative = in_quotes _ refl
phase_is Committed = in_quotes _ refl
phase_is Draining = in_quotes _ refl

state_is : (state : StoreState) → IsSafe IsJson (quoted (state_name state))
state_is Waiting = in_quotes _ refl
state_is Faulted = in_quotes _ refl
state_is (Filled access phase) = phase_is phase

filling_is : (state : StoreState) → IsSafe AreMembers (filling_text state)
filling_is Waiting = no_members
filling_is Faulted = no_members
filling_is (Filled access phase) = access_is access

-- a store is a value
pub store_is : (store : Store) → IsSafe IsJson (store_json store)
unfolding store_head store_json
store_is store = object (begun (beginning _ refl (number _)) (member _ refl (state_is _)))
    (more (filling_is store.state) closes)

-- what retired instructions left
levels_are : (lines : Lines) → IsSafe AreMembers (levels_text lines)
unfolding levels_text
levels_are lines = both (member _ refl (truth_of _)) (both (member _ refl (truth_of _)) (member _ refl (truth_of _)))

csrs_are : (kept : Kept) (lines : Lines) → IsSafe IsJson (csrs_json kept lines)
unfolding interrupts_text trap_text csrs_json
csrs_are kept lines =
    object (begun (beginning _ refl (number _)) (both (counted _ refl _) (both (counted _ refl _) (counted _ refl _))))
    (more (both (counted _ refl _) (both (counted _ refl _) (both (counted _ refl _) (counted _ refl _)))) closes)

-- the state that programs see is an object that is still open
pub observed_is : (pc : ℕ) (registers : List ℕ) (kept : Kept) (lines : Lines) →
    IsSafe IsOpen (observed_text pc registers kept lines)
unfolding observed_text
observed_is pc registers kept lines =
    begun (beginning _ refl (number _))
    (both (member _ refl (array_of _ (each_safe numeral number registers)))
    (both (member _ refl (csrs_are kept lines)) (levels_are lines)))

-- the end
stop_named : (stop : Stop) → IsSafe IsJson (quoted (stop_name stop))
stop_named Limit = in_quotes _ refl
stop_named Breakpoint = in_quotes _ refl
stop_named (Stale pc) = in_quotes _ refl
stop_named Exhausted = in_quotes _ refl

-- the last line is lines of JSON
pub stop_is : (cycles : ℕ) (stop : Stop) → IsSafe AreLines (stop_line cycles stop)
unfolding stop_json stop_line
stop_is cycles stop = one_line (object (beginning _ refl (number _)) (more (member _ refl (stop_named stop)) closes))

-- a place of the predictor's tables
pub place_is : (place counter : ℕ) (target : Option ℕ) → IsSafe IsJson (place_json place counter target)
unfolding place_json
place_is place counter target =
    object (beginning _ refl (number place)) (more (both (counted _ refl counter) (counted_some _ refl target)) closes)

-- a word that it was asked of
pub asked_is : (pc : ℕ) (place : Option ℕ) (answer : ℕ) → IsSafe IsJson (asked_json pc place answer)
unfolding asked_json
asked_is pc place answer =
    object (beginning _ refl (number pc)) (more (both (counted_some _ refl place) (counted _ refl answer)) closes)
