-- Each line of the states of a run is JSON, and has no markup.
use Rattle.std.proofs.Common.{◌≡◌, ℕ, ◌+◌, List, [], ◌∷◌, Option, Some, None, refl}
use Rattle.std.specs.Prelude.{◌++◌, ◌==◌, Bool, true, false, codes, get_or, length, if◌then◌else◌}
use Rattle.std.specs.FinSet as set
use Rattle.std.specs.Option.{option_map_or}
use Rattle.std.specs.List.{flat_map, list_all}
use Rattle.rv_isa.specs.declared.instructions.Instr.{Instr}
use Rattle.rv_arch.specs.declared.outcome.Stop.{Stop}
use Rattle.rv_cache.specs.declared.line.CacheLine.{CacheLine}
use Rattle.rv_watch.specs.Registers.{RegisterStatus, status_with}
use Rattle.rv_watch.specs.Progress.{progress_of}
use Rattle.rv_watch.specs.declared.progress.Progress.{Progress}
use Rattle.rv_memory.specs.Memory.{word_of}
use Rattle.rv_front.specs.Flow.{flow_at}
use Rattle.rv_front.specs.Predictors.{answer, tables_of}
use Rattle.rv_front.specs.Tables.{Tables}
use Rattle.rv_front.specs.declared.{fetched.Fetched.Fetched, predictors.DescribedPredictor.DescribedPredictor}
use Rattle.rv_hardware.specs.Hardware.{Hardware}
use Rattle.rv_hardware.specs.History.{Moment}
use Rattle.rv_hardware.specs.Report.{all_stalls, stall_name}
use Rattle.rv_hardware.specs.Seen.{layout_of, seen}
use Rattle.rv_hardware.specs.declared.{report.Stall.Stall, step.Step.Step}
use Rattle.rv_hardware.specs.declared.step.Step.TheVariants.{Retired, Trap, Interrupt}
use Rattle.rv_passage.specs.Passage.{is_in_flight}
use Rattle.rv_passage.specs.Table.{still_open}
use Rattle.rv_passage.specs.Walk.{FollowedCycle, walk}
use Rattle.rv_passage.specs.declared.passage.Passage.{Passage}
use Rattle.rv_rob.specs.declared.entry.{Entry.Entry, Stage.Stage}
use Rattle.rv_rob.specs.declared.entry.Stage.TheVariants.{Waiting, Running, Finished}
use Rattle.rv_source.specs.Listing.{Listed}
use Rattle.rv_states.specs.Counts.{counts_json, counts_text, stall_count, stall_text}
use Rattle.rv_states.specs.Cycle.{cycle_line, json_in_flight, rest_text, start_line}
use Rattle.rv_states.specs.Entries.{entries_json, entry_json}
use Rattle.rv_states.specs.Fetched.{fetched_json}
use Rattle.rv_states.specs.Grammar.{AreLines, AreMembers, IsJson}
use Rattle.rv_states.specs.Instruction.{instruction_json}
use Rattle.rv_states.specs.Memory.{memory_line, memory_lines, word_if, word_seen}
use Rattle.rv_states.specs.Operands.{operand_text, operands_of, operands_text}
use Rattle.rv_states.specs.Place.{word_address}
use Rattle.rv_states.specs.Predictor.{asked_in, asked_of, asked_text, learned_places, learned_text}
use Rattle.rv_states.specs.Predictor.{place_if, place_in, place_line, place_lines, place_taught}
use Rattle.rv_states.specs.Predictor.{predictor_lines, predictor_text, uses_tables, untaught_predictor}
use Rattle.rv_states.specs.Queue.{store_json}
use Rattle.rv_states.specs.Sets.{lines_if, set_line, set_lines}
use Rattle.rv_states.specs.State.{in_flight_text, parts_text, state_json}
use Rattle.rv_states.specs.States.{cycle_text, cycles_text, head_text, lines_text, opening_text}
use Rattle.rv_states.specs.States.{states_text, storage_text, taught_by, window_text}
use Rattle.rv_states.specs.Step.{step_json}
use Rattle.rv_hardware.proofs.StallNames.{stall_name-word}
use Rattle.rv_states.proofs.Names.{is_safe_byte, word-safe}
use Rattle.rv_states.proofs.JsonParts.{asked_is, entry_is, fetched_is, header_is, instruction_is}
use Rattle.rv_states.proofs.JsonParts.{listing_is, next_fetch_is, observed_is, operand_is, place_is}
use Rattle.rv_states.proofs.JsonParts.{set_is, step_is, stop_is, store_is, units_are, word_is}
use Rattle.rv_states.proofs.Safe.{AllSafe, IsSafe, array_of, beginning, both, closes, counted, each_safe}
use Rattle.rv_states.proofs.Safe.{in_quotes, lines_both, lines_each, lines_unless, lines_where, member}
use Rattle.rv_states.proofs.Safe.{members_each, more, no_lines, no_members, number, object, object_line, one_line}

stall_name-safe : (reason : Stall) → list_all is_safe_byte (stall_name reason) ≡ true
stall_name-safe reason = word-safe (stall_name reason) (stall_name-word reason)

stall : (s : Option Stall) → IsSafe AreMembers (stall_text s)
unfolding stall_text
stall None = no_members
stall (Some reason) = member _ refl (in_quotes _ (stall_name-safe reason))

totals : (p : Progress) → IsSafe IsJson (counts_json p)
unfolding counts_json
totals p =
    object (beginning _ refl (number _)) (more (counted _ refl _)
    (more (members_each (stall_count p.stalls) (λ reason. counted (stall_name reason) (stall_name-safe reason)
    _) all_stalls) closes))

counts : (p : Progress) → IsSafe AreMembers (counts_text p)
unfolding counts_text
counts p = both (stall p.stall) (member _ refl (totals p))

-- the reorder buffer
operand : (name : List ℕ) → list_all is_safe_byte name ≡ true → (status : RegisterStatus) (register : Option ℕ) →
    IsSafe AreMembers (operand_text name status register)
unfolding operand_text
operand name plain status None = no_members
operand name plain status (Some register) = member name plain (operand_is register (status register))

operands : (status : RegisterStatus) (stage : Stage) (instruction : Option Instr) →
    IsSafe AreMembers (operands_text status stage instruction)
unfolding operands_of
operands status Waiting None = no_members
operands status Waiting (Some instruction) =
    both (operand (codes "first") refl status _) (operand (codes "second") refl status _)
operands status (Running issue message) instruction = no_members
operands status (Finished issue cycle message) instruction = no_members

entry : (status : RegisterStatus) (n : ℕ) (e : Entry) → IsSafe IsJson (entry_json status n e)
unfolding entry_json
entry status n e = object (entry_is n e) (more (operands status e.stage e.instruction) closes)

entries : (status : RegisterStatus) (n : ℕ) (es : List Entry) → AllSafe (entries_json status n es)
entries status n [] = tt
entries status n (e ∷ es) = (entry status n e, entries (status_with status n e) (n + 1) es)

-- the hardware
in_flight : (h : Hardware) → IsSafe AreMembers (in_flight_text h)
unfolding in_flight_text
in_flight h =
    both (member _ refl (array_of _ (entries _ _ h.rob.entries)))
    (both (member _ refl (array_of _ (each_safe fetched_json fetched_is _))) (next_fetch_is _))

parts : (h : Hardware) → IsSafe AreMembers (parts_text h)
unfolding parts_text
parts h = both (member _ refl (units_are _))
    (both (member _ refl (array_of _ (each_safe store_json store_is _))) (counted _ refl _))

state : (h : Hardware) → IsSafe IsJson (state_json h)
unfolding state_json
state h = object (observed_is _ _ _ _) (more (in_flight h) (more (parts h) closes))

rest : (h : Hardware) (p : Progress) → IsSafe AreMembers (rest_text h p)
unfolding rest_text
rest h p = both (counts p) (member _ refl (state h))

-- what the predictor knows and answers
place_of_tables : (place counter : ℕ) (target : Option ℕ) → IsSafe AreLines (place_if place counter target)
place_of_tables place counter target = lines_unless _ (one_line (place_is place counter target))

places_in : (kept : Option Tables) → IsSafe AreLines (option_map_or place_lines kept [])
unfolding place_lines
places_in None = no_lines
places_in (Some tables) = lines_each (place_line tables) (λ place. place_of_tables place _ _) _

places : (predictor : DescribedPredictor) → IsSafe AreLines (predictor_lines predictor)
places predictor = places_in (tables_of predictor)

if_shown : (shown : Bool) (values : List (List ℕ)) → AllSafe values → AllSafe (if shown then values else [])
if_shown true values are = are
if_shown false values are = tt

one_after_the_other : (xs ys : List (List ℕ)) → AllSafe xs → AllSafe ys → AllSafe (xs ++ ys)
one_after_the_other [] ys first second = second
one_after_the_other (x ∷ xs) ys first second = (first.0, one_after_the_other xs ys first.1 second)

all_given : {X : Type 0} (values : X → List (List ℕ)) → ((x : X) → AllSafe (values x)) → (xs : List X) →
    AllSafe (flat_map values xs)
all_given values are [] = tt
all_given values are (x ∷ xs) = one_after_the_other (values x) (flat_map values xs) (are x) (all_given values are xs)

taught_place : (tables : Tables) (step : Step) → AllSafe (place_taught tables step)
taught_place tables (Retired row) = if_shown (uses_tables (flow_at row.pc row.word)) _ (place_is _ _ _, tt)
taught_place tables (Trap pc cause value cycle) = tt
taught_place tables (Interrupt pc cause cycle) = tt

learned_in : (kept : Option Tables) (steps : List Step) →
    IsSafe AreMembers (option_map_or (λ tables. learned_places tables steps) kept [])
learned_in None steps = no_members
learned_in (Some tables) steps =
    member _ refl (array_of _ (all_given (place_taught tables) (taught_place tables) steps))

learned : (predictor : DescribedPredictor) (steps : List Step) → IsSafe AreMembers (learned_text predictor steps)
unfolding learned_text
learned predictor steps = learned_in (tables_of predictor) steps

asked_word : (predictor : DescribedPredictor) (pc : ℕ) (word : Option ℕ) → AllSafe (asked_of predictor pc word)
asked_word predictor pc None = tt
asked_word predictor pc (Some word) = (asked_is pc (place_in predictor pc) (answer predictor pc (flow_at pc word)), tt)

asked : (predictor : DescribedPredictor) (n : ℕ) (words : List Fetched) →
    IsSafe AreMembers (asked_text predictor n words)
unfolding asked_text
asked predictor n words =
    member _ refl (array_of _
    (all_given (asked_in predictor n) (λ f. if_shown (f.cycle == n) _ (asked_word predictor f.pc f.word)) words))

predictor_is : (predictor : DescribedPredictor) (n : ℕ) (steps : List Step) (words : List Fetched) →
    IsSafe AreMembers (predictor_text predictor n steps words)
unfolding predictor_text
predictor_is predictor n steps words = both (learned predictor steps) (asked predictor n words)

-- the lines of a cycle, and those before the window
start : (rows : List Passage) (h : Hardware) (p : Progress) → IsSafe AreLines (start_line rows h p)
unfolding start_line
start rows h p =
    object_line (beginning _ refl (number _))
    (more (member _ refl
    (array_of _ (all_given json_in_flight (λ row. if_shown (is_in_flight row) _ (instruction_is row, tt)) rows)))
    (more (rest h p) closes))

cycle : (n : ℕ) (rows : List Passage) (steps : List Step) (h : Hardware) (p : Progress)
    (predictor : DescribedPredictor) → IsSafe AreLines (cycle_line n rows steps h p predictor)
unfolding cycle_line
cycle n rows steps h p predictor =
    object_line (beginning _ refl (number _))
    (more (member _ refl (array_of _ (each_safe instruction_json instruction_is rows)))
    (more (member _ refl (array_of _ (each_safe step_json step_is steps)))
    (more (rest h p) (more (predictor_is predictor n steps h.front.entries) closes))))

word : (address : ℕ) (stale : Bool) (w : Option ℕ) → IsSafe AreLines (word_if address stale w)
word address stale None = no_lines
word address stale (Some w) = lines_unless _ (word_is address w stale)

lines_of_set : (n : ℕ) (lines : List CacheLine) → IsSafe AreLines (lines_if n lines)
lines_of_set n [] = no_lines
lines_of_set n (line ∷ lines) = set_is n (line ∷ lines)

memory : (h : Hardware) (address : ℕ) → IsSafe AreLines (memory_line h address)
memory h address = word address (set.contains h.stale (word_of address))
    (word_seen (layout_of h.values) (seen h).ram address)

storage : (h : Hardware) → IsSafe AreLines (storage_text h)
unfolding memory_lines set_lines storage_text
storage h =
    lines_both (lines_each (λ n. memory_line h (word_address h.values.ram_base n))
    (λ n. memory h (word_address h.values.ram_base n)) _)
    (lines_each (set_line h) (λ n. lines_of_set n (get_or h.cache.sets n [])) _)

window : (rows : List Passage) (h : Hardware) (p : Progress) (predictor : DescribedPredictor) →
    IsSafe AreLines (window_text rows h p predictor)
unfolding window_text
window rows h p predictor = lines_both (storage h) (lines_both (places predictor) (start rows h p))

shown : (from : ℕ) (c : FollowedCycle) (predictor : DescribedPredictor) → IsSafe AreLines (cycle_text from c predictor)
unfolding cycle_text
shown from c predictor =
    lines_both (lines_where _ (cycle c.number c.passages.rows c.report.steps c.after (progress_of c.reports) predictor))
    (lines_where _ (window c.passages.rows c.after (progress_of c.reports) predictor))

all_shown : (from : ℕ) (predictor : DescribedPredictor) (cycles : List FollowedCycle) →
    IsSafe AreLines (cycles_text from predictor cycles)
all_shown from predictor [] = no_lines
all_shown from predictor (c ∷ cycles) = lines_both (shown from c _) (all_shown from (taught_by predictor c) cycles)

-- the lines of a run
pub states_are : (from : ℕ) (listing : Listed) (first : Hardware) (moments : List Moment) (stop : Stop) →
    IsSafe AreLines (states_text from listing first moments stop)
unfolding opening_text head_text lines_text states_text
states_are from listing first moments stop =
    lines_both (lines_both (lines_both (lines_both (header_is from _) (listing_is listing _))
    (lines_where _ (window _ first _ _)))
    (all_shown from (untaught_predictor first.values) (walk still_open first moments))) (stop_is (length moments) stop)
