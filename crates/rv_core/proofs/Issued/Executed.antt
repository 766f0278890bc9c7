-- What the execution of an instruction leaves is what the definition's start of it leaves.
use Rattle.rv_core.proofs.Words.{◌≡◌, ℕ, ◌+◌, ◌^◌, ◌≤◌, Bool, true, List, [], ◌∷◌, map, length, is_some, Some, None}
use Rattle.rv_core.proofs.Words.{All, Option, option_and_then, sym, refl, ap, ◌∙◌, subst, arith, is_store, kind_of_word}
use Rattle.rv_core.proofs.Words.{sources_of, bytes_of, at_kind, with_kind, Message, Instr, Issue, Kind, PerKind}
use Rattle.rv_core.proofs.Words.{CacheValues, instruction_of, Memory, State, Contents, cost_of_access, CacheLine}
use Rattle.rv_core.proofs.Words.{UnitPool, started, changed, Entry, Hardware, bytes_after, Path, issued, path}
use Rattle.rv_core.proofs.Words.{path_of_word, result_in, result_of_word, layout_of, state_after, stores_after}
use Rattle.rv_core.proofs.Words.{IsLegalCost, kind_of, Queue, older_than, Pool, taken_from, Ready, Pending}
use Rattle.rv_core.proofs.Words.{started_unit, Renaming, IsAfter, LieIn, cache_after, load_path, path_cost, port_after}
use Rattle.rv_core.proofs.Words.{operand_value, IsDescribedCache, IsLegalWrite, IsSoundEntry, IsSoundHardware, AreTied}
use Rattle.rv_units.specs.Bus.{with_result}
use Rattle.rv_core.specs.Access.{IsExecuted, path_of_ready}
use Rattle.rv_core.proofs.Issued.Found.{Leaving, test_of}
use Rattle.rv_core.proofs.Issued.Ready.{All-left, kind_there}
use Rattle.rv_core.proofs.Issued.Stores.{older_than-stores_after}
use Rattle.rv_core.proofs.Issued.Tied.{entry_sound, sound_started, tied_started}
use Rattle.rv_core.proofs.Issued.Writes.{inside_after, result_writes}
use Rattle.rv_core.proofs.Loads.Path.{access_is_defined, cost_is_defined, path_is_defined}

-- the path that the code takes is the definition's, where it has the register's value
load_path_defined : (h : Hardware) (older : List Entry) (s : State) (i : Instr) (first second : ℕ) →
    map (operand_value s) (sources_of i) ≡ first ∷ second ∷ [] →
    load_path (layout_of h.values) (stores_after h older) first i ≡ path_of_word h older s (Some i)
load_path_defined h older s i first second reads = grind (arith, older, bytes_of, path_is_defined)

word_decoded : (word : Option ℕ) (i : Instr) → option_and_then instruction_of word ≡ Some i → (w : ℕ) × (word ≡ Some w)
word_decoded None i is = absurd (cc)
word_decoded (Some w) i is = (w, refl)

-- an access costs no more than the description allows
cost_bound : (values : CacheValues) → IsLegalCost values → (is_hit : Bool) (dropped : Option CacheLine) →
    cost_of_access values is_hit dropped ≤ 2016
cost_bound values legal is_hit dropped = grind (arith, legal.hit.1, legal.miss, legal.write_back)

-- what the execution of an instruction gives: its message, its cost, and the port and the cache after it
pub record Execution (h : Hardware) (kind : Kind) (queue : Queue) (ready : Ready) : Type 0 where
  pub message : Message
  pub cost : ℕ
  pub port_free : ℕ
  pub cache : Contents Memory
  pub costs : cost
      ≡ path_cost (at_kind kind h.values.kinds).latency h.values.forward h.cache (path_of_ready h.cache queue ready)
  pub ports : port_free ≡ port_after h.cycle h.port_free h.cache (path_of_ready h.cache queue ready)
  pub caches : cache ≡ cache_after h.cache (path_of_ready h.cache queue ready)
  pub gives : IsExecuted h.cache queue ready message

module _ {h : Hardware} (sound : IsSoundHardware h) where
  port_bound : (p : Path) → port_after h.cycle h.port_free h.cache p ≤ 2 ^ 43
  port_bound p = grind (arith, cost_bound)

  -- what an access keeps of the cache
  keeps : (p : Path) → IsDescribedCache h.values (cache_after h.cache p)
  keeps p = grind arith

  module _ {kind : Kind} {ready : Ready} (leaving : Leaving h kind ready) {queue : Queue}
      (x : Execution h kind queue ready)
      (queued : queue.stores ≡ stores_after h h.rob.entries) where
    abbrev before : List Entry
    before = leaving.before

    abbrev entry : Entry
    entry = leaving.entry

    -- the state in which the instruction executes
    abbrev s : State
    s = state_after h before entry.pc

    abbrev place : ℕ
    place = h.rob.retired + length before

    older : older_than ready.seq queue.stores ≡ stores_after h before
    older = grind (arith, older_than-stores_after)

    -- the path in the code's words
    path_taken : path_of_ready h.cache queue ready ≡ path h before entry
    path_taken = grind (arith, load_path, older, load_path_defined)

    after : IsAfter h.cache (older_than ready.seq queue.stores) s
    after = record {
      inside =
          subst (LieIn h.cache.base (length h.cache.bytes)) (sym older)
          (subst (λ b. LieIn b (length h.cache.bytes) (stores_after h before)) (sym sound.cache.base)
          (subst (λ n. LieIn h.values.ram_base n (stores_after h before)) (sym sound.cache.bytes)
          (inside_after h before sound.stores.each
          (All-left (IsSoundEntry h.values) before (entry ∷ leaving.rest)
          (subst (All (IsSoundEntry h.values)) leaving.split sound.entries.each)))));
      ram = λ j. bytes_after (sym sound.cache.base j) (sym older j) h.cache.bytes;
    }

    own : IsSoundEntry h.values entry
    own = entry_sound leaving sound.entries.each

    word : (w : ℕ) × (entry.word ≡ Some w)
    word = word_decoded entry.word ready.instruction (sym own.decoded ∙ leaving.decoded)

    has_kind : is_some (kind_of ready.instruction) ≡ true
    has_kind = ap is_some (sym (ap kind_of_word leaving.decoded) ∙ kind_there kind entry leaving.there)

    gave : x.message ≡ result_in (layout_of h.values) s h.lines word.0 ready.instruction
    gave = x.gives has_kind s h.lines word.0 leaving.operands after
        ∙ ap (λ l. result_in l s h.lines word.0 ready.instruction) sound.cache.layout

    result : x.message ≡ result_of_word (layout_of h.values) s h.lines entry.word entry.instruction
    result = gave ∙ (λ j. result_of_word (layout_of h.values) s h.lines (sym word.1 j) (sym leaving.decoded j))

    legal_write : IsLegalWrite h.values (is_store entry.instruction) x.message.fault x.message.store
    legal_write = rw (leaving.decoded, gave) (result_writes h.values s h.lines word.0 ready.instruction)

    abbrev issue : Issue
    issue = record { cycle = h.cycle; cost = x.cost }

    abbrev units : PerKind UnitPool
    units = with_kind kind (started_unit x.cost h.cycle (at_kind kind h.units)) h.units

    -- the hardware once the instruction has started
    abbrev pub started_hardware : Hardware
    started_hardware = record h {
      cache = x.cache;
      port_free = x.port_free;
      units = units;
      rob = changed (started issue x.message) ready.seq h.rob;
    }

    -- the parts that have started it stand for the hardware that has issued it
    pub is_issued : started_hardware ≡ issued kind h before entry
    is_issued = grind (arith, path_taken, cost_is_defined, changed, started, result, word, access_is_defined)

    -- which is sound
    pub is_sound : IsSoundHardware started_hardware
    is_sound =
        sound_started leaving issue x.message x.cache x.port_free units sound
        (subst (IsDescribedCache h.values) (sym x.caches) (keeps (path_of_ready h.cache queue ready)))
        (subst (λ n. n ≤ 2 ^ 43) (sym x.ports) (port_bound (path_of_ready h.cache queue ready))) legal_write

    -- and what the parts left of rename map, stations, bus and queue is tied to it
    pub is_tied : {rename : Renaming} {stations : PerKind Pool} {bus : Pending} → AreTied h rename stations bus queue →
        AreTied started_hardware rename (with_kind kind (taken_from (test_of h kind) (at_kind kind stations)) stations)
        (with_result ready.seq (h.cycle + x.cost) bus) queue
    is_tied tied = tied_started leaving issue x.message x.cache x.port_free units tied
