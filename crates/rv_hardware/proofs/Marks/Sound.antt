-- Each instruction in flight has stamps in order, and executes for its cost.
use Rattle.rv_hardware.proofs.Words.{◌≡◌, ℕ, ◌+◌, ◌<◌, ◌≤◌, Bool, true, false, cond, ◌⊎◌, List, ℤ, is_some, IfSome}
use Rattle.rv_hardware.proofs.Words.{Some, None, Option, option_and_then, unwrap_or, ap, arith, is_same-true, IsLegal}
use Rattle.rv_hardware.proofs.Words.{is_load, is_of_kind, is_serialising, kind_of_word, bytes_of, width_of, at_kind}
use Rattle.rv_hardware.proofs.Words.{modulo_word, sum, Instr, Load, Kind, LoadForm, CacheValues, Values, instruction_of}
use Rattle.rv_hardware.proofs.Words.{is_aligned, is_in_ram, State, register_of, cost_of_access, eviction_cost}
use Rattle.rv_hardware.proofs.Words.{CacheLine, Entry, Stage, Finished, Running, Waiting, Fetched, Hardware, FromCache}
use Rattle.rv_hardware.proofs.Words.{FromStores, Path, cost_of, path, path_of, IsCost, IsLoadCost, result_of_word}
use Rattle.rv_hardware.proofs.Words.{layout_of, state_after, refl, inr}
use Rattle.rv_hardware.proofs.Turns.Issue.{message_at}
use Rattle.rv_hardware.proofs.Marks.List.{Start, start_of_issue}
use Rattle.rv_hardware.proofs.Always.Sizes.{HasShape}

-- an execution costs what its kind costs, unless it gives a fault
abbrev pub SoundCost : Values → Option Instr → Start → Type 0
SoundCost v i s = (s.faults ≡ true) ⊎ IfSome (kind_of_word i) (λ k. IsCost v (is_load i) k s.cost)

-- by the stage: D is the cycle of dispatch, and the other stamps are below bounds
abbrev pub SoundStage : Values → Option Instr → ℕ → ℕ → ℕ → Stage → Type 0
SoundStage v i D issue_bound bound Waiting = (is_some (kind_of_word i) ≡ true) ⊎ (is_serialising i ≡ true)
SoundStage v i D issue_bound bound (Running issue message) =
    (is_some (kind_of_word i) ≡ true) × (D < issue.cycle) × (issue.cycle < issue_bound) ×
    SoundCost v i (start_of_issue issue message)
SoundStage v i D issue_bound bound (Finished (Some issue) cycle message) =
    (is_some (kind_of_word i) ≡ true) × (D < issue.cycle) × (issue.cycle + issue.cost ≤ cycle) × (cycle < bound) ×
    SoundCost v i (start_of_issue issue message)
SoundStage v i D issue_bound bound (Finished None cycle message) =
    (kind_of_word i ≡ None) × (is_serialising i ≡ false) × (cycle ≡ D) × (i ≡ None → is_some message.fault ≡ true)

-- an instruction in flight is its word's, its stamps are in order, and its stage is sound
pub record SoundEntry (v : Values) (dispatched_below issue_bound bound : ℕ) (e : Entry) : Type 0 where
  pub decoded : e.instruction ≡ option_and_then instruction_of e.word
  pub after_fetch : e.fetched < e.dispatched
  pub by_now : e.dispatched < dispatched_below
  pub stage : SoundStage v e.instruction e.dispatched issue_bound bound e.stage

-- a fetched word came below a bound, with the instruction that it decodes to
abbrev pub SoundFetched : ℕ → Fetched → Type 0
SoundFetched bound f = (f.cycle < bound) × (f.instruction ≡ option_and_then instruction_of f.word)

stage_later : (v : Values) (i : Option Instr) (D a b a' b' : ℕ) (st : Stage) → a ≤ a' → b ≤ b' →
    SoundStage v i D a b st → SoundStage v i D a' b' st
stage_later v i D a b a' b' st le le' h = grind arith

-- an instruction that is sound below some bounds is so below later ones
pub sound_later : (v : Values) (d a b d' a' b' : ℕ) → d ≤ d' → a ≤ a' → b ≤ b' → (e : Entry) → SoundEntry v d a b e →
    SoundEntry v d' a' b' e
sound_later v d a b d' a' b' le le' le'' e h = grind (arith, stage_later)

-- an instruction with a unit does not serialise
pub kind_is_plain : (i : Option Instr) → is_some (kind_of_word i) ≡ true → is_serialising i ≡ false
kind_is_plain i h = grind arith

-- a serialising instruction uses no unit
pub serial_has_no_kind : (i : Option Instr) → is_serialising i ≡ true → kind_of_word i ≡ None
serial_has_no_kind i h = grind arith

-- the kind that is asked for is the instruction's
pub is_of_kind_is : (k : Kind) (o : Option Kind) → is_of_kind k o ≡ true → o ≡ Some k
is_of_kind_is k o h = grind (arith, is_same-true)

-- and so it uses a unit
pub some_kind : (k : Kind) (o : Option Kind) → is_of_kind k o ≡ true → is_some o ≡ true
some_kind k o is = ap is_some (is_of_kind_is k o is)

-- the word of an instruction decodes to it
decodes_by : {i : Option Instr} (word : Option ℕ) → i ≡ option_and_then instruction_of word → (i ≡ None → ⊥) →
    instruction_of (unwrap_or word 0) ≡ i
decodes_by word is some = grind arith

-- the word of the row decodes to the instruction
pub row_decodes : (e : Entry) → e.instruction ≡ option_and_then instruction_of e.word → (e.instruction ≡ None → ⊥) →
    instruction_of (unwrap_or e.word 0) ≡ e.instruction
row_decodes e is some = decodes_by e.word is some

-- what an access costs is one of the costs of a load

evicts : (c : CacheValues) (forward : ℕ) (dropped : Option CacheLine) →
    IsLoadCost forward c (c.hit + c.miss + eviction_cost c dropped)
evicts c forward dropped = grind arith

access_costs : (c : CacheValues) (forward : ℕ) (hit : Bool) (dropped : Option CacheLine) →
    IsLoadCost forward c (cost_of_access c hit dropped)
access_costs c forward hit dropped = grind (arith, evicts)

-- what an instruction costs that starts; a load that takes no bytes faults
module _ (v : Values) (h : Hardware) (shape : HasShape v h) (older : List Entry) (s : State) (word : Option ℕ) where
  abbrev Costs : Kind → Option Instr → Type 0
  Costs k i = (is_some (result_of_word (layout_of h.values) s h.lines word i).fault ≡ true) ⊎
      IfSome (kind_of_word i) (λ j. IsCost v (is_load i) j (cost_of h k (path_of h older s i)))

  latency_of_kind : (k : Kind) (o : Option Kind) → is_of_kind k o ≡ true →
      IfSome o (λ j. (at_kind k h.values.kinds).latency ≡ (at_kind j v.kinds).latency)
  latency_of_kind k o is = rw (is_of_kind_is k o is) (ap (λ (w : Values). (at_kind k w.kinds).latency) shape.values)

  module _ (k : Kind) (address count : ℕ) where
    from_stores_or_cache : (b : Bool) →
        IsLoadCost v.forward v.cache (cost_of h k (cond b FromStores (FromCache address)))
    from_stores_or_cache b = grind (arith, access_costs)

  load_faults : (form : LoadForm) (rd rs1 : ℕ) (offset : ℤ) (a b : Bool) (k : Kind) →
      is_aligned (sum (register_of s rs1) (modulo_word offset)) (bytes_of (width_of form)) ≡ a →
      is_in_ram (layout_of h.values) (sum (register_of s rs1) (modulo_word offset)) (bytes_of (width_of form)) ≡ b →
      (w : Option ℕ) →
      (is_some (result_of_word (layout_of h.values) s h.lines w (Some (Load form rd rs1 offset))).fault ≡ true) ⊎
      IsLoadCost v.forward v.cache (cost_of h k (path_of h older s (Some (Load form rd rs1 offset))))
  load_faults form rd rs1 offset a b k aligned inside w = grind (arith, from_stores_or_cache)

  pub costs_of : (k : Kind) (i : Option Instr) → is_of_kind k (kind_of_word i) ≡ true → Costs k i
  costs_of k None is = absurd (let none = is_of_kind_is k None is in cc)
  costs_of k (Some (Load form rd rs1 offset)) is = load_faults form rd rs1 offset _ _ k refl refl word
  costs_of k i is = inr (latency_of_kind k (kind_of_word i) is)

-- an instruction that starts executes for its cost, unless it gives a fault
pub issued_cost : (v : Values) (h : Hardware) → HasShape v h → (older : List Entry) (e : Entry) (k : Kind) →
    is_of_kind k (kind_of_word e.instruction) ≡ true →
    SoundCost v e.instruction
    (start_of_issue (record { cycle = h.cycle; cost = cost_of h k (path h older e) }) (message_at h older e))
issued_cost v h shape older e k is = costs_of v h shape older (state_after h older e.pc) e.word k e.instruction is

-- every cost is at least one cycle

positive_latency : (v : Values) → IsLegal v → (k : Kind) → 0 < (at_kind k v.kinds).latency
positive_latency v legal k = omega (arith, (legal.kinds k).latency)

positive_access : (c : CacheValues) (forward : ℕ) (hit : Bool) (dropped : Option CacheLine) → 1 ≤ c.hit →
    0 < cost_of_access c hit dropped
positive_access c forward hit dropped le = grind arith

-- every execution costs one cycle at least
pub positive_cost : {v : Values} → IsLegal v → (h : Hardware) → HasShape v h → (k : Kind) (p : Path) → 0 < cost_of h k p
positive_cost legal h shape k p = grind (arith, positive_latency, positive_access)
