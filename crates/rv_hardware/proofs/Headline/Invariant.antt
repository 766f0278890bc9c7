-- What always holds of the hardware, so that its steps are the one-at-a-time machine's.
use Rattle.rv_hardware.proofs.Words.{◌≡◌, ℕ, ◌+◌, ◌*◌, ◌%◌, true, false, List, [], ◌∷◌, length}
use Rattle.rv_hardware.proofs.Words.{slice_index_or as get_or, nat_cmp, PerKind, Values, Layout, Memory, is_in_ram}
use Rattle.rv_hardware.proofs.Words.{word_of, State, Contents, IsConsistent, Each, is_draining, Store as QueuedStore}
use Rattle.rv_hardware.proofs.Words.{Pool, ReorderBuffer, Entry, FetchBuffer, Hardware, bytes_after, with_store}
use Rattle.rv_hardware.proofs.Words.{layout_of, seen, arith}
use Rattle.std.specs.FinSet as set
use Rattle.rv_hardware.proofs.Headline.Fold.{after_entries, AreInFlight, AreInBuffer}
use Rattle.rv_hardware.proofs.Headline.Words.{IsRetiredStore}

-- only the oldest store's access may be under way, and the cache has its bytes then
abbrev pub DrainInOrder : ℕ → List ℕ → List QueuedStore → Type 0
DrainInOrder base bytes [] = Unit {0}
DrainInOrder base bytes (s ∷ ss) =
    (is_draining s ≡ true → with_store base s.state bytes ≡ bytes) × Each (λ t. is_draining t ≡ false) ss

-- where a word is not stale, RAM has the bytes that programs see
abbrev pub IsFreshInRam : ℕ → set.FinSet nat_cmp → List ℕ → List ℕ → Type 0
IsFreshInRam base stale memory bytes =
    (i : ℕ) → set.contains stale (word_of (base + i)) ≡ false → get_or memory i 0 ≡ get_or bytes i 0

-- RAM and the cache over it begin where they should, in whole words
pub record IsPlaced (values : Values) (ram : Layout) (base : ℕ) : Type 0 where
  pub base_aligned : values.ram_base % 4 ≡ 0
  pub size_aligned : values.ram_size % 4 ≡ 0
  pub layout : ram ≡ layout_of values
  pub cache_base : base ≡ values.ram_base

-- memory, the cache over it, and the retired stores
pub record HoldsMemory (values : Values) (stale : set.FinSet nat_cmp) (cache : Contents Memory)
    (committed : List QueuedStore) : Type 0 where
  pub place : IsPlaced values cache.backing.layout cache.base
  pub cache_size : length cache.bytes ≡ values.ram_size
  -- RAM lacks only what dirty lines hold
  pub consistent : IsConsistent cache.base cache.values cache.bytes cache.sets cache.backing.bytes
  pub retired : Each (IsRetiredStore (layout_of values) stale) committed
  pub drains : DrainInOrder values.ram_base cache.bytes committed
  pub fresh : IsFreshInRam values.ram_base stale cache.backing.bytes (bytes_after values.ram_base committed cache.bytes)
  pub inside : (word : ℕ) → set.contains stale word ≡ true → is_in_ram (layout_of values) (4 * word) 4 ≡ true

-- the instructions in flight and the fetched words go on from the state that programs see
pub record FollowsProgram (layout : Layout) (s : State) (entries : List Entry) (front : FetchBuffer) : Type 0 where
  pub in_flight : AreInFlight layout s s entries
  pub buffered : AreInBuffer layout s (after_entries layout entries s).pc front.entries front.next_pc
  pub aligned : front.next_pc % 4 ≡ 0

-- pc and mepc are aligned, cache and queue hold the program's memory, and what is in flight follows the program
pub record IsSound (h : Hardware) : Type 0 where
  pub pc_aligned : h.pc % 4 ≡ 0
  pub mepc_aligned : h.csrs.mepc % 4 ≡ 0
  pub memory : HoldsMemory h.values h.stale h.cache h.committed
  pub program : FollowsProgram (layout_of h.values) (seen h) h.rob.entries h.front

-- sound hardware of a description, in a cycle, in which programs see a state
pub record IsSoundAt (values : Values) (cycle : ℕ) (s : State) (h : Hardware) : Type 0 where
  pub values_are : h.values ≡ values
  pub cycle_is : h.cycle ≡ cycle
  pub sees : seen h ≡ s
  pub sound : IsSound h

-- the hardware with other instructions in flight
pub with_other_program : {values : Values} {cycle : ℕ} {s : State} {h : Hardware} → IsSoundAt values cycle s h →
    (units : PerKind Pool) (rob : ReorderBuffer) {front : FetchBuffer} →
    FollowsProgram (layout_of h.values) (seen h) rob.entries front →
    IsSoundAt values cycle s (record h { units = units; rob = rob; front = front })
with_other_program is units rob given = grind arith
