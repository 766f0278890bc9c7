-- What a cache is seen as, and what an access does to it.
use Rattle.std.specs.Prelude.{◌≡◌, ◌≢◌, ℕ, ◌+◌, ◌-◌, ◌/◌, ◌%◌, ◌≤◌, ◌<◌, ◌⊎◌, Bool, if◌then◌else◌, List, []}
use Rattle.std.specs.Prelude.{length, slice_index, slice_index_or, slice_range, slice_set, Option, Some, None}
use Rattle.rv_isa.specs.declared.values.CacheValues.{CacheValues}
use Rattle.rv_memory.specs.Bytes.{overwritten}
use Rattle.rv_cache.specs.declared.line.CacheLine.{CacheLine}
use Rattle.rv_cache.specs.Line.{is_held}
use Rattle.rv_cache.specs.Replacement.{accessed, victim}
use Rattle.rv_cache.specs.WriteBack.{sets_written, victim_written}

-- the bytes that a program sees from address base on, for each set its lines, most recently used first, and the backing
pub record Contents (M : Type 0) : Type 0 where
  pub base : ℕ
  pub values : CacheValues
  pub bytes : List ℕ
  pub sets : List (List CacheLine)
  pub backing : M

-- each byte is as before, or is the one that a program sees
abbrev pub IsUpdated : List ℕ → List ℕ → List ℕ → Type 0
IsUpdated bytes old new = (i : ℕ) → (slice_index new i ≡ slice_index old i) ⊎ (slice_index new i ≡ slice_index bytes i)

-- what the eviction of a line costs beyond a miss
abbrev pub eviction_cost : CacheValues → Option CacheLine → ℕ
eviction_cost values None = 0
eviction_cost values (Some line) = if line.dirty then values.write_back else 0

-- what an access costs, by whether its line is held and by the line that it drops
abbrev pub cost_of_access : CacheValues → Bool → Option CacheLine → ℕ
cost_of_access values is_hit dropped =
    if is_hit then values.hit else values.hit + values.miss + eviction_cost values dropped

-- 1, 2 or 4 bytes at a multiple of their number
abbrev pub IsAligned : ℕ → ℕ → Type 0
IsAligned address count = ((count ≡ 1) ⊎ ((count ≡ 2) ⊎ (count ≡ 4))) × (address % count ≡ 0)

module _ {M : Type 0} where
  -- the number of the line in which an address lies
  abbrev pub line_of : Contents M → ℕ → ℕ
  line_of cache address = address / cache.values.line

  -- the lines of the set in which a line may be held
  abbrev pub set_of : Contents M → ℕ → List CacheLine
  set_of cache number = slice_index_or cache.sets (number % cache.values.sets) []

  -- the sets once an address was accessed
  abbrev pub accessed_sets : Contents M → ℕ → Bool → List (List CacheLine)
  accessed_sets cache address writes =
      let number = line_of cache address in
      slice_set cache.sets (number % cache.values.sets) (accessed cache.values.ways number writes (set_of cache number))

  -- the line that an access drops, if there is one
  abbrev pub evicted : Contents M → ℕ → Option CacheLine
  evicted cache address = victim cache.values.ways (line_of cache address) (set_of cache (line_of cache address))

  -- what an access costs, in cycles
  abbrev pub access_cost : Contents M → ℕ → ℕ
  access_cost cache address =
      cost_of_access cache.values (is_held (line_of cache address) (set_of cache (line_of cache address)))
      (evicted cache address)

  -- the bytes of memory once the dirty line that an access drops was written there
  abbrev pub memory_after : Contents M → ℕ → List ℕ → List ℕ
  memory_after cache address memory =
      victim_written cache.base cache.values.line cache.bytes (evicted cache address) memory

  -- the bytes of memory once every dirty line was written there
  abbrev pub memory_written_back : Contents M → List ℕ → List ℕ
  memory_written_back cache memory = sets_written cache.base cache.values.line cache.bytes cache.sets memory

  -- the address lies in the cached memory
  abbrev pub IsCached : Contents M → ℕ → Type 0
  IsCached cache address = (cache.base ≤ address) × (address < cache.base + length cache.bytes)

  -- each byte of memory is as before, or is the one that a program sees and lies in another line than the address
  abbrev pub IsUpdatedElsewhere : Contents M → ℕ → List ℕ → List ℕ → Type 0
  IsUpdatedElsewhere cache address old new =
      (i : ℕ) → (slice_index new i ≡ slice_index old i)
      ⊎ ((slice_index new i ≡ slice_index cache.bytes i) × (line_of cache (cache.base + i) ≢ line_of cache address))

  -- the bytes from an address on lie in the cached memory
  abbrev pub IsInMemory : Contents M → ℕ → ℕ → Type 0
  IsInMemory cache address count = (cache.base ≤ address) × (address + count ≤ cache.base + length cache.bytes)

  -- 1, 2 or 4 bytes at a multiple of their number, in the cached memory
  abbrev pub IsAccess : Contents M → ℕ → ℕ → Type 0
  IsAccess cache address count = IsAligned address count × IsInMemory cache address count

  -- the bytes that a program sees from an address on
  abbrev pub seen : Contents M → ℕ → ℕ → List ℕ
  seen cache address count = slice_range cache.bytes (address - cache.base) (address - cache.base + count)

  -- the bytes that a program sees once it wrote some from an address on
  abbrev pub seen_after : Contents M → ℕ → List ℕ → List ℕ
  seen_after cache address bytes = overwritten cache.bytes (address - cache.base) bytes
