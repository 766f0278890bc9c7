-- What a store of the queue shows, and what becomes of it.
use Rattle.std.specs.Prelude.{ℕ, ◌+◌, ◌-◌, Bool, true, false, nat_lt, nat_le, ◌==◌, Option, Some}
use Rattle.std.specs.Prelude.{None, slice_get, slice_index_or, List, [], ◌∷◌, map, if◌then◌else◌}
use Rattle.std.specs.Option.{option_or}
use Rattle.rv_isa.specs.declared.broadcast.StoreAccess.{StoreAccess}
use Rattle.rv_stores.specs.declared.store.StorePhase.TheVariants.{Speculative, Committed, Draining}
use Rattle.rv_stores.specs.declared.store.{StoreState.StoreState, Store.Store}
use Rattle.rv_stores.specs.declared.store.StoreState.TheVariants.{Waiting, Filled}

-- the byte that an access writes at a place of memory, where it covers the place
abbrev pub written_at : ℕ → StoreAccess → Option ℕ
written_at place access = if nat_le access.address place then slice_get access.bytes (place - access.address) else None

-- the byte of a store at a place of memory: one that waits or faults covers none
abbrev pub byte_of_state : ℕ → StoreState → Option ℕ
byte_of_state place (Filled access phase) = written_at place access
byte_of_state place _ = None

-- the byte of a store at a place of memory
abbrev pub byte_at : ℕ → Store → Option ℕ
byte_at place store = byte_of_state place store.state

-- the byte found for one place of an access of `count` bytes, with that of a younger store laid over it
abbrev pub laid_byte : ℕ → ℕ → Store → List (Option ℕ) → ℕ → Option ℕ
laid_byte address count store found offset =
    let under : Option ℕ = slice_index_or found offset None in
    if nat_lt offset count then option_or (byte_at (address + offset) store) under else under

-- the bytes found for an access, with those of a younger store laid over them
abbrev pub laid_over : ℕ → ℕ → Store → List (Option ℕ) → List (Option ℕ)
laid_over address count store found = map (laid_byte address count store found) (0 ∷ 1 ∷ 2 ∷ 3 ∷ [])

-- the store was filled or marked as faulting
abbrev pub is_known_state : StoreState → Bool
is_known_state Waiting = false
is_known_state _ = true

-- whether a store was filled or marked as faulting
abbrev pub is_known : Store → Bool
is_known store = is_known_state store.state

-- the store has retired
abbrev pub is_committed_state : StoreState → Bool
is_committed_state (Filled access Committed) = true
is_committed_state (Filled access Draining) = true
is_committed_state _ = false

-- whether a store has retired
abbrev pub is_committed : Store → Bool
is_committed store = is_committed_state store.state

-- the store's access to the cache is under way
abbrev pub is_draining_state : StoreState → Bool
is_draining_state (Filled access Draining) = true
is_draining_state _ = false

-- whether the access of a store to the cache is under way
abbrev pub is_draining : Store → Bool
is_draining store = is_draining_state store.state

-- what a store writes, where it is committed and not draining
abbrev pub state_to_drain : StoreState → Option StoreAccess
state_to_drain (Filled access Committed) = Some access
state_to_drain _ = None

-- what a store writes that may begin to drain
abbrev pub access_to_drain : Store → Option StoreAccess
access_to_drain store = state_to_drain store.state

-- a store as it enters: nothing is known of it
abbrev pub entered : ℕ → Store
entered seq = record { seq = seq; state = Waiting }

-- what the broadcast says of a store that writes this
abbrev pub filled_with : StoreAccess → StoreState
filled_with access = Filled access Speculative

-- after a broadcast: a store that waits learns the news, any other stays
abbrev pub told : StoreState → StoreState → StoreState
told news Waiting = news
told news state = state

-- a store after the broadcast of a number
abbrev pub answered : ℕ → StoreState → Store → Store
answered seq news store = if store.seq == seq then record store { state = told news store.state } else store

-- after its retirement: a filled store is committed
abbrev pub retired : StoreState → StoreState
retired (Filled access phase) = Filled access Committed
retired state = state

-- after its access to the cache began: a filled store drains
abbrev pub draining : StoreState → StoreState
draining (Filled access phase) = Filled access Draining
draining state = state
