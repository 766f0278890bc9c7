-- A store of the queue as JSON.
use Rattle.std.specs.Prelude.{ℕ, List, [], ◌++◌, codes, map}
use Rattle.rv_isa.specs.declared.broadcast.StoreAccess.{StoreAccess}
use Rattle.rv_stores.specs.declared.store.{Store.Store, StorePhase.StorePhase, StoreState.StoreState}
use Rattle.rv_stores.specs.declared.store.StorePhase.TheVariants.{Speculative, Committed, Draining}
use Rattle.rv_stores.specs.declared.store.StoreState.TheVariants.{Waiting, Faulted, Filled}
use Rattle.rv_states.specs.Json.{Json, also, array, begins, numeral, quoted}

-- how far a store has come whose broadcast has been
abbrev pub phase_name : StorePhase → List ℕ
phase_name Speculative = codes "speculative"
phase_name Committed = codes "committed"
phase_name Draining = codes "draining"

-- how far a store has come
abbrev pub state_name : StoreState → List ℕ
state_name Waiting = codes "waiting"
state_name Faulted = codes "faulted"
state_name (Filled access phase) = phase_name phase

-- what it writes
unfoldable pub access_text : StoreAccess → List ℕ
access_text access =
    also (codes "address") (numeral access.address) ++ also (codes "bytes") (array (map numeral access.bytes))

-- what it writes, where that is known
abbrev pub filling_text : StoreState → List ℕ
filling_text Waiting = []
filling_text Faulted = []
filling_text (Filled access phase) = access_text access

-- the sequence number of a store, and how far it has come
unfoldable pub head_text : Store → List ℕ
head_text store =
    begins (codes "sequence") (numeral store.seq) ++ also (codes "state") (quoted (state_name store.state))

-- a store
unfoldable pub store_json : Store → Json
store_json store = head_text store ++ (filling_text store.state ++ codes "}")
