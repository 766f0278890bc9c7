-- The store queue as a list of stores, oldest first, and what the calls make and say of it.
use Rattle.std.specs.Prelude.{◌≡◌, ℕ, ◌+◌, ◌<◌, Bool, true, false, nat_lt, length, List, []}
use Rattle.std.specs.Prelude.{◌∷◌, find, map, not, AllPairs, Option, None, if◌then◌else◌}
use Rattle.std.specs.Option.{option_map, option_or}
use Rattle.rv_isa.specs.declared.broadcast.StoreAccess.{StoreAccess}
use Rattle.rv_isa.specs.Numbered.{below, AreBelow}
use Rattle.rv_stores.specs.declared.store.Store.{Store}
use Rattle.rv_stores.specs.Store.{byte_at, draining, is_committed, is_draining, is_known, retired, access_to_drain}

-- the stores, oldest first, and how many there may be
pub record Queue : Type 0 where
  pub stores : List Store
  pub capacity : ℕ

-- those that pass a test come first: none stands after one that does not
abbrev pub ComeFirst : {X : Type 0} → (X → Bool) → List X → Type 0
ComeFirst passes xs = AllPairs (λ x y. passes y ≡ true → passes x ≡ true) xs

-- there is room for a store, and the number is above each one that the queue holds
abbrev pub CanEnter : ℕ → Queue → Type 0
CanEnter seq queue = (length queue.stores < queue.capacity) × AreBelow (λ s. s.seq) seq queue.stores

-- the stores, with the oldest one that is not committed retired
abbrev pub with_oldest_retired : List Store → List Store
with_oldest_retired [] = []
with_oldest_retired (s ∷ ss) =
    if is_committed s then s ∷ with_oldest_retired ss else record s { state = retired s.state } ∷ ss

-- what the oldest store writes, where it is committed and not draining
abbrev pub oldest_to_drain : List Store → Option StoreAccess
oldest_to_drain [] = None
oldest_to_drain (s ∷ ss) = access_to_drain s

-- the stores, with the oldest one draining
abbrev pub with_oldest_draining : List Store → List Store
with_oldest_draining [] = []
with_oldest_draining (s ∷ ss) = record s { state = draining s.state } ∷ ss

-- the oldest store drains
abbrev pub is_oldest_draining : List Store → Bool
is_oldest_draining [] = false
is_oldest_draining (s ∷ ss) = is_draining s

-- the stores, without the oldest one where that drains
abbrev pub without_drained : List Store → List Store
without_drained [] = []
without_drained (s ∷ ss) = if is_draining s then ss else s ∷ ss

-- the number of the oldest store that was neither filled nor marked as faulting
abbrev pub first_unknown : List Store → Option ℕ
first_unknown stores = option_map (λ s. s.seq) (find (λ s. not (is_known s)) stores)

-- the stores of instructions below a number
abbrev pub older_than : ℕ → List Store → List Store
older_than seq stores = below (λ s. s.seq) seq stores

-- the byte at a place of memory of the youngest store that covers it
abbrev pub youngest_byte : ℕ → List Store → Option ℕ
youngest_byte place [] = None
youngest_byte place (s ∷ ss) = option_or (youngest_byte place ss) (byte_at place s)

-- the byte that stores forward to one place of an access of `count` bytes, None after its end
abbrev pub forwarded_byte : List Store → ℕ → ℕ → ℕ → Option ℕ
forwarded_byte stores address count offset =
    if nat_lt offset count then youngest_byte (address + offset) stores else None

-- the bytes that stores forward to an access of `count` bytes
abbrev pub forwarded : List Store → ℕ → ℕ → List (Option ℕ)
forwarded stores address count = map (forwarded_byte stores address count) (0 ∷ 1 ∷ 2 ∷ 3 ∷ [])
