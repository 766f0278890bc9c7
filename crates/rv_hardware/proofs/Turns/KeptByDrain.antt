-- The drain phase keeps what the end of a store's access and the start of another's keep.
use Rattle.rv_hardware.proofs.Words.{◌≡◌, ℕ, true, nat_le, Some, Option, StoreAccess, PerKind, CacheValues, Values}
use Rattle.rv_hardware.proofs.Words.{oldest_to_drain, Pool, ReorderBuffer, FetchBuffer, drain, end_drain, start_drain}
use Rattle.rv_hardware.proofs.Words.{with_drained, Hardware, by_test, arith}

module _ (P : Hardware → Type 0) where
  -- the end of a store's access and the start of another's keep the property
  pub record IsKeptByDrain : Type 0 where
    pub leaves : (h : Hardware) → P h → nat_le h.port_free h.cycle ≡ true → P (end_drain h)
    pub drains : (h : Hardware) (access : StoreAccess) → P h → nat_le h.port_free h.cycle ≡ true →
        oldest_to_drain h.committed ≡ Some access → P (with_drained access h)

module _ {P : Hardware → Type 0} (kept : IsKeptByDrain P) where
  pub start_drain-keeps : (h : Hardware) (access : Option StoreAccess) → P h → nat_le h.port_free h.cycle ≡ true →
      oldest_to_drain h.committed ≡ access → P (start_drain access h)
  start_drain-keeps h access holds idle is = grind arith

  -- so the drain phase keeps it
  pub drain-keeps : (h : Hardware) → P h → P (drain h)
  drain-keeps h holds = grind (arith, by_test, start_drain-keeps)

-- what the drain phase leaves is as it was
pub record AreSame (h : Hardware) (given : Values) (lines : CacheValues) (entries : ReorderBuffer) (words : FetchBuffer)
    (pools : PerKind Pool) (number : ℕ) : Type 0 where
  pub values : given ≡ h.values
  pub cache : lines ≡ h.cache.values
  pub rob : entries ≡ h.rob
  pub front : words ≡ h.front
  pub units : pools ≡ h.units
  pub cycle : number ≡ h.cycle

-- one is as another was but for the port, the cache's lines, memory and the retired stores
abbrev pub SameButPort : Hardware → Hardware → Type 0
SameButPort h g = AreSame h g.values g.cache.values g.rob g.front g.units g.cycle

-- the drain phase changes the port, the cache's lines, memory and the retired stores alone
pub drain-same : (h : Hardware) → SameButPort h (drain h)
drain-same h = grind (arith, drain-keeps)
