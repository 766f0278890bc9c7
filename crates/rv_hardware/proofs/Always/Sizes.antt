-- The sizes of the hardware are the described ones.
use Rattle.rv_hardware.proofs.Words.{◌≡◌, ℕ, List, at_kind-for_each, with_kind-each, IsLegal, at_kind, with_kind, Kind}
use Rattle.rv_hardware.proofs.Words.{PerKind, CacheValues, Values, Pool, Hardware, reset_hardware, arith}
use Rattle.rv_units.specs.Pool.{started as started_unit}
use Rattle.rv_hardware.proofs.Turns.Cited.{IsKept, IsKeptByChanges, one_starts}

-- the description is legal, and its values, the cache's, and the rooms and units that they give, are the hardware's
pub record AreSizes (v given : Values) (lines : CacheValues) (entries words most : ℕ)
    (pools : PerKind Pool) : Type 0 where
  pub legal : IsLegal v
  pub values : given ≡ v
  pub cache : lines ≡ v.cache
  pub buffer : entries ≡ v.rob
  pub room : words ≡ v.fetch_buffer
  pub width : most ≡ v.fetch_width
  pub units : (k : Kind) → (at_kind k pools).units ≡ (at_kind k v.kinds).units
  pub pipelined : (k : Kind) → (at_kind k pools).is_pipelined ≡ (at_kind k v.kinds).pipelined

-- the hardware is of a description
abbrev pub HasShape : Values → Hardware → Type 0
HasShape v h = AreSizes v h.values h.cache.values h.rob.capacity h.front.capacity h.front.width h.units

-- the hardware is of its own description
abbrev pub HasSizes : Hardware → Type 0
HasSizes h = HasShape h.values h

-- of the description that the hardware's own stands for
module _ (described : Values → Values) where
  abbrev IsSized : Hardware → Type 0
  IsSized h = HasShape (described h.values) h

  begun : (h : Hardware) (k : Kind) (cost : ℕ) → IsSized h →
      IsSized (record h { units = with_kind k (started_unit cost h.cycle (at_kind k h.units)) h.units })
  begun h k cost shape = grind (arith, with_kind-each)

  changes : IsKeptByChanges IsSized
  changes h _ (one_starts k older younger e cost message split waits of_kind result costs) shape = begun h k cost shape
  changes h _ _ shape = shape

  kept : IsKept IsSized
  kept = grind arith

-- every cycle keeps the shape of a description
pub shape-kept : (v : Values) → IsKept (HasShape v)
shape-kept v = kept (λ own. v)

-- and that of its own
pub sizes-kept : IsKept HasSizes
sizes-kept = kept (λ own. own)

-- it holds at reset
pub shape-at_reset : {v : Values} (image : List ℕ) (start : ℕ) → IsLegal v → HasShape v (reset_hardware v image start)
shape-at_reset image start legal = grind (arith, at_kind-for_each)
