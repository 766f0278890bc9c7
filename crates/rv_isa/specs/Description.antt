use Rattle.std.specs.Prelude.{◌≡◌, ℕ, ◌+◌, ◌*◌, ◌%◌, ◌≤◌, max, IsTrue}
use Rattle.std.specs.Int.{is_power_of_two}
use Rattle.rv_isa.specs.declared.{operations.Kind.Kind, values.Values.Values, values.KindValues.KindValues}
use Rattle.rv_isa.specs.declared.{values.CacheValues.CacheValues, values.PredictorValues.PredictorValues}
use Rattle.rv_isa.specs.declared.{values.ReportValues.ReportValues}
use Rattle.rv_isa.specs.PerKind.{at_kind}

-- n lies from low to high
abbrev pub Within : ℕ → ℕ → ℕ → Type 0
Within low high n = (low ≤ n) × (n ≤ high)

-- the addresses at which RAM may begin
abbrev pub IsRamBase : ℕ → Type 0
IsRamBase base = (base ≤ 0xff00_0000) × (base % 4096 ≡ 0)

-- the sizes that RAM may have, in bytes
abbrev pub IsRamSize : ℕ → Type 0
IsRamSize size = (4096 ≤ size) × (size ≤ 16777216) × (size % 4096 ≡ 0)

-- where RAM lies, and its front that stores may not change
pub record IsLegalMemory (v : Values) : Type 0 where
  pub base : IsRamBase v.ram_base
  pub size : IsRamSize v.ram_size
  pub rom : v.rom_bytes ≤ v.ram_size
  pub rom_aligned : v.rom_bytes % 4096 ≡ 0

-- how many instructions move in a cycle, and how many are held
pub record IsLegalPipeline (v : Values) : Type 0 where
  pub fetch_width : Within 1 8 v.fetch_width
  pub dispatch_width : Within 1 8 v.dispatch_width
  pub commit_width : Within 1 8 v.commit_width
  pub bus_width : Within 1 8 v.bus_width
  pub fetch_buffer : Within 1 32 v.fetch_buffer
  pub rob : Within 1 256 v.rob
  pub store_queue : Within 1 64 v.store_queue
  pub forward : Within 1 64 v.forward

-- how many stations and units a kind has, and how long they take
pub record IsLegalKind (k : KindValues) : Type 0 where
  pub stations : Within 1 64 k.stations
  pub units : Within 1 8 k.units
  pub latency : Within 1 64 k.latency

-- how many lines the cache has, and how long they are
pub record IsLegalShape (c : CacheValues) : Type 0 where
  pub sets : Within 1 256 c.sets
  pub sets_power : IsTrue (is_power_of_two c.sets)
  pub ways : Within 1 16 c.ways
  pub line : Within 4 128 c.line
  pub line_power : IsTrue (is_power_of_two c.line)

-- what an access to the cache costs
pub record IsLegalCost (c : CacheValues) : Type 0 where
  pub hit : Within 1 16 c.hit
  pub miss : c.miss ≤ 1000
  pub write_back : c.write_back ≤ 1000

-- the cache's shape and its costs
abbrev pub IsLegalCache : CacheValues → Type 0
IsLegalCache c = IsLegalShape c × IsLegalCost c

-- how many entries each table of the predictor has
abbrev pub IsLegalPredictor : PredictorValues → Type 0
IsLegalPredictor p = Within 1 4096 p.entries

-- the words of memory that a report dumps
pub record IsLegalReport (r : ReportValues) : Type 0 where
  pub dump_aligned : r.dump_address % 4 ≡ 0
  pub dump_words : r.dump_words ≤ 256

-- every value is in its range
pub record IsLegal (v : Values) : Type 0 where
  pub memory : IsLegalMemory v
  pub pipeline : IsLegalPipeline v
  pub kinds : (kind : Kind) → IsLegalKind (at_kind kind v.kinds)
  pub cache : IsLegalCache v.cache
  pub predictor : IsLegalPredictor v.predictor
  pub report : IsLegalReport v.report

-- the greatest of the four latencies and the cost of a forwarded load
abbrev pub greatest_latency : Values → ℕ
greatest_latency v =
    max v.forward (max (max v.kinds.alu.latency v.kinds.mul.latency) (max v.kinds.div.latency v.kinds.mem.latency))

-- what an access to the cache costs at most
abbrev pub greatest_access : CacheValues → ℕ
greatest_access c = c.hit + c.miss + c.write_back

-- the cycles without a step that the oldest instruction can wait for, counted with slack: fetch and dispatch,
-- accesses already begun and the drains of a full queue, units that are held, and the cache's lines written back twice
abbrev pub gap_bound_of : Values → ℕ
gap_bound_of v =
    16 + (v.store_queue + 8) * greatest_access v.cache + 4 * greatest_latency v
    + 2 * v.cache.sets * v.cache.ways * v.cache.write_back
