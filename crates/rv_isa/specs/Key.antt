-- The keys of a machine description: where each stands, what it takes, and their order.
use Rattle.std.specs.Prelude.{ℕ, Bool, true, ◌≡◌, ◌-◌, ◌==◌, if◌then◌else◌}
use Rattle.std.specs.Prelude.{List, [], ◌∷◌, ◌++◌, Option, Some, None, codes}
use Rattle.std.specs.{Option.option_map, Option.option_map_or, List.slice_get}
use Rattle.rv_isa.specs.declared.{bounds.Bounds.Bounds, keys.Key.Key, keys.KindKey.KindKey}
use Rattle.rv_isa.specs.declared.{keys.NumberKey.NumberKey, keys.NumberRow.NumberRow as RowValue}
use Rattle.rv_isa.specs.declared.{keys.Place.Place as PlaceValue, operations.Kind.Kind}
use Rattle.rv_isa.specs.declared.{values.KindValues.KindValues, values.PredictorKind.PredictorKind as Prediction}
use Rattle.rv_isa.specs.declared.{values.Recovery.Recovery as Mending, values.Values.Values}
use Rattle.rv_isa.specs.declared.bounds.Bounds.TheVariants.{Whole, Pages, Words, Powers, Front}
use Rattle.rv_isa.specs.declared.keys.Key.TheVariants.{Number, Recovery, Pipelined, PredictorKind}
use Rattle.rv_isa.specs.declared.keys.KindKey.TheVariants.{Stations, Units, Latency}
use Rattle.rv_isa.specs.declared.keys.NumberKey.TheVariants.{RamBase, RamSize, RomBytes, FetchWidth, DispatchWidth}
use Rattle.rv_isa.specs.declared.keys.NumberKey.TheVariants.{CommitWidth, BusWidth, FetchBuffer, Rob, StoreQueue}
use Rattle.rv_isa.specs.declared.keys.NumberKey.TheVariants.{Forward, OfKind, CacheSets, CacheWays, CacheLine}
use Rattle.rv_isa.specs.declared.keys.NumberKey.TheVariants.{CacheHit, CacheMiss, CacheWriteBack, PredictorEntries}
use Rattle.rv_isa.specs.declared.keys.NumberKey.TheVariants.{ReportDumpAddress, ReportDumpWords}
use Rattle.rv_isa.specs.declared.operations.Kind.TheVariants.{Alu, Mul, Div, Mem}
use Rattle.rv_isa.specs.Bounds.{takes}
use Rattle.rv_isa.specs.PerKind.{by_kind, at_kind}

-- where a key stands: in a table, unless it stands at top level, and under which name
pub record Place : Type 0 where
  pub table : Option (List ℕ)
  pub name : List ℕ

-- a place at top level
abbrev pub top : List ℕ → Place
top name = record { table = None; name = name }

-- a place in a table
abbrev pub inside : List ℕ → List ℕ → Place
inside table name = record { table = Some table; name = name }

-- the row of a key that holds a number
pub record NumberRow : Type 0 where
  pub place : Place
  pub bounds : Bounds

-- the row of a place that takes these numbers
abbrev pub row : Place → Bounds → NumberRow
row place bounds = record { place = place; bounds = bounds }

-- the table with the keys of a kind
abbrev pub kind_name : Kind → List ℕ
kind_name Alu = codes "alu"
kind_name Mul = codes "mul"
kind_name Div = codes "div"
kind_name Mem = codes "mem"

-- the numbers of a kind
abbrev pub kind_row : Kind → KindKey → NumberRow
kind_row kind Stations = row (inside (kind_name kind) (codes "stations")) (Whole 1 64)
kind_row kind Units = row (inside (kind_name kind) (codes "units")) (Whole 1 8)
kind_row kind Latency = row (inside (kind_name kind) (codes "latency")) (Whole 1 64)

-- the table of the keys that hold a number
abbrev pub row_of : NumberKey → NumberRow
row_of RamBase = row (top (codes "ram_base")) (Pages 0 0xff00_0000)
row_of RamSize = row (top (codes "ram_size")) (Pages 4096 16777216)
row_of RomBytes = row (top (codes "rom_bytes")) Front
row_of FetchWidth = row (top (codes "fetch_width")) (Whole 1 8)
row_of DispatchWidth = row (top (codes "dispatch_width")) (Whole 1 8)
row_of CommitWidth = row (top (codes "commit_width")) (Whole 1 8)
row_of BusWidth = row (top (codes "bus_width")) (Whole 1 8)
row_of FetchBuffer = row (top (codes "fetch_buffer")) (Whole 1 32)
row_of Rob = row (top (codes "rob")) (Whole 1 256)
row_of StoreQueue = row (top (codes "store_queue")) (Whole 1 64)
row_of Forward = row (top (codes "forward")) (Whole 1 64)
row_of (OfKind kind key) = kind_row kind key
row_of CacheSets = row (inside (codes "cache") (codes "sets")) (Powers 1 256)
row_of CacheWays = row (inside (codes "cache") (codes "ways")) (Whole 1 16)
row_of CacheLine = row (inside (codes "cache") (codes "line")) (Powers 4 128)
row_of CacheHit = row (inside (codes "cache") (codes "hit")) (Whole 1 16)
row_of CacheMiss = row (inside (codes "cache") (codes "miss")) (Whole 0 1000)
row_of CacheWriteBack = row (inside (codes "cache") (codes "write_back")) (Whole 0 1000)
row_of PredictorEntries = row (inside (codes "predictor") (codes "entries")) (Whole 1 4096)
row_of ReportDumpAddress = row (inside (codes "report") (codes "dump_address")) Words
row_of ReportDumpWords = row (inside (codes "report") (codes "dump_words")) (Whole 0 256)

-- where each key stands
abbrev pub key_place : Key → Place
key_place (Number key) = (row_of key).place
key_place Recovery = top (codes "recovery")
key_place (Pipelined kind) = inside (kind_name kind) (codes "pipelined")
key_place PredictorKind = inside (codes "predictor") (codes "kind")

-- the order in which the keys are tested
unfoldable pub order : List Key
order =
    Number RamBase ∷ Number RamSize ∷ Number RomBytes ∷
    Number FetchWidth ∷ Number DispatchWidth ∷ Number CommitWidth ∷ Number BusWidth ∷
    Number FetchBuffer ∷ Number Rob ∷ Number StoreQueue ∷ Number Forward ∷ Recovery ∷
    Number (OfKind Alu Stations) ∷ Number (OfKind Alu Units) ∷ Number (OfKind Alu Latency) ∷ Pipelined Alu ∷
    Number (OfKind Mul Stations) ∷ Number (OfKind Mul Units) ∷ Number (OfKind Mul Latency) ∷ Pipelined Mul ∷
    Number (OfKind Div Stations) ∷ Number (OfKind Div Units) ∷ Number (OfKind Div Latency) ∷ Pipelined Div ∷
    Number (OfKind Mem Stations) ∷ Number (OfKind Mem Units) ∷ Number (OfKind Mem Latency) ∷ Pipelined Mem ∷
    Number CacheSets ∷ Number CacheWays ∷ Number CacheLine ∷
    Number CacheHit ∷ Number CacheMiss ∷ Number CacheWriteBack ∷
    PredictorKind ∷ Number PredictorEntries ∷
    Number ReportDumpAddress ∷ Number ReportDumpWords ∷
    []

-- the text of a name, after its table's and a dot
abbrev pub joined : Option (List ℕ) → List ℕ → List ℕ
joined None name = name
joined (Some table) name = table ++ codes "." ++ name

-- the text of a key, as a description writes it
abbrev pub text_of : Key → List ℕ
text_of key = joined (key_place key).table (key_place key).name

-- the text of the key at a place, from 1, and none at any other number
abbrev pub text_at : ℕ → List ℕ
text_at place = if place == 0 then [] else option_map_or text_of (slice_get order (place - 1)) []

-- the number of a kind's values at a key
abbrev pub kind_number : KindValues → KindKey → ℕ
kind_number values Stations = values.stations
kind_number values Units = values.units
kind_number values Latency = values.latency

-- the number at a key
abbrev pub number_of : Values → NumberKey → ℕ
number_of v RamBase = v.ram_base
number_of v RamSize = v.ram_size
number_of v RomBytes = v.rom_bytes
number_of v FetchWidth = v.fetch_width
number_of v DispatchWidth = v.dispatch_width
number_of v CommitWidth = v.commit_width
number_of v BusWidth = v.bus_width
number_of v FetchBuffer = v.fetch_buffer
number_of v Rob = v.rob
number_of v StoreQueue = v.store_queue
number_of v Forward = v.forward
number_of v (OfKind kind key) = kind_number (at_kind kind v.kinds) key
number_of v CacheSets = v.cache.sets
number_of v CacheWays = v.cache.ways
number_of v CacheLine = v.cache.line
number_of v CacheHit = v.cache.hit
number_of v CacheMiss = v.cache.miss
number_of v CacheWriteBack = v.cache.write_back
number_of v PredictorEntries = v.predictor.entries
number_of v ReportDumpAddress = v.report.dump_address
number_of v ReportDumpWords = v.report.dump_words

-- the values of a kind with these numbers
abbrev pub kind_with : (NumberKey → ℕ) → (Kind → Bool) → Kind → KindValues
kind_with number is_pipelined kind =
    record {
      stations = number (OfKind kind Stations);
      units = number (OfKind kind Units);
      latency = number (OfKind kind Latency);
      pipelined = is_pipelined kind;
    }

-- the values with these numbers and choices
abbrev pub values_with : (NumberKey → ℕ) → (Kind → Bool) → Mending → Prediction → Values
values_with number is_pipelined recovery predictor =
    record {
      ram_base = number RamBase;
      ram_size = number RamSize;
      rom_bytes = number RomBytes;
      fetch_width = number FetchWidth;
      dispatch_width = number DispatchWidth;
      commit_width = number CommitWidth;
      bus_width = number BusWidth;
      fetch_buffer = number FetchBuffer;
      rob = number Rob;
      store_queue = number StoreQueue;
      forward = number Forward;
      recovery = recovery;
      kinds = by_kind (kind_with number is_pipelined);
      cache =
          record {
            sets = number CacheSets;
            ways = number CacheWays;
            line = number CacheLine;
            hit = number CacheHit;
            miss = number CacheMiss;
            write_back = number CacheWriteBack;
          };
      predictor = record { kind = predictor; entries = number PredictorEntries };
      report = record { dump_address = number ReportDumpAddress; dump_words = number ReportDumpWords };
    }

-- the value at a key is one that the key takes
abbrev pub obeys : Values → Key → Bool
obeys v (Number key) = takes (row_of key).bounds v.ram_size (number_of v key)
obeys v Recovery = true
obeys v (Pipelined kind) = true
obeys v PredictorKind = true

-- the value at each key is one that the key takes
abbrev pub ObeysEachKey : Values → Type 0
ObeysEachKey v = (key : Key) → obeys v key ≡ true

-- what the program's place shows
abbrev pub shown : PlaceValue → Place
shown place = record { table = option_map (λ table. table.now) place.table; name = place.name.now }

-- what the program's row shows
abbrev pub shown_row : RowValue → NumberRow
shown_row row = record { place = shown row.place; bounds = row.bounds }
