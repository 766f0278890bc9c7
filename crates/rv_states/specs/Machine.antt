-- The machine's values, as JSON.
use Rattle.std.specs.Prelude.{ℕ, List, ◌++◌, codes}
use Rattle.rv_isa.specs.declared.values.{CacheValues.CacheValues, KindValues.KindValues}
use Rattle.rv_isa.specs.declared.values.{PredictorValues.PredictorValues, Recovery.Recovery, Values.Values}
use Rattle.rv_isa.specs.Choice.{predictor_name, recovery_name}
use Rattle.rv_states.specs.Json.{Json, also, begins, key, numeral, quoted, truth}

-- where RAM lies
unfoldable pub sizes_text : Values → List ℕ
sizes_text values =
    begins (codes "ram_base") (numeral values.ram_base) ++
    (also (codes "ram_size") (numeral values.ram_size) ++ also (codes "rom_bytes") (numeral values.rom_bytes))

-- how much a cycle does
unfoldable pub widths_text : Values → List ℕ
widths_text values =
    also (codes "fetch_width") (numeral values.fetch_width) ++
    (also (codes "dispatch_width") (numeral values.dispatch_width) ++
    (also (codes "commit_width") (numeral values.commit_width) ++
    also (codes "bus_width") (numeral values.bus_width)))

-- what the buffers hold, and the cost of a load whose bytes are forwarded
unfoldable pub buffers_text : Values → List ℕ
buffers_text values =
    also (codes "fetch_buffer") (numeral values.fetch_buffer) ++
    (also (codes "rob") (numeral values.rob) ++
    (also (codes "store_queue") (numeral values.store_queue) ++
    also (codes "forward") (numeral values.forward)))

-- when wrong predictions are mended
unfoldable pub recovery_text : Recovery → List ℕ
recovery_text recovery = also (codes "recovery") (quoted (recovery_name recovery))

-- all of these
unfoldable pub numbers_text : Values → List ℕ
numbers_text values =
    sizes_text values ++ (widths_text values ++ (buffers_text values ++ recovery_text values.recovery))

-- the stations and units of a kind
unfoldable pub kind_json : KindValues → Json
kind_json kind =
    begins (codes "stations") (numeral kind.stations) ++
    ((also (codes "units") (numeral kind.units) ++
    (also (codes "latency") (numeral kind.latency) ++
    also (codes "pipelined") (truth kind.pipelined))) ++
    codes "}")

-- those of the four kinds
unfoldable pub kinds_text : Values → List ℕ
kinds_text values =
    also (codes "alu") (kind_json values.kinds.alu) ++
    (also (codes "mul") (kind_json values.kinds.mul) ++
    (also (codes "div") (kind_json values.kinds.div) ++
    also (codes "mem") (kind_json values.kinds.mem)))

-- the data cache
unfoldable pub cache_json : CacheValues → Json
cache_json cache =
    begins (codes "sets") (numeral cache.sets) ++
    ((also (codes "ways") (numeral cache.ways) ++
    (also (codes "line") (numeral cache.line) ++
    (also (codes "hit") (numeral cache.hit) ++
    (also (codes "miss") (numeral cache.miss) ++
    also (codes "write_back") (numeral cache.write_back))))) ++
    codes "}")

-- the branch predictor
unfoldable pub predictor_json : PredictorValues → Json
predictor_json predictor =
    begins (codes "entries") (numeral predictor.entries) ++
    (also (codes "kind") (quoted (predictor_name predictor.kind)) ++ codes "}")

-- the machine
unfoldable pub machine_json : Values → Json
machine_json values =
    numbers_text values ++
    (kinds_text values ++
    (also (codes "cache") (cache_json values.cache) ++
    (also (codes "predictor") (predictor_json values.predictor) ++
    codes "}")))

-- the number of the window's first cycle, and the format
unfoldable pub format_text : ℕ → List ℕ
format_text first = begins (codes "first") (numeral first) ++ also (codes "format") (quoted (codes "rv_sim states 1"))

-- the first line: that, and the machine
unfoldable pub header_line : ℕ → Values → List ℕ
header_line first values = format_text first ++ (key (codes "machine") ++ (machine_json values ++ codes "}\n"))
