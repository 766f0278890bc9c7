-- What is changed of a machine, and the machine with the change.
use Rattle.std.specs.Prelude.{ℕ, ◌==◌, Bool, true, false, not, ◌&&◌, ◌||◌, if◌then◌else◌, Option, Some, None}
use Rattle.rv_isa.specs.Choice.{is_same_predictor}
use Rattle.rv_isa.specs.Key.{number_of}
use Rattle.rv_isa.specs.PerKind.{at_kind, with_kind}
use Rattle.rv_isa.specs.declared.{keys.Key.Key, keys.KindKey.KindKey, keys.NumberKey.NumberKey, operations.Kind.Kind}
use Rattle.rv_isa.specs.declared.values.{KindValues.KindValues, PredictorKind.PredictorKind as Prediction}
use Rattle.rv_isa.specs.declared.values.{Recovery.Recovery as Mending, Values.Values}
use Rattle.rv_isa.specs.declared.keys.Key.TheVariants as key
use Rattle.rv_isa.specs.declared.values.PredictorKind.TheVariants.{Bimodal}
use Rattle.rv_isa.specs.declared.keys.KindKey.TheVariants.{Stations, Units, Latency}
use Rattle.rv_isa.specs.declared.keys.NumberKey.TheVariants.{RamBase, RamSize, RomBytes, FetchWidth, DispatchWidth}
use Rattle.rv_isa.specs.declared.keys.NumberKey.TheVariants.{CommitWidth, BusWidth, FetchBuffer, Rob, StoreQueue}
use Rattle.rv_isa.specs.declared.keys.NumberKey.TheVariants.{Forward, OfKind, CacheSets, CacheWays, CacheLine}
use Rattle.rv_isa.specs.declared.keys.NumberKey.TheVariants.{CacheHit, CacheMiss, CacheWriteBack, PredictorEntries}
use Rattle.rv_isa.specs.declared.keys.NumberKey.TheVariants.{ReportDumpAddress, ReportDumpWords}
use Rattle.rv_isa.specs.declared.values.Recovery.TheVariants.{Commit, Early}
use Rattle.rv_sensitivity.specs.declared.change.Change.{Change}
use Rattle.rv_sensitivity.specs.declared.change.Change.TheVariants.{Number, Recovery, Pipelined, Predictor, Widths}

-- the key whose value is changed; all widths have none
abbrev pub key_of : Change → Option Key
key_of (Number number_key n) = Some (key.Number number_key)
key_of (Recovery recovery) = Some key.Recovery
key_of (Pipelined kind truth) = Some (key.Pipelined kind)
key_of (Predictor kind) = Some key.PredictorKind
key_of (Widths widths) = None

-- a kind's values with another number at a key
abbrev pub with_kind_number : KindKey → ℕ → KindValues → KindValues
with_kind_number Stations n values = record values { stations = n }
with_kind_number Units n values = record values { units = n }
with_kind_number Latency n values = record values { latency = n }

-- a machine with another number at a key
abbrev pub with_number : NumberKey → ℕ → Values → Values
with_number RamBase n v = record v { ram_base = n }
with_number RamSize n v = record v { ram_size = n }
with_number RomBytes n v = record v { rom_bytes = n }
with_number FetchWidth n v = record v { fetch_width = n }
with_number DispatchWidth n v = record v { dispatch_width = n }
with_number CommitWidth n v = record v { commit_width = n }
with_number BusWidth n v = record v { bus_width = n }
with_number FetchBuffer n v = record v { fetch_buffer = n }
with_number Rob n v = record v { rob = n }
with_number StoreQueue n v = record v { store_queue = n }
with_number Forward n v = record v { forward = n }
with_number (OfKind kind kind_key) n v =
    record v { kinds = with_kind kind (with_kind_number kind_key n (at_kind kind v.kinds)) v.kinds }
with_number CacheSets n v = record v { cache = record v.cache { sets = n } }
with_number CacheWays n v = record v { cache = record v.cache { ways = n } }
with_number CacheLine n v = record v { cache = record v.cache { line = n } }
with_number CacheHit n v = record v { cache = record v.cache { hit = n } }
with_number CacheMiss n v = record v { cache = record v.cache { miss = n } }
with_number CacheWriteBack n v = record v { cache = record v.cache { write_back = n } }
with_number PredictorEntries n v = record v { predictor = record v.predictor { entries = n } }
with_number ReportDumpAddress n v = record v { report = record v.report { dump_address = n } }
with_number ReportDumpWords n v = record v { report = record v.report { dump_words = n } }

-- a machine whose units of a kind are pipelined, or not
abbrev pub with_pipelined : Kind → Bool → Values → Values
with_pipelined kind truth v =
    record v { kinds = with_kind kind (record (at_kind kind v.kinds) { pipelined = truth }) v.kinds }

-- a machine with a change
abbrev pub changed : Change → Values → Values
changed (Number number_key n) v = with_number number_key n v
changed (Recovery recovery) v = record v { recovery = recovery }
changed (Pipelined kind truth) v = with_pipelined kind truth v
changed (Predictor kind) v = record v { predictor = record v.predictor { kind = kind } }
changed (Widths widths) v = record v {
  fetch_width = widths.fetch;
  dispatch_width = widths.dispatch;
  commit_width = widths.commit;
  bus_width = widths.bus;
}

-- only one predictor has entries
abbrev pub has_entries : Prediction → Bool
has_entries Bimodal = true
has_entries _ = false

-- a machine has that of which a key says how many
abbrev pub is_used : NumberKey → Values → Bool
is_used PredictorEntries v = has_entries v.predictor.kind
is_used _ v = true

-- a choice is another one
abbrev pub is_new_recovery : Mending → Mending → Bool
is_new_recovery Commit Commit = false
is_new_recovery Early Early = false
is_new_recovery _ _ = true

abbrev pub is_new_truth : Bool → Bool → Bool
is_new_truth truth own = if own then not truth else truth

-- a change makes another machine
abbrev pub is_new : Change → Values → Bool
is_new (Number number_key n) v = not (n == number_of v number_key) && is_used number_key v
is_new (Recovery recovery) v = is_new_recovery recovery v.recovery
is_new (Pipelined kind truth) v = is_new_truth truth (at_kind kind v.kinds).pipelined
is_new (Predictor kind) v = not (is_same_predictor kind v.predictor.kind)
is_new (Widths widths) v =
    not (widths.fetch == v.fetch_width)
    || (not (widths.dispatch == v.dispatch_width)
    || (not (widths.commit == v.commit_width) || not (widths.bus == v.bus_width)))
