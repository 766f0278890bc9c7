-- What is tried of each machine: a table of keys, in their order, with what is tried for each.
use Rattle.std.specs.Prelude.{ℕ, ◌+◌, ◌*◌, ◌/◌, ◌%◌, min, true, List, [], ◌∷◌}
use Rattle.rv_isa.specs.Key.{number_of, row_of}
use Rattle.rv_isa.specs.declared.{bounds.Bounds.Bounds, keys.NumberKey.NumberKey}
use Rattle.rv_isa.specs.declared.values.{Recovery.Recovery as Mending, Values.Values}
use Rattle.rv_isa.specs.declared.bounds.Bounds.TheVariants.{Whole, Pages, Words, Powers, Front}
use Rattle.rv_isa.specs.declared.keys.KindKey.TheVariants.{Stations, Units, Latency}
use Rattle.rv_isa.specs.declared.keys.NumberKey.TheVariants.{FetchWidth, DispatchWidth, CommitWidth, BusWidth}
use Rattle.rv_isa.specs.declared.keys.NumberKey.TheVariants.{FetchBuffer, Rob, StoreQueue, Forward, OfKind}
use Rattle.rv_isa.specs.declared.keys.NumberKey.TheVariants.{CacheSets, CacheWays, CacheLine, CacheHit}
use Rattle.rv_isa.specs.declared.keys.NumberKey.TheVariants.{CacheMiss, CacheWriteBack, PredictorEntries}
use Rattle.rv_isa.specs.declared.operations.Kind.TheVariants.{Alu, Mul, Div, Mem}
use Rattle.rv_isa.specs.declared.values.PredictorKind.TheVariants.{NotTaken, BackwardTaken, Bimodal}
use Rattle.rv_isa.specs.declared.values.Recovery.TheVariants.{Commit, Early}
use Rattle.rv_sensitivity.specs.declared.{change.{Change.Change, Widths.Widths}, trials.Trial.Trial}
use Rattle.rv_sensitivity.specs.declared.change.Change.TheVariants as change
use Rattle.rv_sensitivity.specs.declared.trials.Trial.TheVariants.{Doubled, Halved, DoubledWidths}
use Rattle.rv_sensitivity.specs.declared.trials.Trial.TheVariants.{OtherRecovery, Pipelined, Predictor}

-- each size and width is doubled, each latency and cost halved, and each other choice made
unfoldable pub trials : List Trial
trials =
    Doubled FetchWidth ∷ Doubled DispatchWidth ∷ Doubled CommitWidth ∷ Doubled BusWidth ∷ DoubledWidths ∷
    Doubled FetchBuffer ∷ Doubled Rob ∷ Doubled StoreQueue ∷ Halved Forward ∷ OtherRecovery ∷
    Doubled (OfKind Alu Stations) ∷ Doubled (OfKind Alu Units) ∷ Halved (OfKind Alu Latency) ∷ Pipelined Alu ∷
    Doubled (OfKind Mul Stations) ∷ Doubled (OfKind Mul Units) ∷ Halved (OfKind Mul Latency) ∷ Pipelined Mul ∷
    Doubled (OfKind Div Stations) ∷ Doubled (OfKind Div Units) ∷ Halved (OfKind Div Latency) ∷ Pipelined Div ∷
    Doubled (OfKind Mem Stations) ∷ Doubled (OfKind Mem Units) ∷ Halved (OfKind Mem Latency) ∷ Pipelined Mem ∷
    Doubled CacheSets ∷ Doubled CacheWays ∷ Doubled CacheLine ∷
    Halved CacheHit ∷ Halved CacheMiss ∷ Halved CacheWriteBack ∷
    Predictor NotTaken ∷ Predictor BackwardTaken ∷ Predictor Bimodal ∷ Doubled PredictorEntries ∷
    []

-- twice a number, or the most that a key with these bounds takes
abbrev pub doubled : Bounds → ℕ → ℕ
doubled (Whole low most) n = min (2 * n) most
doubled (Powers low most) n = min (2 * n) most
doubled (Pages low most) n = min (2 * n) most
doubled Words n = n
doubled Front n = n

-- half of a number, rounded up
abbrev pub halved : ℕ → ℕ
halved n = n / 2 + n % 2

-- the other way to mend wrong predictions
abbrev pub other_recovery : Mending → Mending
other_recovery Commit = Early
other_recovery Early = Commit

-- twice the number of a machine at a key
abbrev pub doubled_at : NumberKey → Values → ℕ
doubled_at key v = doubled (row_of key).bounds (number_of v key)

-- all widths of a machine twice as large
abbrev pub twice_as_wide : Values → Widths
twice_as_wide v = record {
  fetch = doubled_at FetchWidth v;
  dispatch = doubled_at DispatchWidth v;
  commit = doubled_at CommitWidth v;
  bus = doubled_at BusWidth v;
}

-- the change that is tried of a machine
abbrev pub tried : Values → Trial → Change
tried v (Doubled key) = change.Number key (doubled_at key v)
tried v (Halved key) = change.Number key (halved (number_of v key))
tried v DoubledWidths = change.Widths (twice_as_wide v)
tried v OtherRecovery = change.Recovery (other_recovery v.recovery)
tried v (Pipelined kind) = change.Pipelined kind true
tried v (Predictor kind) = change.Predictor kind
