-- Which values a key takes, in words.
use Rattle.std.specs.Prelude.{ℕ, Bool, true, false, List, ◌++◌, codes, decimal, if◌then◌else◌}
use Rattle.std.specs.Fmt.{digits}
use Rattle.rv_isa.specs.declared.{bounds.Bounds.Bounds, keys.Key.Key, keys.NumberKey.NumberKey}
use Rattle.rv_isa.specs.declared.bounds.Bounds.TheVariants.{Whole, Pages, Powers, Words, Front}
use Rattle.rv_isa.specs.declared.keys.Key.TheVariants.{Number, Recovery, Pipelined, PredictorKind}
use Rattle.rv_isa.specs.declared.keys.NumberKey.TheVariants.{RamBase, ReportDumpAddress}
use Rattle.rv_isa.specs.declared.values.PredictorKind.TheVariants.{NotTaken, BackwardTaken, Bimodal}
use Rattle.rv_isa.specs.declared.values.Recovery.TheVariants.{Commit, Early}
use Rattle.rv_isa.specs.Choice.{predictor_name, recovery_name}
use Rattle.rv_isa.specs.Key.{row_of}

-- an address stands at a key
abbrev pub holds_address : NumberKey → Bool
holds_address RamBase = true
holds_address ReportDumpAddress = true
holds_address _ = false

-- a number that stands at a key: an address in hexadecimal, and another number in decimal
unfoldable pub number_text : NumberKey → ℕ → List ℕ
number_text key number = if holds_address key then codes "0x" ++ digits 16 false number else decimal number

-- a range of numbers of a key after a word
abbrev pub range_text : NumberKey → List ℕ → ℕ → ℕ → List ℕ
range_text key word low high =
    word ++ (codes " from " ++ (number_text key low ++ (codes " to " ++ number_text key high)))

-- the numbers of bounds of a key
unfoldable pub bounds_text : NumberKey → Bounds → List ℕ
bounds_text key (Whole low high) = range_text key (codes "a number") low high
bounds_text key (Pages low high) = range_text key (codes "a multiple of 4096") low high
bounds_text key (Powers low high) = range_text key (codes "a power of two") low high
bounds_text key Words = range_text key (codes "a multiple of 4") 0 4294967292
bounds_text key Front = codes "a multiple of 4096 from 0 to ram_size"

-- a word in quotes
abbrev pub quoted : List ℕ → List ℕ
quoted word = codes "\"" ++ (word ++ codes "\"")

-- the words of the ways to mend wrong predictions
abbrev pub recoveries : List ℕ
recoveries = quoted (recovery_name Commit) ++ (codes " or " ++ quoted (recovery_name Early))

-- the words of the predictors
abbrev pub predictors : List ℕ
predictors =
    quoted (predictor_name NotTaken)
    ++ (codes ", " ++ (quoted (predictor_name BackwardTaken) ++ (codes " or " ++ quoted (predictor_name Bimodal))))

-- the values that a key takes
unfoldable pub key_range : Key → List ℕ
key_range (Number key) = bounds_text key (row_of key).bounds
key_range Recovery = recoveries
key_range (Pipelined kind) = codes "true or false"
key_range PredictorKind = predictors
