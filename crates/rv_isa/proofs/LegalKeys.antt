-- The laws of the table of the keys: every key stands in the order, and values are legal exactly where each is one that
-- its key takes.
use Rattle.std.proofs.Common.{◌≡◌, ℕ, zero, suc, Bool, true, List, [], ◌∷◌, Some, unwrap_or, IsTrue, ◌↔◌, refl, arith}
use Rattle.std.specs.Int.{is_power_of_two}
use lib.Count.{ones}
use Rattle.std.specs.List.{list_all, position_from, slice_get}
use Rattle.std.specs.Str.{bytes_eq}
use Rattle.std.proofs.lemmas.Bool.Decides.{nat_tests}
use Rattle.rv_isa.specs.declared.keys.Key.{Key}
use Rattle.rv_isa.specs.declared.keys.Key.TheVariants.{Number}
use Rattle.rv_isa.specs.declared.keys.KindKey.TheVariants.{Stations, Units, Latency}
use Rattle.rv_isa.specs.declared.keys.NumberKey.{NumberKey}
use Rattle.rv_isa.specs.declared.keys.NumberKey.TheVariants.{RamBase, RamSize, RomBytes, FetchWidth, DispatchWidth}
use Rattle.rv_isa.specs.declared.keys.NumberKey.TheVariants.{CommitWidth, BusWidth, FetchBuffer, Rob, StoreQueue}
use Rattle.rv_isa.specs.declared.keys.NumberKey.TheVariants.{Forward, OfKind, CacheSets, CacheWays, CacheLine}
use Rattle.rv_isa.specs.declared.keys.NumberKey.TheVariants.{CacheHit, CacheMiss, CacheWriteBack, PredictorEntries}
use Rattle.rv_isa.specs.declared.keys.NumberKey.TheVariants.{ReportDumpAddress, ReportDumpWords}
use Rattle.rv_isa.specs.declared.operations.Kind.{Kind}
use Rattle.rv_isa.specs.declared.values.PredictorKind.{PredictorKind as Prediction}
use Rattle.rv_isa.specs.declared.values.Recovery.{Recovery as Mending}
use Rattle.rv_isa.specs.declared.values.Values.{Values}
use Rattle.rv_isa.specs.Bounds.{takes}
use Rattle.rv_isa.specs.Description.{IsLegal, IsLegalMemory, IsLegalPipeline, IsLegalKind, IsLegalCache}
use Rattle.rv_isa.specs.Key.{ObeysEachKey, number_of, obeys, order, row_of, text_of, values_with}
use Rattle.rv_isa.specs.PerKind.{at_kind}
use Rattle.rv_isa.specs.Standard.{standard_values}

-- every key stands in the order, at the first place with its text
pub in_order : (key : Key) → (index : ℕ) × (slice_get order index ≡ Some key)
unfolding order
in_order key = (unwrap_or (position_from (λ other. bytes_eq (text_of other) (text_of key)) 0 order) 0, grind arith)

-- what passes at each element passes at one of them, and what passes everywhere passes at each element
all_at : {X : Type 0} (test : X → Bool) (xs : List X) (i : ℕ) (x : X) → list_all test xs ≡ true →
    slice_get xs i ≡ Some x → test x ≡ true
all_at test [] i x all here = absurd (cc)
all_at test (y ∷ ys) zero x all here = grind arith
all_at test (y ∷ ys) (suc i) x all here = grind (arith, all_at test ys i x)

all_from : {X : Type 0} (test : X → Bool) (xs : List X) → ((x : X) → test x ≡ true) → list_all test xs ≡ true
all_from test [] each = refl
all_from test (y ∷ ys) each = grind (arith, each y, all_from test ys each)

-- the test of all keys in their order passes exactly where the value at each key is one that the key takes
pub obeys_each : (v : Values) → (list_all (obeys v) order ≡ true) ↔ ObeysEachKey v
obeys_each v = (
  λ all key. let (index, here) = in_order key in all_at (obeys v) order index key all here,
  λ each. all_from (obeys v) order each,
)

in_kind : (v : Values) → ObeysEachKey v → (kind : Kind) → IsLegalKind (at_kind kind v.kinds)
in_kind v each kind =
    grind (
      arith,
      nat_tests,
      each (Number (OfKind kind Stations)),
      each (Number (OfKind kind Units)),
      each
          (Number (OfKind kind Latency)),
    )

in_memory : (v : Values) → ObeysEachKey v → IsLegalMemory v
in_memory v each = grind (arith, nat_tests, each (Number RamBase), each (Number RamSize), each (Number RomBytes))

in_pipeline : (v : Values) → ObeysEachKey v → IsLegalPipeline v
in_pipeline v each =
    record {
      fetch_width = grind (arith, nat_tests, each (Number FetchWidth));
      dispatch_width = grind (arith, nat_tests, each (Number DispatchWidth));
      commit_width = grind (arith, nat_tests, each (Number CommitWidth));
      bus_width = grind (arith, nat_tests, each (Number BusWidth));
      fetch_buffer = grind (arith, nat_tests, each (Number FetchBuffer));
      rob = grind (arith, nat_tests, each (Number Rob));
      store_queue = grind (arith, nat_tests, each (Number StoreQueue));
      forward = grind (arith, nat_tests, each (Number Forward));
    }

in_cache : (v : Values) → ObeysEachKey v → IsLegalCache v.cache
in_cache v each =
    grind (
      arith,
      nat_tests,
      each (Number CacheSets),
      each (Number CacheWays),
      each (Number CacheLine),
      each
          (Number CacheHit),
      each (Number CacheMiss),
      each (Number CacheWriteBack),
    )

legal : (v : Values) → ObeysEachKey v → IsLegal v
legal v each =
    record {
      memory = in_memory v each;
      pipeline = in_pipeline v each;
      kinds = in_kind v each;
      cache = in_cache v each;
      predictor = grind (arith, nat_tests, each (Number PredictorEntries));
      report = grind (arith, nat_tests, each (Number ReportDumpAddress), each (Number ReportDumpWords));
    }

obeyed : (v : Values) → IsLegal v → ObeysEachKey v
obeyed v legal key = grind (arith, nat_tests, legal.kinds)

-- that test passes exactly where the values are legal
pub each_legal : (v : Values) → (list_all (obeys v) order ≡ true) ↔ IsLegal v
each_legal v = (λ all. legal v ((obeys_each v).0 all), λ is. (obeys_each v).1 (obeyed v is))

-- the numbers of the values with these numbers
pub number_of-values_with : (number : NumberKey → ℕ) (is_pipelined : Kind → Bool) (recovery : Mending)
    (predictor : Prediction) (key : NumberKey) →
    number_of (values_with number is_pipelined recovery predictor) key ≡ number key
number_of-values_with number is_pipelined recovery predictor key = grind arith

-- the standard values are taken, whatever the bytes of RAM
power_16 : IsTrue (is_power_of_two 16)
unfolding ones
power_16 = refl

-- each key of a number takes its standard value
pub standard_taken : (size : ℕ) (key : NumberKey) →
    takes (row_of key).bounds size (number_of standard_values key) ≡ true
standard_taken size key = grind (arith, nat_tests, power_16)
