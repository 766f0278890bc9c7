-- Arrivals in range and in order are legal.
use Rattle.std.proofs.Common.{◌≡◌, ℕ, zero, suc, ◌+◌, ◌<◌, ◌≤◌, List, [], ◌∷◌}
use Rattle.std.proofs.Common.{length, get_or, Option, Some, None, arith}
use Rattle.std.specs.List.{filter_map, cons_option, AllByRecursion}
use Rattle.std.proofs.lemmas.Bool.Decides.{nat_tests}
use Rattle.std.proofs.lemmas.List.Elements.{All-from_recursion}
use Rattle.std.proofs.lemmas.List.Sorted.{IsNonDecreasingBy-from_all_adjacent}
use Rattle.toml.specs.Data.{Data}
use Rattle.rv_isa.specs.Arrivals.{IsLegalArrivals}
use Rattle.rv_isa.specs.declared.lines.Arrival.{Arrival}
use Rattle.rv_describe.specs.Entries.{arrivals_of, first_fall}
use Rattle.rv_describe.specs.Entry.{arrival_of}

-- no cycle is below the one before
adjacent : (number before : ℕ) (arrivals : List Arrival) → first_fall number before arrivals ≡ None →
    (k : ℕ) (d : Arrival) → k + 1 < length arrivals → (get_or arrivals k d).cycle ≤ (get_or arrivals (k + 1) d).cycle
adjacent number before [] none k d within = grind arith
adjacent number before (a ∷ []) none k d within = grind arith
adjacent number before (a ∷ b ∷ later) none zero d within = grind (arith, nat_tests)
adjacent number before (a ∷ b ∷ later) none (suc k) d within =
    grind (arith, nat_tests, adjacent (number + 1) a.cycle (b ∷ later))

-- each cycle is in its range
within : (entry : Data) (arrival : Arrival) → arrival_of entry ≡ Some arrival → arrival.cycle ≤ 1000000
within entry arrival found = grind (arith, nat_tests)

one_within : (o : Option Arrival) (later : List Arrival) →
    ((arrival : Arrival) → o ≡ Some arrival → arrival.cycle ≤ 1000000) → AllByRecursion (λ a. a.cycle ≤ 1000000) later →
    AllByRecursion (λ a. a.cycle ≤ 1000000) (cons_option o later)
one_within o later here rest = grind arith

all_within : (entries : List Data) → AllByRecursion (λ a. a.cycle ≤ 1000000) (arrivals_of entries)
all_within [] = tt
all_within (first ∷ later) = one_within (arrival_of first) (arrivals_of later) (within first) (all_within later)

length-filter_map : {A B : Type 0} (read : A → Option B) (items : List A) →
    length (filter_map read items) ≤ length items
length-filter_map read [] = omega arith
length-filter_map read (item ∷ later) = grind (arith, length-filter_map read later)

-- the arrivals of at most 100,000 entries, among which no cycle falls, are legal
pub legal : (entries : List Data) → length entries ≤ 100000 → first_fall 1 0 (arrivals_of entries) ≡ None →
    IsLegalArrivals (arrivals_of entries)
legal entries few none =
    record {
      count = omega (arith, length-filter_map arrival_of entries);
      last = All-from_recursion (λ a. a.cycle ≤ 1000000) (arrivals_of entries) (all_within entries);
      order = IsNonDecreasingBy-from_all_adjacent (λ a. a.cycle) (arrivals_of entries)
          (adjacent 1 0 (arrivals_of entries) none);
    }
