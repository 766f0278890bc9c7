-- The values of an array that are said item by item, with how many there are so far.
use Rattle.std.proofs.Common.{◌≡◌, ◌∙◌, ℕ, ◌+◌, ◌<◌, ◌≤◌, List, [], length, get_or, map, take, Option, ap, arith}
use Rattle.std.specs.List.{flat_map}
use Rattle.rv_states.specs.Json.{Json, values_from}
use Rattle.rv_states.proofs.Arrays.{count_given, says_given}
use Rattle.rv_text.specs.Said.{Says}
use Rattle.rv_text.specs.declared.sink.Sink.{Sink}
use Rattle.rv_text.proofs.Saying.{says_same}

-- those of the items before a place are said and counted, at most one of each
pub record AreGiven {X W : Type 0} (contents : W → Option (List ℕ)) (values : X → List Json) (items : List X)
    (place written : ℕ) (first out : Sink W) : Type 0 where
  pub said : Says contents first out (values_from 0 (flat_map values (take place items)))
  pub count : written ≡ length (flat_map values (take place items))
  pub few : written ≤ place

module _ {X W : Type 0} {contents : W → Option (List ℕ)} (values : X → List Json) (items : List X) where
  -- one item more gives its value, if it has one
  pub given_on : {place written now : ℕ} {first out out' : Sink W} → place < length items →
      AreGiven contents values items place written first out →
      (given : List Json) → given ≡ get_or (map values items) place [] →
      Says contents out out' (values_from written given) →
      now ≡ written + length given → now ≤ written + 1 → AreGiven contents values items (place + 1) now first out'
  given_on {place} {written} {now} here so_far given is said count few = record {
    said = says_given values items place written here so_far.count so_far.said
        (says_same (ap (values_from written) is) said);
    count = count_given values items place written here so_far.count now (count ∙ ap (λ l. written + length l) is);
    few = omega (arith, few, so_far.few);
  }
