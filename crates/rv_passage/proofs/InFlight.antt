-- How many are in flight, and the place of each.
use Rattle.std.proofs.Common.{◌≡◌, ◌∙◌, ℕ, zero, suc, ◌+◌, ◌-◌, ◌<◌, ◌≤◌, List, [], ◌∷◌, ◌++◌, length, map, slice_get}
use Rattle.std.proofs.Common.{Option, refl, sym, ap, arith, length-append}
use Rattle.std.proofs.lemmas.List.{length-map}
use Rattle.std.specs.Option.{option_map}
use Rattle.std.proofs.lemmas.Option.{slice_get-map}
use Rattle.rv_front.specs.FetchBuffer.{FetchBuffer}
use Rattle.rv_front.specs.declared.fetched.Fetched.{Fetched}
use Rattle.rv_rob.specs.ReorderBuffer.{ReorderBuffer}
use Rattle.rv_rob.specs.declared.entry.Entry.{Entry}
use Rattle.rv_hardware.specs.Hardware.{Hardware}
use Rattle.rv_hardware.specs.Run.{Reachable}
use Rattle.rv_hardware.proofs.Always.Sound.{sound}
use Rattle.rv_passage.specs.Passage.{in_buffers, of_entry, of_fetched}
use Rattle.rv_passage.specs.Table.{AreShort}

-- of hardware that a reset and cycles lead to, the buffers are as long as described
pub short_buffers : {h : Hardware} {rob : ReorderBuffer} {front : FetchBuffer} → Reachable h → rob ≡ h.rob →
    front ≡ h.front → AreShort rob front
short_buffers reached rob_is front_is = grind (arith, sound)

-- as many are in flight as the two buffers hold together
pub length-in_buffers : (rob : ReorderBuffer) (front : FetchBuffer) → length (in_buffers rob front) ≡ length rob.entries
    + length front.entries
length-in_buffers rob front = grind (arith, length-append, length-map)

get-front : {X : Type 0} (xs ys : List X) (i : ℕ) → i < length xs → slice_get (xs ++ ys) i ≡ slice_get xs i
get-front [] ys i within = absurd (omega arith)
get-front (x ∷ xs) ys zero within = refl
get-front (x ∷ xs) ys (suc i) within = get-front xs ys i (omega arith)

get-after : {X : Type 0} (xs ys : List X) (i k : ℕ) → i ≡ length xs + k → slice_get (xs ++ ys) i ≡ slice_get ys k
get-after [] ys i k is = ap (slice_get ys) (omega arith)
get-after (x ∷ xs) ys zero k is = absurd (omega arith)
get-after (x ∷ xs) ys (suc i) k is = get-after xs ys i k (omega arith)

-- the entry at a place
pub entry_here : (rob : ReorderBuffer) (front : FetchBuffer) (place : ℕ) (found : Option Entry) →
    place < length rob.entries →
    found ≡ slice_get rob.entries place → option_map of_entry found ≡ slice_get (in_buffers rob front) place
entry_here rob front place found within held = grind (arith, slice_get-map, get-front, length-map)

-- the word that is so far from the youngest entry
pub word_here : (rob : ReorderBuffer) (front : FetchBuffer) (place : ℕ) (found : Option Fetched) →
    length rob.entries ≤ place →
    found ≡ slice_get front.entries (place - length rob.entries) → option_map of_fetched found
    ≡ slice_get (in_buffers rob front) place
word_here rob front place found past held =
    let k = place - length rob.entries in
    ap (option_map of_fetched) held
    ∙ sym (slice_get-map of_fetched front.entries k)
    ∙ sym (get-after (map of_entry rob.entries) (map of_fetched front.entries) place k
    (omega (arith, past, length-map rob.entries of_entry)))
