-- The lines on why instructions stayed in flight.
use Rattle.std.specs.Prelude.{ℕ, ◌==◌, if◌then◌else◌, List, [], ◌∷◌, ◌++◌, codes, decimal, get_or, slice_set}
use Rattle.std.specs.List.{flat_map}
use Rattle.rv_memory.specs.Memory.{word_of}
use Rattle.rv_source.specs.Listing.{Listed}
use Rattle.rv_sentences.specs.OutcomeText.{loads_aside}
use Rattle.rv_source.specs.PlaceText.{place_text}
use Rattle.rv_sentences.specs.GreatestLines.{first_greatest, greatest_lines}
use Rattle.rv_sentences.specs.Stack.{part_line, parts_of, share_text}
use Rattle.rv_sentences.specs.Stay.{all_stays}
use Rattle.rv_sentences.specs.WordNotes.{Notes, note_at}
use Rattle.rv_sentences.specs.declared.{outcomes.Outcomes.Outcomes, counted_line.Greatest.Greatest}
use Rattle.rv_sentences.specs.declared.{counted_line.CountedLine.CountedLine, stays.Stays.Stays}

-- what instructions in flight wait for
unfoldable pub wait_names : List (List ℕ)
wait_names =
    codes " waiting for operands" ∷
    codes " waiting for an older store's address" ∷
    codes " waiting for an alu unit" ∷
    codes " waiting for a mul unit" ∷
    codes " waiting for a div unit" ∷
    codes " waiting for a mem unit" ∷
    codes " waiting for the port" ∷
    codes " waiting for the bus" ∷
    codes " waiting for retirement" ∷
    []

-- and for how many cycles
abbrev pub wait_counts : Stays → List ℕ
wait_counts s =
    s.operands ∷ s.addresses ∷ s.units.alu ∷ s.units.mul ∷ s.units.div ∷ s.units.mem ∷ s.port ∷ s.bus
    ∷ s.retirement ∷ []

-- a wait by its place among them, with its cycles, and what part of all that is
unfoldable pub wait_text : ℕ → Greatest → List ℕ
wait_text all wait =
    decimal wait.count ++ (get_or wait_names wait.place [] ++ share_text (parts_of 1000 wait.count all))

-- the second wait, and the end of the line
unfoldable pub second_wait_text : ℕ → Greatest → List ℕ
second_wait_text all second =
    if second.count == 0 then codes "\n" else codes ", " ++ (wait_text all second ++ codes "\n")

-- the line on two waits
unfoldable pub waits_text : ℕ → Greatest → Greatest → List ℕ
waits_text all first second =
    codes "cycles of instructions in flight: "
    ++ (decimal all ++ (codes ", of them " ++ (wait_text all first ++ second_wait_text all second)))

-- the same, if there was one
unfoldable pub two_waits_text : ℕ → Greatest → Greatest → List ℕ
two_waits_text all first second = if first.count == 0 then [] else waits_text all first second

-- on the two greatest, of equal ones the first
abbrev pub greatest_waits_text : Stays → List ℕ
greatest_waits_text s =
    let first = first_greatest (wait_counts s) in
    two_waits_text (all_stays s) first (first_greatest (slice_set (wait_counts s) first.place 0))

-- what the instructions in flight did in so many cycles, in the order in which one may do it
unfoldable pub parts_text : ℕ → Stays → List ℕ
parts_text all s =
    codes "Where the " ++ (decimal all ++ (codes " cycles of instructions in flight went:\n" ++
    flat_map (λ (share : List ℕ × ℕ). part_line share.0 share.1 all)
    ((codes "waiting for operands         ", s.operands) ∷ (codes "waiting for a store's address", s.addresses) ∷
    (codes "waiting for an alu unit      ", s.units.alu) ∷ (codes "waiting for a mul unit       ", s.units.mul) ∷
    (codes "waiting for a div unit       ", s.units.div) ∷ (codes "waiting for a mem unit       ", s.units.mem) ∷
    (codes "waiting for the port         ", s.port) ∷ (codes "in execution                 ", s.execution) ∷
    (codes "waiting for the bus          ", s.bus) ∷ (codes "waiting for retirement       ", s.retirement) ∷ [])))

-- the same, if there are any
unfoldable pub some_parts_text : ℕ → Stays → List ℕ
some_parts_text all s = if all == 0 then [] else parts_text all s

-- in all their cycles
abbrev pub stays_text : Stays → List ℕ
stays_text s = some_parts_text (all_stays s) s

-- a line whose result was awaited: in how many of all cycles, its loads, and where it is
unfoldable pub awaited_line : Listed → ℕ → Notes Outcomes → CountedLine → List ℕ
awaited_line listing all outcomes line =
    codes "Awaited most, for " ++ (decimal line.count ++ (codes " of " ++ (decimal all ++ (codes " cycles" ++
    (loads_aside (note_at outcomes (word_of line.address)) ++ (codes ": " ++ place_text listing line.address))))))

-- the line whose result was awaited most, if any operand was awaited, by the word that the oldest one awaited in each
-- of so many cycles
unfoldable pub awaited_text : Listed → ℕ → Notes Outcomes → Notes ℕ → List ℕ
awaited_text listing all outcomes awaited =
    flat_map (awaited_line listing all outcomes) (greatest_lines listing 1 awaited)
