-- The operands in a column, and how the lists of tags and of values change when a producer is broadcast.
use Rattle.std.specs.Prelude.{◌≡◌, ℕ, ◌+◌, ◌<◌, ◌%◌, Bool, not, length, get_or}
use Rattle.std.specs.Prelude.{take, drop, List, ◌++◌, ◌==◌, if◌then◌else◌}
use Rattle.std.specs.Int.{bit_at}
use Rattle.rv_stations.specs.declared.{lanes.TheConstants.NO_PRODUCER, waiting.Operand.Operand}
use Rattle.rv_stations.specs.declared.waiting.Operand.TheVariants.{Value, Tag}
use Rattle.rv_stations.specs.Waiting.{has_value}

-- an operand is known by its tag
abbrev pub operand_of : ℕ → ℕ → Operand
operand_of tag value = if tag == NO_PRODUCER then Value (value % 0x1_0000_0000) else Tag tag

-- the tag is the sequence number of a producer
abbrev pub is_producer : ℕ → Bool
is_producer tag = not (tag == NO_PRODUCER)

-- a bit for each operand in order, 0 where the value is there and 1 where it is waited for
abbrev pub IsWaitMask : List Operand → ℕ → Type 0
IsWaitMask operands mask =
    (place : ℕ) → place < length operands →
    bit_at mask place ≡ if has_value (get_or operands place (Value 0)) then 0 else 1

-- the bits of two masks are the same but for that of one place
abbrev pub OtherBitsStay : ℕ → ℕ → ℕ → Type 0
OtherBitsStay place before after =
    (other : ℕ) → other < 64 → (other ≡ place → ⊥) → bit_at after other ≡ bit_at before other

-- a tag that is the number goes
abbrev pub woken_tag : ℕ → ℕ → ℕ
woken_tag seq tag = if tag == seq then NO_PRODUCER else tag

-- and the value comes
abbrev pub woken_value : ℕ → ℕ → ℕ → ℕ → ℕ
woken_value seq value tag held = if tag == seq then value else held

-- a list in which eight items from a place on are changed
abbrev pub in_eight : {X : Type 0} → ℕ → (List X → List X) → List X → List X
in_eight start change items = take start items ++ (change (take 8 (drop start items)) ++ drop (start + 8) items)
