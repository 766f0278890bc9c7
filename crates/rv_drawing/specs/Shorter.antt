-- A statement in at most 32 bytes.
use Rattle.std.specs.Prelude.{ℕ, ◌-◌, ◌==◌, ◌&&◌, ◌||◌, Bool, not, if◌then◌else◌, max, nat_le}
use Rattle.std.specs.Prelude.{List, ◌++◌, length, take, drop, codes, Option, Some, None}
use Rattle.std.specs.List.{position, slice_index_or}

-- a byte is one of a range
abbrev pub is_between : ℕ → ℕ → ℕ → Bool
is_between byte first last = nat_le first byte && nat_le byte last

-- a byte is no letter, no digit, no underscore, no point and no dollar sign
abbrev pub ends_name : ℕ → Bool
ends_name byte =
    not (is_between byte 48 57 || is_between byte 65 90 || is_between byte 97 122 || byte == 95
    || byte == 46 || byte == 36)

-- a name up to some place is a label where a colon stands there
abbrev pub label_up_to : List ℕ → Option ℕ → ℕ
label_up_to text None = 0
label_up_to text (Some end) = if slice_index_or text end 0 == 58 then end else 0

-- how long the label is that a text begins with
abbrev pub label_length : List ℕ → ℕ
label_length text = label_up_to text (position ends_name text)

-- how much of a label is left in a text of so many bytes: as much as leaves room for what stands after it, but 4 bytes at least
abbrev pub label_left : ℕ → ℕ → ℕ
label_left label size = max (30 - (size - label)) 4

-- what is left of a label, two points for the others, and what stands after it
unfoldable pub with_label_cut : ℕ → List ℕ → List ℕ
with_label_cut label text =
    take (label_left label (length text)) text
    ++ (codes ".." ++ take (30 - label_left label (length text)) (drop label text))

-- a text that is longer has its label cut, where that is longer than what would be left of it
unfoldable pub shortened : List ℕ → List ℕ
shortened text =
    if nat_le (length text) 32 || nat_le (label_length text) 6 then take 32 text
    else with_label_cut (label_length text) text
