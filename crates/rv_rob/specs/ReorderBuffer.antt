use Rattle.std.specs.Prelude.{ℕ, ◌+◌, ◌-◌, ◌==◌, nat_lt, if◌then◌else◌, List, []}
use Rattle.std.specs.Prelude.{◌∷◌, ◌++◌, length, slice_get, Option, None, Some}
use Rattle.rv_rob.specs.declared.entry.Entry.{Entry}

-- the instructions in flight, oldest first; their numbers go on from the count of retired ones
pub record ReorderBuffer : Type 0 where
  pub capacity : ℕ
  pub retired : ℕ
  pub entries : List Entry

-- nothing is in flight and nothing has retired
abbrev pub empty : ℕ → ReorderBuffer
empty capacity = record { capacity = capacity; retired = 0; entries = [] }

-- the number that the next entry gets
abbrev pub next_number : ReorderBuffer → ℕ
next_number r = r.retired + length r.entries

-- the youngest entry
abbrev pub youngest : List Entry → Option Entry
youngest es = slice_get es (length es - 1)

-- the entry of number n, in a list whose first entry has the number `oldest`
abbrev pub entry_of : ℕ → ℕ → List Entry → Option Entry
entry_of n oldest [] = None
entry_of n oldest (e ∷ es) = if n == oldest then Some e else entry_of n (oldest + 1) es

-- the list with the entry of number n changed, and every other as it was
abbrev pub with_entry : (Entry → Entry) → ℕ → ℕ → List Entry → List Entry
with_entry change n oldest [] = []
with_entry change n oldest (e ∷ es) = if n == oldest then change e ∷ es else e ∷ with_entry change n (oldest + 1) es

-- the entries with numbers below n
abbrev pub entries_below : ℕ → ℕ → List Entry → List Entry
entries_below n oldest [] = []
entries_below n oldest (e ∷ es) = if nat_lt oldest n then e ∷ entries_below n (oldest + 1) es else []

-- a further entry, the youngest
abbrev pub pushed : Entry → ReorderBuffer → ReorderBuffer
pushed e r = record r { entries = r.entries ++ e ∷ [] }

-- a change of the entry of number n
abbrev pub changed : (Entry → Entry) → ℕ → ReorderBuffer → ReorderBuffer
changed change n r = record r { entries = with_entry change n r.retired r.entries }

-- only what is older than number n
abbrev pub cut_from : ℕ → ReorderBuffer → ReorderBuffer
cut_from n r = record r { entries = entries_below n r.retired r.entries }

-- the buffer r with these entries, once the first of them has retired
abbrev pub after_head : ReorderBuffer → List Entry → ReorderBuffer
after_head r [] = r
after_head r (e ∷ es) = record r { retired = r.retired + 1; entries = es }

-- the oldest has retired; with nothing in flight, nothing does
abbrev pub head_retired : ReorderBuffer → ReorderBuffer
head_retired r = after_head r r.entries
