-- What is kept of each word of RAM.
use Rattle.std.specs.Prelude.{ℕ, ◌-◌, nat_lt, if◌then◌else◌, List, map, Option, Some, None, slice_set}
use Rattle.std.specs.List.{range_with_len, slice_get}
use Rattle.rv_isa.specs.declared.values.Values.{Values}
use Rattle.rv_memory.specs.Memory.{word_of}

-- the number of RAM's first word, and what is kept of that word and of the others, in order
pub record Notes (X : Type 0) : Type 0 where
  pub first : ℕ
  pub words : List X

-- what is kept, by the words' numbers
abbrev pub notes_of : {X : Type 0} → Values → (ℕ → X) → Notes X
notes_of values note = record {
  first = word_of values.ram_base;
  words = map note (range_with_len (word_of values.ram_base) (word_of values.ram_size));
}

-- what is kept of a word, if it lies in RAM
abbrev pub note_at : {X : Type 0} → Notes X → ℕ → Option X
note_at notes word = if nat_lt word notes.first then None else slice_get notes.words (word - notes.first)

-- another note of a word that lies in RAM
abbrev pub with_note : {X : Type 0} → Notes X → ℕ → X → Notes X
with_note notes word note =
    if nat_lt word notes.first then notes else record notes { words = slice_set notes.words (word - notes.first) note }

-- a change of the note of a word, if it has one
abbrev pub changed : {X : Type 0} → (X → X) → Notes X → ℕ → Option X → Notes X
changed change notes word None = notes
changed change notes word (Some note) = with_note notes word (change note)

-- a change of what is kept of a word; of a word outside RAM nothing is
abbrev pub with_change : {X : Type 0} → (X → X) → Notes X → ℕ → Notes X
with_change change notes word = changed change notes word (note_at notes word)
