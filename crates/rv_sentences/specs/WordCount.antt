-- How many things are at each word of RAM.
use Rattle.std.specs.Prelude.{ℕ, ◌+◌, ◌==◌, Bool, false, List, [], ◌∷◌, count_by, Option, Some, None}
use Rattle.rv_sentences.specs.WordNotes.{Notes, note_at, with_change}

-- a thing is at a word, by the word that it is at, if it is at one
abbrev pub is_word : ℕ → Option ℕ → Bool
is_word word None = false
is_word word (Some other) = other == word

-- how many of some things are at a word, by the word of each
abbrev pub count_at : {X : Type 0} → (X → Option ℕ) → List X → ℕ → ℕ
count_at place xs word = count_by (λ x. is_word word (place x)) xs

-- the counts of the words with one thing more
abbrev pub with_one : Option ℕ → Notes ℕ → Notes ℕ
with_one None counts = counts
with_one (Some word) counts = with_change (λ count. count + 1) counts word

-- with some things more, of which the first is the last
abbrev pub with_all : {X : Type 0} → (X → Option ℕ) → List X → Notes ℕ → Notes ℕ
with_all place [] counts = counts
with_all place (x ∷ xs) counts = with_one (place x) (with_all place xs counts)

-- what is counted at a word, nothing outside RAM
abbrev pub or_nothing : Option ℕ → ℕ
or_nothing None = 0
or_nothing (Some count) = count

abbrev pub count_in : Notes ℕ → ℕ → ℕ
count_in counts word = or_nothing (note_at counts word)
