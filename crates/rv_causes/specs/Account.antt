-- How many cycles of a path each cause has, and each word of the program.
use Rattle.std.specs.Prelude.{◌≡◌, ℕ, ◌+◌, ◌-◌, ◌^◌, ◌<◌, ◌≤◌, ◌==◌}
use Rattle.std.specs.Prelude.{List, [], ◌∷◌, length, replicate, slice_set}
use Rattle.std.specs.Prelude.{sum, Option, Some, None}
use Rattle.std.proofs.Props.{props}
use Rattle.std.specs.Coded.{×_prop, Unit-prop}
use Rattle.std.specs.List.{find, slice_index_or, sum_by}
use Rattle.rv_passage.specs.ByAddress as kept
use Rattle.rv_causes.specs.Cause.{place_of}
use Rattle.rv_causes.specs.declared.{cause.Cause.Cause, point.Reason.Reason}
use Rattle.rv_causes.specs.declared.{event.Event.Event, word_cycles.WordCycles.WordCycles}

-- so many cycles, how many of them each cause has, and each word of the program, in the order of their addresses
pub record Accounted : Type 0 where
  pub cycles : ℕ
  pub causes : List ℕ
  pub words : List WordCycles

-- so many cycles more of a cause
abbrev pub with_cycles : Cause → ℕ → List ℕ → List ℕ
with_cycles cause cycles causes = slice_set causes (place_of cause) (slice_index_or causes (place_of cause) 0 + cycles)

-- of a word
abbrev pub with_more : Cause → ℕ → WordCycles → WordCycles
with_more cause cycles word =
    record word { cycles = word.cycles + cycles; causes = with_cycles cause cycles word.causes }

-- a word that has none
abbrev pub no_cycles : ℕ → WordCycles
no_cycles address = record { address = address; cycles = 0; causes = replicate 35 0 }

-- the address of a word
abbrev pub address_of : WordCycles → ℕ
address_of word = word.address

-- a change of the word at an address, which has none where it is not among the others yet
abbrev pub with_change : ℕ → (WordCycles → WordCycles) → List WordCycles → List WordCycles
with_change = kept.with_change address_of no_cycles

-- so many cycles more of a cause at an address, if there is one
abbrev pub with_word : Option ℕ → Cause → ℕ → List WordCycles → List WordCycles
with_word None cause cycles words = words
with_word (Some address) cause cycles words = with_change address (with_more cause cycles) words

-- so many cycles more, and on whose account
abbrev pub with_wait : Reason → ℕ → Accounted → Accounted
with_wait reason cycles account = record {
  cycles = account.cycles + cycles;
  causes = with_cycles reason.cause cycles account.causes;
  words = with_word reason.address reason.cause cycles account.words;
}

-- the cycles from the end of what is accounted to an event
abbrev pub with_event : Event → Accounted → Accounted
with_event event account = with_wait event.reason (event.cycle - account.cycles) account

-- those of a path, of which the newest event is the first
abbrev pub with_path : List Event → Accounted → Accounted
with_path [] account = account
with_path (event ∷ older) account = with_event event (with_path older account)

-- no cycles
abbrev pub nothing_accounted : Accounted
nothing_accounted = record { cycles = 0; causes = replicate 35 0; words = [] }

-- the account of a path from the beginning of the run
abbrev pub account_of : List Event → Accounted
account_of path = with_path path nothing_accounted

-- the cycles of all words together
abbrev pub words_cycles : List WordCycles → ℕ
words_cycles words = sum_by (λ word. word.cycles) words

-- the cycles of a word are those of its causes, and no more than so many
pub record IsWithin (cycles : ℕ) (word : WordCycles) : Type 0 where
  pub all : length word.causes ≡ 35
  pub adds_up : sum word.causes ≡ word.cycles
  pub within : word.cycles ≤ cycles

abbrev pub AreWithin : ℕ → List WordCycles → Type 0
AreWithin cycles [] = Unit {0}
AreWithin cycles (word ∷ words) = IsWithin cycles word × AreWithin cycles words

IsWithin-prop : (cycles : ℕ) (word : WordCycles) → IsProp (IsWithin cycles word)
IsWithin-prop cycles word = hlevel props

pub AreWithin-prop : (cycles : ℕ) (words : List WordCycles) → IsProp (AreWithin cycles words)
AreWithin-prop cycles [] = Unit-prop
AreWithin-prop cycles (word ∷ words) = ×_prop (IsWithin-prop cycles word) (AreWithin-prop cycles words)

-- each word can have so many cycles more
pub record CanHaveMore (more : ℕ) (words : List WordCycles) : Type 0 where
  pub most : ℕ
  pub within : AreWithin most words
  pub fits : most + more < 2 ^ 64

-- the cycles of a word, if there is one
abbrev pub cycles_if : Option WordCycles → ℕ
cycles_if None = 0
cycles_if (Some word) = word.cycles

-- those on account of the word at an address, of some words
abbrev pub cycles_at : ℕ → List WordCycles → ℕ
cycles_at address words = cycles_if (find (λ word. word.address == address) words)
