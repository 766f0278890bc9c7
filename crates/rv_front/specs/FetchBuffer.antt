-- The front as a list of fetched words, and what a cycle's fetch adds to it.
use Rattle.std.specs.Prelude.{◌≡◌, ℕ, zero, suc, ◌-◌, ◌*◌, ◌/◌, ◌^◌, ◌<◌, Bool, true, false, ◌==◌, List, []}
use Rattle.std.specs.Prelude.{◌∷◌, ◌++◌, length, Option, Some, None, MatchBool, MatchOption, option_and_then}
use Rattle.rv_isa.specs.Word.{pc_plus_4}
use Rattle.rv_decode.specs.Decodes.{instruction_of}
use Rattle.rv_memory.specs.Memory.{Memory, fetched_word}
use Rattle.rv_front.specs.declared.fetched.{Fetched.Fetched, FetchStop.FetchStop}
use Rattle.rv_front.specs.declared.fetched.FetchStop.TheVariants.{Width, Room, Prediction, Halted}

-- the fetched words, oldest first, how many there may be, how many a cycle fetches, and the pc to fetch next
pub record FetchBuffer : Type 0 where
  pub entries : List Fetched
  pub capacity : ℕ
  pub width : ℕ
  pub next_pc : ℕ
  pub halted : Bool

-- the pc of the oldest of some words, or the one to be fetched next where there is none
abbrev pub first_pc : List Fetched → ℕ → ℕ
first_pc [] next = next
first_pc (e ∷ es) next = e.pc

-- the pc of the oldest fetched word, or of the one to be fetched next
abbrev pub head_pc : FetchBuffer → ℕ
head_pc front = first_pc front.entries front.next_pc

-- each word is at the pc that the one before it predicts, and the next to be fetched at the last prediction
abbrev pub IsLinked : List Fetched → ℕ → Type 0
IsLinked [] next = Unit {0}
IsLinked (e ∷ es) next = (first_pc es next ≡ e.predicted) × IsLinked es next

-- the fetched words follow their predictions up to the pc to be fetched next
abbrev pub IsChain : FetchBuffer → Type 0
IsChain front = IsLinked front.entries front.next_pc

-- what a predictor may answer: its answers by a pc and the word there
abbrev pub Answers : Type 1
Answers = ℕ → ℕ → ℕ → Type 0

-- a guess of what comes after the word at a pc: the predictor's answer, or the next address where there is no word to ask it of
abbrev pub IsGuess : Answers → ℕ → Option ℕ → ℕ → Type 0
IsGuess answers pc None next = next ≡ pc_plus_4 pc
IsGuess answers pc (Some word) next = answers pc word next

-- the prediction after a word: a guess, which is an address, rounded down to a multiple of 4
pub record IsPrediction (answers : Answers) (pc : ℕ) (word : Option ℕ) (predicted : ℕ) : Type 0 where
  pub guess : ℕ
  pub guessed : IsGuess answers pc word guess
  pub fits : guess < 2 ^ 32
  pub rounded : predicted ≡ guess / 4 * 4

-- the entry that the fetch of the word at a pc makes
pub record IsFetchedAt (answers : Answers) (ram : Memory) (cycle pc : ℕ) (entry : Fetched) : Type 0 where
  pub pc_is : entry.pc ≡ pc
  pub word_is : entry.word ≡ fetched_word ram.layout ram.bytes pc
  pub instruction_is : entry.instruction ≡ option_and_then instruction_of entry.word
  pub predicted_is : IsPrediction answers pc entry.word entry.predicted
  pub cycle_is : entry.cycle ≡ cycle

-- why a fetch ends with a word: RAM gives none, or the prediction is not the address after it
abbrev pub stop_for : Option ℕ → Bool → Option FetchStop
stop_for None straight = Some Halted
stop_for (Some word) true = None
stop_for (Some word) false = Some Prediction

-- why a fetch ends after a word, if it does
abbrev pub stop_after : Fetched → Option FetchStop
stop_after e = stop_for e.word (e.predicted == pc_plus_4 e.pc)

-- why a fetch ends that takes no more words, where it may take `width` and has room for `room`
abbrev pub EndsFor : ℕ → ℕ → FetchStop → Type 0
EndsFor zero room stop = stop ≡ Width
EndsFor (suc width) zero stop = stop ≡ Room
EndsFor (suc width) (suc room) stop = ⊥

-- the words that a fetch adds, from a pc on, where it may take `width` and has room for `room`
abbrev pub Fetches : Answers → Memory → ℕ → ℕ → ℕ → ℕ → List Fetched → ℕ → FetchStop → Type 0
Fetches answers ram cycle width room pc [] next stop = EndsFor width room stop × (next ≡ pc)
Fetches answers ram cycle zero room pc (e ∷ es) next stop = ⊥
Fetches answers ram cycle (suc width) zero pc (e ∷ es) next stop = ⊥
Fetches answers ram cycle (suc width) (suc room) pc (e ∷ es) next stop =
    IsFetchedAt answers ram cycle pc e ×
    MatchOption (stop_after e)
    (Fetches answers ram cycle width room e.predicted es next stop)
    (λ reason. (es ≡ []) × (next ≡ e.predicted) × (stop ≡ reason))

-- whether a fetch that ended so halts the front
abbrev pub is_halted : FetchStop → Bool
is_halted Width = false
is_halted Room = false
is_halted Prediction = false
is_halted Halted = true

-- a cycle's fetch: a halted front stays as it is; any other keeps its words, and the new ones come after them
abbrev pub FetchesInto : Answers → Memory → ℕ → FetchBuffer → FetchBuffer → FetchStop → Type 0
FetchesInto answers ram cycle old new stop =
    MatchBool old.halted
    ((new ≡ old) × (stop ≡ Halted))
    ((added : List Fetched) ×
    Fetches answers ram cycle old.width (old.capacity - length old.entries) old.next_pc added new.next_pc stop ×
    (new ≡ record old { entries = old.entries ++ added; next_pc = new.next_pc; halted = is_halted stop }))
