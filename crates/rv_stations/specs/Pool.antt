-- The reservation stations of one kind.
use Rattle.std.specs.Prelude.{ℕ, Bool, List, [], ◌∷◌, ◌++◌, map, remove, Option, Some, None}
use Rattle.std.specs.Fn.{FnReturnsAt, Shared}
use denote.Ref.{Bor}
use Rattle.rv_isa.specs.Numbered.{below}
use Rattle.rv_isa.specs.declared.values.KindValues.{KindValues}
use Rattle.rv_stations.specs.declared.waiting.{Verdict.Verdict, Waiting.Waiting}
use Rattle.rv_stations.specs.Waiting.{ArePassedBy, IsVerdict, seq_of, woken, without_oldest_ready}

-- the waiting instructions in order of their numbers, and how many there may be
pub record Pool : Type 0 where
  pub waiting : List Waiting
  pub capacity : ℕ

-- the stations that a description gives a kind, with nothing in them
abbrev pub empty_pool : KindValues → Pool
empty_pool kind = record { waiting = []; capacity = kind.stations }

-- one more instruction
abbrev pub with_waiting : Waiting → Pool → Pool
with_waiting w pool = record pool { waiting = pool.waiting ++ w ∷ [] }

-- the stations once the value of a producer is broadcast
abbrev pub woken_pool : ℕ → ℕ → Pool → Pool
woken_pool seq value pool = record pool { waiting = map (woken seq value) pool.waiting }

-- the stations without the oldest instruction that is ready and passes a test
abbrev pub issued : (Waiting → Bool) → Pool → Pool
issued test pool = record pool { waiting = without_oldest_ready test pool.waiting }

-- the stations without the instruction in a place, if any
abbrev pub without_place : Option ℕ → Pool → Pool
without_place None pool = pool
without_place (Some at) pool = record pool { waiting = remove pool.waiting at }

-- the stations without the numbers from one on
abbrev pub squashed : ℕ → Pool → Pool
squashed from pool = record pool { waiting = below seq_of from pool.waiting }

-- a closure answers what a test says
abbrev pub Answers : {F : Type 0} → Shared F (Bor Waiting × Unit {0}) Verdict → F → (Waiting → Bool) → Type 0
Answers g filter test = (w : Waiting) (verdict : Verdict) → FnReturnsAt g filter w verdict → IsVerdict test w verdict

-- a search by a closure that answers what a test says, and that passes by the oldest so many, none of which is ready and passes
abbrev pub Searches : {F : Type 0} → Shared F (Bor Waiting × Unit {0}) Verdict → F →
    (Waiting → Bool) → ℕ → Pool → Type 0
Searches g filter test passed pool = Answers g filter test × ArePassedBy test passed pool.waiting
