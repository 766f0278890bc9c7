-- What is in flight goes on through a cycle: which instructions stay, in order, and what of each is as it was.
use Rattle.std.specs.Prelude.{◌≡◌, ℕ, ◌<◌, ◌⊎◌, List, [], ◌∷◌, ◌++◌, map, drop, Option, Some, None}
use Rattle.rv_isa.specs.declared.instructions.Instr.{Instr}
use Rattle.rv_cache.specs.WriteBack.{Each}
use Rattle.rv_front.specs.declared.fetched.Fetched.{Fetched}
use Rattle.rv_rob.specs.declared.entry.{Entry.Entry, Stage.Stage}
use Rattle.rv_rob.specs.declared.entry.Stage.TheVariants.{Waiting, Running, Finished}
use Rattle.rv_hardware.specs.Hardware.{Hardware}
use Rattle.rv_hardware.specs.declared.step.Step.{Step}
use Rattle.rv_hardware.specs.declared.step.Step.TheVariants as step

-- an instruction in flight: what was fetched, and how far it has come
pub record Flight : Type 0 where
  pub pc : ℕ
  pub word : Option ℕ
  pub instruction : Option Instr
  pub fetched : ℕ
  pub dispatched : Option ℕ
  pub stage : Stage

-- one in the reorder buffer
abbrev pub of_entry : Entry → Flight
of_entry e = record {
  pc = e.pc;
  word = e.word;
  instruction = e.instruction;
  fetched = e.fetched;
  dispatched = Some e.dispatched;
  stage = e.stage;
}

-- one in the fetch buffer
abbrev pub of_fetched : Fetched → Flight
of_fetched f = record {
  pc = f.pc;
  word = f.word;
  instruction = f.instruction;
  fetched = f.cycle;
  dispatched = None;
  stage = Waiting;
}

-- all that is in flight, oldest first
abbrev pub flights : Hardware → List Flight
flights h = map of_entry h.rob.entries ++ map of_fetched h.front.entries

-- it was fetched in a cycle
abbrev pub IsFetchedIn : ℕ → Flight → Type 0
IsFetchedIn cycle f = f.fetched ≡ cycle

-- and before one
abbrev pub IsFetchedBefore : ℕ → Flight → Type 0
IsFetchedBefore cycle f = f.fetched < cycle

-- what the steps of a cycle leave of what was in flight: a retirement or a trap takes the oldest
abbrev pub left_by : {X : Type 0} → List Step → List X → List X
left_by [] xs = xs
left_by (step.Retired row ∷ steps) xs = left_by steps (drop 1 xs)
left_by (step.Trap pc cause value cycle ∷ steps) xs = left_by steps (drop 1 xs)
left_by (step.Interrupt pc cause cycle ∷ steps) xs = left_by steps xs

-- what is there stays
abbrev pub Stays : {X : Type 0} → Option X → Option X → Type 0
Stays None new = Unit {0}
Stays (Some x) new = new ≡ Some x

-- an execution goes on with its issue and its message until they are broadcast, and what is finished stays as it is
abbrev pub StaysAtStage : Stage → Stage → Type 0
StaysAtStage Waiting new = Unit {0}
StaysAtStage (Running issue message) new =
    (new ≡ Running issue message) ⊎ ((cycle : ℕ) × (new ≡ Finished (Some issue) cycle message))
StaysAtStage (Finished issue cycle message) new = new ≡ Finished issue cycle message

-- an instruction in flight later on
pub record IsLater (old new : Flight) : Type 0 where
  pub pc : new.pc ≡ old.pc
  pub word : new.word ≡ old.word
  pub instruction : new.instruction ≡ old.instruction
  pub fetched : new.fetched ≡ old.fetched
  pub dispatched : Stays old.dispatched new.dispatched
  pub stage : StaysAtStage old.stage new.stage

-- The first ones go on, in order; those after them are squashed, and what comes then was fetched in the cycle.
pub data GoOn (cycle : ℕ) : List Flight → List Flight → Type 0 where
  fetched_now : {old new : List Flight} → Each (IsFetchedIn cycle) new → GoOn cycle old new
  goes_on : {o n : Flight} {old new : List Flight} → IsLater o n → GoOn cycle old new → GoOn cycle (o ∷ old) (n ∷ new)
