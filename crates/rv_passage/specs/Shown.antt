-- What rows show of what is in flight, and what of them stays through a cycle.
use Rattle.std.specs.Prelude.{◌≡◌, ℕ, true, List, [], ◌∷◌, filter, Option, Some, None, IfSome}
use Rattle.rv_hardware.specs.Onward.{Flight, Stays}
use Rattle.rv_rob.specs.Entry.{issue_of}
use Rattle.rv_rob.specs.declared.entry.Stage.TheVariants.{Waiting}
use Rattle.rv_passage.specs.Passage.{broadcast_of, is_in_flight, nothing_awaited}
use Rattle.rv_passage.specs.Table.{Passages, left_after, next_before}
use Rattle.rv_passage.specs.declared.passage.Passage.{Passage}
use Rattle.rv_passage.specs.declared.passage.Ending.TheVariants as ending

-- a row shows an instruction in flight, in all but what was predicted; until its dispatch it waits for no result
pub record Shows (f : Flight) (p : Passage) : Type 0 where
  pub ending : p.ending ≡ ending.InFlight
  pub pc : p.pc ≡ f.pc
  pub word : p.word ≡ f.word
  pub instruction : p.instruction ≡ f.instruction
  pub fetched : p.fetched ≡ f.fetched
  pub dispatched : p.dispatched ≡ f.dispatched
  pub issue : p.issue ≡ issue_of f.stage
  pub broadcast : p.broadcast ≡ broadcast_of f.stage
  pub buffered : f.dispatched ≡ None → (f.stage ≡ Waiting) × (p.producers ≡ nothing_awaited)

-- rows show what is in flight, each one instruction
pub data Show : List Flight → List Passage → Type 0 where
  nothing : Show [] []
  more : {f : Flight} {p : Passage} {fs : List Flight} {ps : List Passage} →
      Shows f p → Show fs ps → Show (f ∷ fs) (p ∷ ps)

-- the rows of the instructions in flight
abbrev pub rows_in_flight : Passages → List Passage
rows_in_flight t = filter is_in_flight t.rows

-- what is kept of a table has all of them
abbrev pub KeepsOpen : (Passages → Passages) → Type 0
KeepsOpen keep = (t : Passages) → rows_in_flight (keep t) ≡ rows_in_flight t

-- A row goes on as `n`, which stands in the buffers at the end of a cycle. What that says is what the row says, but for
-- dispatch, issue and broadcast where the row has none; once it was broadcast, its issue, too, is the same. In the fetch
-- buffer the two agree, and no result is awaited.
pub record IsStill (p n : Passage) : Type 0 where
  pub ending : n.ending ≡ p.ending
  pub pc : n.pc ≡ p.pc
  pub word : n.word ≡ p.word
  pub instruction : n.instruction ≡ p.instruction
  pub fetched : n.fetched ≡ p.fetched
  pub dispatched : Stays p.dispatched n.dispatched
  pub issue : Stays p.issue n.issue
  pub broadcast : Stays p.broadcast n.broadcast
  pub sent : IfSome p.broadcast (λ cycle. n.issue ≡ p.issue)
  pub buffered : n.dispatched ≡ None →
      (p.dispatched ≡ None) × (n.issue ≡ p.issue) × (n.broadcast ≡ p.broadcast) × (p.producers ≡ nothing_awaited)

-- it is still what comes next, if something does
abbrev pub IsStillNext : Passage → Option Passage → Type 0
IsStillNext p None = Unit {0}
IsStillNext p (Some n) = IsStill p n

-- each of some rows is still what it stands as at the end of a cycle, where `now` is in flight then
abbrev pub AreStill : ℕ → List Passage → List Passage → Type 0
AreStill cycle [] now = Unit {0}
AreStill cycle (p ∷ ps) now =
    (is_in_flight p ≡ true → IsStillNext p (next_before cycle now)) × AreStill cycle ps (left_after cycle now p)
