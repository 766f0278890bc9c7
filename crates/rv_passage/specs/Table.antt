-- The passages in order of fetch, and what a cycle makes of them.
use Rattle.std.specs.Prelude.{◌≡◌, ℕ, ◌+◌, ◌-◌, ◌≤◌, ◌<◌, ◌^◌, ◌&&◌, nat_lt, if◌then◌else◌}
use Rattle.std.specs.Prelude.{List, [], ◌∷◌, ◌++◌, length, filter, drop, Option, None, Some, is_some, vec_capacity}
use Rattle.std.specs.List.{position_or_len}
use Rattle.std.specs.Option.{option_map, option_to_list}
use Rattle.rv_front.specs.FetchBuffer.{FetchBuffer}
use Rattle.rv_front.specs.declared.fetched.Fetched.{Fetched}
use Rattle.rv_rob.specs.ReorderBuffer.{ReorderBuffer}
use Rattle.rv_rob.specs.declared.entry.Entry.{Entry}
use Rattle.rv_hardware.specs.Hardware.{Hardware}
use Rattle.rv_hardware.specs.Lessons.{first_pc}
use Rattle.rv_hardware.specs.declared.step.Step.{Step}
use Rattle.rv_hardware.specs.declared.step.Step.TheVariants as step
use Rattle.rv_passage.specs.Passage.{in_buffers, is_in_flight, is_unsquashed, numbered, of_entry, of_fetched}
use Rattle.rv_passage.specs.Passage.{retired_by, squashed_in, trapped_by}
use Rattle.rv_passage.specs.Producers.{standing_at}
use Rattle.rv_passage.specs.declared.{passage.Passage.Passage, table.Table.Table}

-- the passages, the cycles of the interrupts, and how many instructions were fetched and how many retired
pub record Passages : Type 0 where
  pub rows : List Passage
  pub interrupts : List ℕ
  pub fetched : ℕ
  pub retired : ℕ

-- what a table holds: its rows without those that are dropped
abbrev pub passages_of : Table → Passages
passages_of t =
    record {
      rows = drop t.dropped t.rows.items;
      interrupts = t.interrupts.items;
      fetched = t.fetched;
      retired = t.retired;
    }

-- instructions numbered in their order
abbrev pub numbered_from : ℕ → List Passage → List Passage
numbered_from number [] = []
numbered_from number (p ∷ ps) = numbered number p ∷ numbered_from (number + 1) ps

-- with other rows
abbrev pub with_rows : List Passage → Passages → Passages
with_rows rows t = record t { rows = rows }

-- further instructions are fetched, and numbered on
abbrev pub with_fetched : List Passage → Passages → Passages
with_fetched now t = record t { rows = t.rows ++ numbered_from t.fetched now; fetched = t.fetched + length now }

-- a table that begins with what is in flight
abbrev pub table_from : List Passage → Passages
table_from now = record { rows = numbered_from 0 now; interrupts = []; fetched = length now; retired = 0 }

-- that of the hardware
abbrev pub table_at : Hardware → Passages
table_at h = table_from (in_buffers h.rob h.front)

-- the oldest in flight changes
abbrev pub with_oldest : (Passage → Passage) → List Passage → List Passage
with_oldest change [] = []
with_oldest change (p ∷ ps) = if is_in_flight p then change p ∷ ps else p ∷ with_oldest change ps

-- a step ends the oldest in flight, after which the program goes on at `next`; an interrupt ends none
abbrev pub with_step : Step → ℕ → Passages → Passages
with_step (step.Retired row) next t =
    record t { rows = with_oldest (retired_by row t.retired next) t.rows; retired = t.retired + 1 }
with_step (step.Trap pc cause value cycle) next t = record t { rows = with_oldest (trapped_by cause cycle) t.rows }
with_step (step.Interrupt pc cause cycle) next t = record t { interrupts = t.interrupts ++ cycle ∷ [] }

-- steps one after another, after the last of which the program goes on at `next`
abbrev pub with_steps : List Step → ℕ → Passages → Passages
with_steps [] next t = t
with_steps (s ∷ ss) next t = with_steps ss next (with_step s (first_pc ss next) t)

-- what comes next of what is in flight, where it was fetched before a cycle
abbrev pub next_before : ℕ → List Passage → Option Passage
next_before cycle [] = None
next_before cycle (n ∷ now) = if nat_lt n.fetched cycle then Some n else None

-- what is in flight from a place on
abbrev pub buffers_from : ℕ → ReorderBuffer → FetchBuffer → List Passage
buffers_from place rob front = drop place (in_buffers rob front)

-- an entry, if there is one that was fetched before a cycle
abbrev pub entry_before : ℕ → Option Entry → Option Passage
entry_before cycle entry = next_before cycle (option_to_list (option_map of_entry entry))

-- the same of a word in the fetch buffer
abbrev pub word_before : ℕ → Option Fetched → Option Passage
word_before cycle word = next_before cycle (option_to_list (option_map of_fetched word))

-- an instruction goes on as it stands now, after the older ones, or was squashed in the cycle
abbrev pub gone_on : ℕ → List Passage → Option Passage → Passage → Passage
gone_on cycle older None p = squashed_in cycle p
gone_on cycle older (Some n) p = standing_at older n p

-- one that did not leave the hardware before
abbrev pub moved : ℕ → List Passage → List Passage → Passage → Passage
moved cycle older now p = if is_in_flight p then gone_on cycle older (next_before cycle now) p else p

-- what is left of what is in flight after it
abbrev pub left_after : ℕ → List Passage → Passage → List Passage
left_after cycle now p = if is_in_flight p && is_some (next_before cycle now) then drop 1 now else now

-- Passages at the end of a cycle in which no further one ends by a step, where `now` is in flight then, and where the older ones
-- stand as they do at its end. What was in flight goes on as it stands now, or was squashed, where what comes next was fetched
-- in the cycle. That stands after, numbered on.
abbrev pub moved_on : ℕ → ℕ → List Passage → List Passage → List Passage → List Passage
moved_on cycle number older [] now = numbered_from number now
moved_on cycle number older (p ∷ ps) now =
    moved cycle older now p ∷ moved_on cycle number (older ++ moved cycle older now p ∷ []) ps (left_after cycle now p)

-- rows have moved on to a cycle's end; of what is in flight then, all from a place on is still to be added, numbered
-- from any number
abbrev pub AreMovedOn : ℕ → List Passage → List Passage → List Passage → ℕ → Type 0
AreMovedOn cycle now old new place =
    (number : ℕ) → moved_on cycle number [] old now ≡ new ++ numbered_from number (drop place now)

-- the end of a cycle: as many more were fetched as there are rows more
abbrev pub at_the_end : ℕ → List Passage → Passages → Passages
at_the_end cycle now t =
    let rows = moved_on cycle t.fetched [] t.rows now in
    record t { rows = rows; fetched = t.fetched + (length rows - length t.rows) }

-- the passages after a cycle with these steps, which led to these buffers and to a pc
abbrev pub after_steps : ℕ → List Step → ReorderBuffer → FetchBuffer → ℕ → Passages → Passages
after_steps cycle steps rob front pc t = at_the_end cycle (in_buffers rob front) (with_steps steps pc t)

-- the passages after a cycle with these steps, which led to the hardware
abbrev pub after_cycle : ℕ → List Step → Hardware → Passages → Passages
after_cycle cycle steps h t = after_steps cycle steps h.rob h.front h.pc t

-- without those that ended
abbrev pub still_open : Passages → Passages
still_open t = record t { rows = filter is_in_flight t.rows; interrupts = [] }

-- rows from the oldest in flight on
abbrev pub without_first_ended : List Passage → List Passage
without_first_ended rows = drop (position_or_len is_in_flight rows) rows

-- without what was squashed
abbrev pub without_squashed : Passages → Passages
without_squashed t = record t { rows = filter is_unsquashed t.rows }

-- the interrupts, and how many were fetched and retired, stay
abbrev pub CountsStay : Table → Table → Type 0
CountsStay old new = (new.interrupts ≡ old.interrupts) × (new.fetched ≡ old.fetched) × (new.retired ≡ old.retired)

-- room for what a cycle may add: as many rows as can be in flight, and an interrupt for each step
pub record HasRoom (t : Table) : Type 0 where
  pub rows : length (passages_of t).rows + 288 ≤ vec_capacity t.rows
  pub interrupts : length t.interrupts.items + 8 ≤ vec_capacity t.interrupts

-- the counts can go on
pub record CanCount (t : Passages) : Type 0 where
  pub fetched : t.fetched + 288 < 2 ^ 64
  pub retired : t.retired + 8 < 2 ^ 64

-- buffers that are no longer than a description can say
pub record AreShort (rob : ReorderBuffer) (front : FetchBuffer) : Type 0 where
  pub entries : rob.capacity ≤ 256
  pub words : front.capacity ≤ 32
