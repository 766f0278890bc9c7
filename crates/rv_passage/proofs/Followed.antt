-- A table that follows a run: no cycle yet, and one cycle more.
use Rattle.std.proofs.Common.{◌≡◌, ◌∙◌, ℕ, ◌+◌, ◌^◌, ◌<◌, ◌≤◌, List, [], ◌∷◌, ◌++◌, length, vec_capacity, ap, arith}
use Rattle.std.specs.Prelude.{IfOk, Result, Ok, Err}
use Rattle.rv_isa.specs.declared.lines.Arrival.{Arrival}
use Rattle.rv_hardware.specs.Guided.{GuidedHardware}
use Rattle.rv_hardware.specs.Hardware.{Hardware}
use Rattle.rv_hardware.specs.History.{History, Moment}
use Rattle.rv_hardware.specs.declared.step.Step.{Step}
use Rattle.rv_passage.specs.Followed.{HasFollowed, HasOpen, IsRoomy}
use Rattle.rv_passage.specs.Passage.{in_flight}
use Rattle.rv_passage.specs.Table.{CanCount, Passages, after_cycle, passages_of, still_open, table_at}
use Rattle.rv_passage.specs.declared.table.Table.{Table}
use Rattle.rv_passage.proofs.Moving.{length-numbered_from, steps-within}
use Rattle.rv_passage.proofs.Walk.{last_cycle, passages_after-push}

-- what comes of an Ok
pub if_ok_by : {T E : Type 0} {P Q : T → Type 0} (r : Result T E) → ((x : T) → P x → Q x) → IfOk r P → IfOk r Q
if_ok_by (Ok value) then fact = then value fact
if_ok_by (Err error) then fact = tt

-- no cycle yet
pub followed_nothing : (keep : Passages → Passages) (h : Hardware) (table : Passages) → table ≡ table_at h →
    length table.rows ≤ 288 →
    HasFollowed keep h [] h table
followed_nothing keep h table is few = grind (arith, in_flight, length-numbered_from)

-- the counts of the table can go on
pub can_count : {keep : Passages → Passages} {first now : Hardware} {moments : List Moment} {table : Passages} →
    HasFollowed keep first moments now table →
    now.cycle < 2 ^ 40 → CanCount table
can_count followed counted = grind arith

-- one more cycle, of which the table takes the steps
module _ {keep : Passages → Passages} {arrivals : List Arrival} {first now : GuidedHardware}
    {moments : List Moment} {table : Passages}
    (passes : History arrivals first moments now) (followed : HasFollowed keep first.hardware moments now.hardware
    table) (last : Moment)
    {cycle : ℕ} {steps : List Step} (number : cycle ≡ now.hardware.cycle) (steps_are : steps ≡ last.report.steps)
    {full : Passages} (takes : full ≡ after_cycle cycle steps last.after table) where
  -- the table then has the passages of that cycle
  pub full_is : full ≡ (last_cycle keep passes last).passages
  full_is = takes ∙ (λ i. after_cycle (number i) (steps_are i) last.after (followed.passages i))

  -- and what is kept of it
  pub followed_on : last.after.cycle ≡ now.hardware.cycle + 1 → (kept : Passages) → kept ≡ keep full →
      kept.fetched ≤ table.fetched + 288 → kept.retired ≤ table.retired + 8
      → HasFollowed keep first.hardware (moments ++ last ∷ []) last.after kept
  followed_on one_more kept kept_is fetched retired = grind (arith, full_is, passages_after-push)

-- ---- a table that forgets what left the hardware

pub roomy_again : (table : Table) (full : Passages) → passages_of table ≡ still_open full →
    length (still_open full).rows ≤ 288 → 576 ≤ vec_capacity table.rows
    → 8 ≤ vec_capacity table.interrupts → IsRoomy table
roomy_again table full opened few rows interrupts = grind arith

-- before the first cycle a table of the hardware, roomy and with few rows, has what is in flight
pub open_nothing : (h : Hardware) (table : Table) → passages_of table ≡ table_at h → IsRoomy table →
    length (passages_of table).rows ≤ 288 → HasOpen h [] h table
open_nothing h table is roomy few = record {
  followed = followed_nothing still_open h (passages_of table) is few;
  few = few;
  room = roomy;
}

module _ {first now : Hardware} {moments : List Moment} {table : Table} (so_far : HasOpen first moments now table) where
  -- at the end of a cycle there is no more than was in flight before it and fetched in it
  pub few_rows : (cycle : ℕ) (steps : List Step) (after : Hardware) (full : Table) →
      passages_of full ≡ after_cycle cycle steps after (passages_of table)
      → full.fetched ≤ table.fetched + 288 → length (passages_of full).rows ≤ 576
  few_rows cycle steps after full takes more = grind (arith, steps-within)

-- one more cycle
module _ {arrivals : List Arrival} {first now : GuidedHardware} {moments : List Moment} {table : Table}
    (passes : History arrivals first moments now)
    (so_far : HasOpen first.hardware moments now.hardware table) (last : Moment)
    {cycle : ℕ} {steps : List Step} (number : cycle ≡ now.hardware.cycle) (steps_are : steps ≡ last.report.steps)
    (full : Table) (takes : passages_of full ≡ after_cycle cycle steps last.after (passages_of table)) where
  -- what is kept of the table has what is in flight after that cycle, and room for a further one
  pub open_on : last.after.cycle ≡ now.hardware.cycle + 1 → (kept : Table) →
      passages_of kept ≡ still_open (passages_of full) → full.fetched ≤ table.fetched + 288 →
      full.retired ≤ table.retired + 8
      → length (still_open (passages_of full)).rows ≤ 288 → 576 ≤ vec_capacity kept.rows →
      8 ≤ vec_capacity kept.interrupts
      → HasOpen first.hardware (moments ++ last ∷ []) last.after kept
  open_on one_more kept opened fetched retired few rows interrupts = record {
    followed = followed_on passes so_far.followed last number steps_are takes one_more (passages_of kept) opened
        (omega (arith, fetched, ap (λ (t : Passages). t.fetched) opened))
        (omega (arith, retired, ap (λ (t : Passages). t.retired) opened));
    few = omega (arith, few, ap (λ (t : Passages). length t.rows) opened);
    room = roomy_again kept (passages_of full) opened few rows interrupts;
  }
