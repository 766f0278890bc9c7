-- What a table begins with, and a cycle of it, in terms of the hardware that has the buffers.
use Rattle.std.proofs.Common.{◌≡◌, ◌≤◌, List, length, vec_capacity, refl}
use Rattle.std.specs.Prelude.{IfOk, Result, Ok, Err}
use Rattle.rv_hardware.specs.Hardware.{Hardware}
use Rattle.rv_hardware.specs.Run.{Reachable}
use Rattle.rv_hardware.specs.declared.step.Step.{Step}
use Rattle.rv_passage.specs.Followed.{CanFollow}
use Rattle.rv_passage.specs.Table.{HasRoom, passages_of, table_at}
use Rattle.rv_passage.specs.declared.table.Table.{Table}
use Rattle.rv_passage.proofs.InFlight.{short_buffers}
use Rattle.rv_view.specs.Following.{BeginsAt, CanFollowCycle}

module _ (h : Hardware) where
  -- where a table began with what is in the buffers, it begins with what is in flight in the hardware
  pub begins_at : {E : Type 0} (r : Result Table E) → IfOk r (λ table. passages_of table ≡ table_at h) →
      IfOk r (λ table. length (passages_of table).rows ≤ 288) → IfOk r HasRoom →
      IfOk r (λ table. 576 ≤ vec_capacity table.rows) → IfOk r (λ table. 8 ≤ vec_capacity table.interrupts) →
      IfOk r (BeginsAt h)
  begins_at (Err error) is few room rows interrupts = tt
  begins_at (Ok table) is few room rows interrupts =
      record { passages = is; few = few; room = record { room = room; rows = rows; interrupts = interrupts } }

  -- where a table can follow a cycle, it can follow one that led to the buffers
  pub can_follow_to : {steps : List Step} {table : Table} → Reachable h → CanFollowCycle steps table →
      CanFollow steps h.rob h.front table
  can_follow_to reached can =
      record { short = short_buffers reached refl refl; room = can.room; countable = can.countable; few = can.few }
