use Rattle.std.proofs.Common.{◌==◌, refl}
use Rattle.rv_isa.specs.Instruction.{is_serialising}
use Rattle.rv_rob.specs.declared.entry.Entry.{Entry}
use Rattle.rv_hardware.specs.Dispatch.{is_stationed}
use Rattle.rv_counts.proofs.FoundCounts.{counted_on}
use Rattle.rv_counts.proofs.in_flight.count_found_among.Goals as goal

pub loop-entry-preserved : goal.loop-entry-preserved
loop-entry-preserved c =
    let entries = c.args.entries.now in
    let index = c.loop-entry.entry-index in
    let within = c.loop-entry-test.true in
    let so_far = c.loop-entry.invariant in (
      counted_on (λ (e : Entry). e.dispatched == c.args.cycle) entries index _ _ _ c.entry-item.result _ within
          c.entry-item.is refl so_far.0 c.one_more-dispatched.ensures,
      counted_on (λ (e : Entry). is_serialising e.instruction) entries index _ _ _ c.entry-item.result _ within
          c.entry-item.is c.is_serialising-is_serial.ensures so_far.1 c.one_more-serialising.ensures,
      counted_on (is_stationed c.args.kind) entries index _ _ _ c.entry-item.result _ within c.entry-item.is
          c.is_stationed-is_waiting.ensures so_far.2 c.one_more-stationed.ensures,
    )
