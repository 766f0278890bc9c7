use Rattle.std.proofs.Common.{◌==◌, ap, arith, length, length-append}
use Rattle.rv_isa.specs.Instruction.{is_serialising}
use Rattle.rv_rob.specs.declared.entry.Entry.{Entry}
use Rattle.rv_hardware.specs.Dispatch.{is_stationed}
use Rattle.rv_counts.proofs.FoundCounts.{counted_runs}
use Rattle.rv_counts.proofs.in_flight.count_found.Goals as goal

pub returns : goal.returns
returns c =
    let (old, young) = c.entries.result in
    let first = c.count_found_among-old.ensures in
    let second = c.count_found_among-young.ensures in
    let all = c.args.buffer.now.entries in
    record {
      dispatched =
          counted_runs (λ (e : Entry). e.dispatched == c.args.cycle) old.now young.now all _ _ c.entries.ensures
          first.dispatched second.dispatched;
      serialising =
          counted_runs (λ (e : Entry). is_serialising e.instruction) old.now young.now all _ _ c.entries.ensures
          first.serialising second.serialising;
      stationed = counted_runs (is_stationed c.args.kind) old.now young.now all _ _ c.entries.ensures
          first.stationed second.stationed;
      few = omega (
        arith,
        ap length c.entries.ensures,
        length-append old.now young.now,
        first.dispatched_few,
        second.dispatched_few,
      );
    }
