use Rattle.std.proofs.Common.{◌+◌, ◌++◌, ◌∙◌, take, ap, append-nil, length-take, arith}
use Rattle.rv_job.specs.Input.{most_bytes}
use Rattle.rv_job.proofs.Reading.{Consumes-both, Consumes-same, taken_to_end, taken_most}
use Rattle.rv_job.proofs.input.read_input.Goals as goal

pub returns-then-count-eq0 : goal.returns-then-count-eq0
returns-then-count-eq0 g c =
    let items = c.loop-chunk.input.items in
    let nothing = ap (λ n. items ++ take n c.read.new.buf) c.if-count-eq0.true ∙ append-nil items in
    let consumed = Consumes-same _ _ _ _ nothing
    (Consumes-both _ _ _ _ _ c.loop-chunk.invariant.consumed c.in-Ok.ensures.bytes.0) in
    let at_end = c.in-Ok.ensures.bytes.1 c.if-count-eq0.true
    (omega (
      arith,
      c.min-room.ensures,
      c.read.auto,
      c.min-room.array_long,
      length-take c.min-room.result c.loop-chunk.chunk,
    )) in
    record {
      bytes = taken_to_end (most_bytes + 1) _ _ items consumed at_end (omega (arith, c.loop-chunk.input.ok.0));
      taken = consumed;
      lost = tt;
    }

pub returns-in_default-extend_from_slice-clause-lost : goal.returns-in_default-extend_from_slice-clause-lost
returns-in_default-extend_from_slice-clause-lost g c =
    (_, Consumes-both _ _ _ _ _ c.loop-chunk.invariant.consumed c.in-Ok.ensures.bytes.0)

pub returns : goal.returns
returns g c =
    let consumed = c.loop-chunk.invariant.consumed in
    record {
      bytes = taken_most (most_bytes + 1) _ _ _ consumed (omega (arith, c.loop-chunk.input.ok.0));
      taken = consumed;
      lost = tt;
    }
