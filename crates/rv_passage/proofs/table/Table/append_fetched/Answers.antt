use Rattle.std.proofs.Common.{◌∙◌, ap, length, arith, inl, inr}
use Rattle.std.proofs.lemmas.Option.{slice_get_cases}
use Rattle.rv_passage.specs.Passage.{in_buffers}
use Rattle.rv_passage.specs.Table.{passages_of}
use Rattle.rv_passage.proofs.Moving.{drop-at, fetched-more}
use Rattle.rv_passage.proofs.table.Table.append_fetched.Goals as goal

pub loop-place-preserved : goal.loop-place-preserved
loop-place-preserved c =
    let now = in_buffers c.args.rob.now c.args.front.now in
    let place = c.loop-place.place in
    let old = passages_of c.loop-place.self in
    elim (slice_get_cases now place).1 [
      | inl found ↦
          let here = found.2 in
          let left = ap length (drop-at now place found.0 here) in
          record {
            appended = fetched-more now place found.0 old (passages_of c.append_at.new.self) here
                (c.append_at.ensures.appended found.0 here)
                ∙ c.loop-place.invariant.appended;
            room = omega (
              arith,
              left,
              c.append_at.ensures.len,
              c.append_at.ensures.capacity,
              c.loop-place.invariant.room,
            );
            capacity = omega (arith, c.append_at.ensures.capacity, c.loop-place.invariant.capacity);
            interrupts = c.append_at.ensures.interrupts ∙ c.loop-place.invariant.interrupts;
          }
      | inr past ↦ absurd (omega (arith, past.0, c.loop-place-test.true, c.count_in_flight-place-end.ensures.count))
    ]
