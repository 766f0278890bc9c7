use Rattle.std.proofs.Common.{◌∙◌, ◌+◌, ap, arith, drop, length, sym}
use Rattle.rv_hardware.specs.Lessons.{first_pc}
use Rattle.rv_passage.specs.Table.{Passages, passages_of, with_step, with_steps}
use Rattle.rv_passage.proofs.Moving.{step-within, with_steps-next}
use Rattle.rv_passage.proofs.table.Table.take_steps.Goals as goal

pub loop-place-preserved : goal.loop-place-preserved
loop-place-preserved c =
    let steps = c.args.steps.now in
    let next = first_pc (drop (c.loop-place.place + 1) steps) c.args.next in
    let taken = c.take_step.ensures.taken
    ∙ ap (λ n. with_step c.index-steps-place.result n (passages_of c.loop-place.self)) c.first_pc.ensures in
    let within = step-within c.index-steps-place.result next (passages_of c.loop-place.self) in
    let retired = ap (λ (t : Passages). t.retired) taken in
    let noted = ap (λ (t : Passages). length t.interrupts) taken in
    record {
      left = ap (with_steps (drop (c.loop-place.place + 1) steps) c.args.next) taken
          ∙ sym (with_steps-next steps c.loop-place.place c.args.next c.index-steps-place.result
          (passages_of c.loop-place.self) (omega arith) c.index-steps-place.is)
          ∙ c.loop-place.invariant.left;
      retired = omega (arith, within.retired, retired, c.loop-place.invariant.retired);
      noted = omega (arith, within.interrupts, noted, c.loop-place.invariant.noted);
      len = omega arith;
      rows = omega arith;
      interrupts = omega arith;
    }
