use Rattle.std.proofs.Common.{arith, sym, ap, take}
use Rattle.std.proofs.Math.Seq.{take-add}
use Rattle.rv_text.proofs.Writing.{Appends-both, Appends-same}
use Rattle.rv_text.proofs.output.put.Goals as goal

pub loop-written-preserved : goal.loop-written-preserved
loop-written-preserved g c =
    let text = c.args.text.now in
    let place = c.loop-written.written in
    let count = c.in-Ok.count in
    let taken = ap (take count) c.split_at.ensures.back in
    record {
      in_range = omega (arith, c.in-Ok.ensures.bound, c.split_at.ensures.back_len);
      appended =
          Appends-same _ _ _ _ (sym (take-add place count text))
          (Appends-both _ _ _ _ _ c.loop-written.invariant.appended
          (Appends-same _ _ _ _ taken c.in-Ok.ensures.bytes));
    }
