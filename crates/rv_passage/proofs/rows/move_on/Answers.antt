use Rattle.std.proofs.Common.{◌<◌, ◌+◌, ◌∙◌, ap, subst, drop, take, length, sym, arith, inl, inr}
use Rattle.std.proofs.lemmas.List.{drop-set-lt}
use Rattle.std.proofs.lemmas.Option.{slice_get_cases}
use Rattle.rv_passage.specs.Passage.{in_buffers}
use Rattle.rv_passage.specs.Shown.{AreStill}
use Rattle.rv_passage.specs.Table.{left_after, moved}
use Rattle.rv_passage.proofs.Moving.{moved-here}
use Rattle.rv_passage.proofs.Shown.{still-here}
use Rattle.rv_passage.proofs.rows.move_on.Goals as goal

pub loop-place-preserved : goal.loop-place-preserved
loop-place-preserved c =
    let now = in_buffers c.args.rob.now c.args.front.now in
    let within : c.loop-place.place < length c.loop-place.rows = omega (arith, c.loop-place.auto.rows) in
    elim (slice_get_cases c.loop-place.rows c.loop-place.place).1 [
      | inl (p, _, there, read) ↦ record {
        moved =
            moved-here c.args.cycle c.args.rows.now now c.loop-place.rows c.move_at-next.new.rows c.loop-place.place
            c.loop-place.next c.move_at-next.result p within (sym read) c.loop-place.invariant.moved
            (c.move_at-next.ensures.moved p there) (c.move_at-next.ensures.left p there);
        no_further = omega (arith, c.move_at-next.ensures.few, c.loop-place.invariant.no_further);
        still = λ told.
            let place = c.loop-place.place in
            let left = drop c.loop-place.next now in
            let was = (still-here c.args.cycle c.loop-place.rows left place p there
            (c.loop-place.invariant.still told)).1 in
            let rows = ap (drop (place + 1)) (c.move_at-next.ensures.moved p there)
            ∙ drop-set-lt (place + 1) c.loop-place.rows place
            (moved c.args.cycle (take place c.loop-place.rows) left p) (omega arith) in
            subst (AreStill c.args.cycle (drop (place + 1) c.move_at-next.new.rows))
            (sym (c.move_at-next.ensures.left p there))
            (subst (λ ps. AreStill c.args.cycle ps (left_after c.args.cycle left p)) (sym rows) was);
      }
      | inr (past, none) ↦ absurd (omega (arith, within, past))
    ]

pub move_at-next-requires-clause-still : goal.move_at-next-requires-clause-still
move_at-next-requires-clause-still c = λ told p there.
    let left = drop c.loop-place.next (in_buffers c.args.rob.now c.args.front.now) in
    (still-here c.args.cycle c.loop-place.rows left c.loop-place.place p there (c.loop-place.invariant.still told)).0
