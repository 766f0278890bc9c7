use Rattle.std.proofs.Common.{[], Ok, Err, refl}
use Rattle.rv_asm.proofs.Emitted.{emits_more, emits_nothing}
use Rattle.rv_asm.proofs.emit.emit_values.Goals as goal

pub loop-rest-preserved : goal.loop-rest-preserved
loop-rest-preserved c =
    λ result new others. c.loop-rest.invariant result new
    (rw (c.in-Some.is, c.first_piece.ensures.pieces)
    (emits_more _ new result c.in_default-emit_value.ensures others))

pub returns-in-Err : goal.returns-in-Err
returns-in-Err c =
    c.loop-rest.invariant (Err c.in-Err.fault) []
    (λ not_memory. rw (c.in-Some.is, c.first_piece.ensures.pieces, c.in-Err.ensures not_memory) refl)

pub returns : goal.returns
returns c = c.loop-rest.invariant (Ok tt) _ (emits_nothing _ _ (rw c.in_default.is refl))
