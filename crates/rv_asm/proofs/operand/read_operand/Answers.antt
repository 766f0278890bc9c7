use Rattle.std.proofs.Common.{◌∙◌, ap, drop, refl}
use Rattle.rv_asm.proofs.Operands.{operand-indirect, operand-direct}
use Rattle.rv_asm.proofs.operand.read_operand.Goals as goal

pub returns-in-Some : goal.returns-in-Some
returns-in-Some c =
    operand-indirect c.in-Some.name.now _ c.args.tokens.now c.split_at.result.0.now c.split_at.result.1.now
    c.split_at.ensures.by_index.0 c.in-Some.ensures.found c.indirect.ensures.alone c.indirect.ensures.after

pub returns-in-None : goal.returns-in-None
returns-in-None c =
    operand-direct _ c.args.tokens.now c.split_at.result.1.now
    (c.split_at.ensures.back ∙ ap (λ n. drop n c.args.tokens.now) c.saturating_sub.ensures)
    (c.in-None.ensures.other refl) c.direct.ensures.short c.direct.ensures.long
