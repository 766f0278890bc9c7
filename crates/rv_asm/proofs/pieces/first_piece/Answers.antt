use Rattle.std.proofs.Common.{arith, sym}
use Rattle.rv_asm.proofs.Commas.{before_comma, before_none, cut_at_comma, cut_nowhere}
use Rattle.rv_asm.proofs.pieces.first_piece.Goals as goal

pub returns-then-size-tokens-clause-first : goal.returns-then-size-tokens-clause-first
returns-then-size-tokens-clause-first c =
    sym (before_none c.args.tokens.now _ c.length_before_comma-size.ensures.length (omega arith))

pub returns-then-size-tokens-clause-pieces : goal.returns-then-size-tokens-clause-pieces
returns-then-size-tokens-clause-pieces c =
    cut_nowhere c.args.tokens.now _ c.length_before_comma-size.ensures.length (omega arith)

pub returns-clause-first : goal.returns-clause-first
returns-clause-first c = sym (before_comma c.args.tokens.now _ c.length_before_comma-size.ensures.length)

pub returns-clause-pieces : goal.returns-clause-pieces
returns-clause-pieces c = grind (arith, cut_at_comma)
