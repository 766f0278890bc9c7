use Rattle.std.proofs.Common.{◌≡◌, map, drop}
use Rattle.rv_asm.specs.Operand.{operands_in}
use Rattle.rv_asm.specs.Read.{operand_of, token_of}
use Rattle.rv_asm.proofs.Joined.{joined}
use Rattle.rv_asm.proofs.operand.read_pieces.Given as goal

-- the operands so far and those of the pieces that are left are all of them
abbrev pub invariant-loop-piece : goal.invariant-loop-piece
invariant-loop-piece l =
    joined operand_of l.operands.items
    (operands_in (map (λ piece. map token_of piece.now) (drop l.piece-index l.pieces)))
    ≡ operands_in (map (λ piece. map token_of piece.now) l.pieces)
