use Rattle.std.proofs.Common.{◌≡◌, ◌+◌, ◌≤◌, length, IfSome}
use Rattle.std.specs.List.{slice_split}
use Rattle.std.specs.Option.{option_map_or}
use Rattle.rv_asm.specs.Operand.{is_comma}
use Rattle.rv_asm.specs.Read.{pieces_left, tokens_in}
use Rattle.rv_asm.proofs.pieces.piece_count.Given as goal

-- the pieces so far, and those of what is left
abbrev pub invariant-loop-rest : goal.invariant-loop-rest
invariant-loop-rest l = record {
  counted : length (slice_split is_comma (tokens_in l.tokens)) ≡ l.count + length (pieces_left l.rest);
  small : IfSome l.rest (λ rest. l.count + length rest.now ≤ length l.tokens);
}

abbrev pub decreases-loop-rest : goal.decreases-loop-rest
decreases-loop-rest l = option_map_or (λ rest. length rest.now + 1) l.rest 0
