use Rattle.std.proofs.Common.{◌≡◌, ◌+◌, ◌++◌, ◌==◌, length, map}
use Rattle.std.specs.{List.flat_map, List.slice_split, Option.option_map_or}
use Rattle.rv_asm.specs.Kept.{lines_left}
use Rattle.rv_refusal.specs.Names.{symbols_on}
use Rattle.rv_refusal.specs.Statement.{tokens_on}
use Rattle.rv_refusal.proofs.symbols.add_symbols.Given as goal

-- the symbols of the lines so far, and those of the rest
abbrev pub invariant-loop-rest : goal.invariant-loop-rest
invariant-loop-rest l =
    map (λ name. name.now) l.symbols.items ++ flat_map (λ line. symbols_on (tokens_on line)) (lines_left l.rest)
    ≡ map (λ name. name.now) l.initial.symbols.items ++ flat_map (λ line. symbols_on (tokens_on line))
    (slice_split (λ byte. byte == 10) l.text)

abbrev pub decreases-loop-rest : goal.decreases-loop-rest
decreases-loop-rest l = option_map_or (λ text. length text.now + 1) l.rest 0
