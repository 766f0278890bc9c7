use Rattle.std.proofs.Common.{◌≡◌, ◌++◌, length, map}
use Rattle.rv_asm.specs.Layout.{labels_of}
use Rattle.rv_asm.specs.Read.{tokens_in}
use Rattle.rv_refusal.proofs.symbols.add_labels.Given as goal

-- the labels so far, and those of the rest
abbrev pub invariant-loop-rest : goal.invariant-loop-rest
invariant-loop-rest l =
    map (λ name. name.now) l.symbols.items ++ labels_of (tokens_in l.rest)
    ≡ map (λ name. name.now) l.initial.symbols.items ++ labels_of (tokens_in l.tokens)

abbrev pub decreases-loop-rest : goal.decreases-loop-rest
decreases-loop-rest l = length l.rest
