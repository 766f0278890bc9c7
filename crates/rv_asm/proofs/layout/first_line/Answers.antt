use Rattle.std.proofs.Common.{◌==◌, arith}
use Rattle.std.proofs.lemmas.List.Splits.{slice_split_first, slice_split_none}
use Rattle.std.proofs.lemmas.List.Sums.{fails_before_first}
use Rattle.rv_asm.proofs.layout.first_line.Goals as goal

pub returns-then-size-text-clause-lines : goal.returns-then-size-text-clause-lines
returns-then-size-text-clause-lines c =
    slice_split_none _ _ (λ k d below. fails_before_first (λ byte. byte == 10) c.args.text.now k d (omega arith))

pub returns-clause-lines : goal.returns-clause-lines
returns-clause-lines c = grind (arith, slice_split_first)
