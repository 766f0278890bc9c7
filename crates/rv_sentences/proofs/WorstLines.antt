-- The lines with wrong predictions, where there are any.
use Rattle.std.proofs.Common.{◌≡◌, ℕ, ◌≤◌, List, [], ◌∷◌, ◌++◌, length, codes, refl, arith}
use Rattle.std.specs.List.{flat_map}
use Rattle.rv_source.specs.Listing.{Listed}
use Rattle.rv_sentences.specs.WordNotes.{Notes}
use Rattle.rv_sentences.specs.Worst.{worst_line, worst_lines}
use Rattle.rv_sentences.specs.declared.counted_line.CountedLine.{CountedLine}

-- where there is a wrong prediction, the lines with the most stand after their heading
pub some_worst : (listing : Listed) (branches : Notes ℕ) (counted_lines : List CountedLine) → 1 ≤ length counted_lines
    → codes "The lines with the most wrong predictions:\n" ++ flat_map (worst_line listing branches) counted_lines
    ≡ worst_lines listing branches counted_lines
unfolding worst_lines
some_worst listing branches [] some = absurd (omega (arith, some))
some_worst listing branches (counted_line ∷ counted_lines) some = refl
