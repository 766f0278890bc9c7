use Rattle.std.proofs.Common.{arith}
use Rattle.rv_sentences.specs.GreatestLines.{goes_on}
use Rattle.rv_sentences.proofs.LineCounts.{line_begun, line_joined}
use Rattle.rv_sentences.proofs.lines.count_of_line.Goals as goal
use Rattle.rv_sentences.proofs.lines.count_of_line.Goals.{else-place-gt0-via-then-place-gt0+else-goes_on}
use Rattle.rv_sentences.proofs.lines.count_of_line.Goals.{else-place-gt0-via-else-place-gt0}

pub returns-then-goes_on : goal.returns-then-goes_on
returns-then-goes_on c = grind (arith, goes_on, line_joined)

pub returns : goal.returns
returns c = grind (arith, goes_on, line_begun)
