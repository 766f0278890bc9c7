use Rattle.std.proofs.Common.{ap, codes, ℕ}
use Rattle.rv_sentences.specs.Work.{part_text}
use Rattle.rv_sentences.specs.Worst.{worst_line}
use Rattle.rv_text.proofs.Saying.{says_both, says_same}
use Rattle.rv_sentences.proofs.worst.write_line.Goals as goal

pub returns : goal.returns
unfolding worst_line
returns g c =
    let mispredicted = c.args.worst.now.count in
    let text = λ (retired : ℕ). part_text (codes "       retired ") retired (codes " mispredicted") mispredicted in
    says_both c.write_place.ensures (says_same (ap text c.count_in_line.ensures) c.write_part.ensures)
