use Rattle.std.proofs.Common.{◌<◌, length, rules}
use Rattle.rv_sentences.proofs.WorstLines.{some_worst}
use Rattle.rv_text.proofs.Saying.{says_both, says_same}
use Rattle.rv_sentences.proofs.worst.write_lines.Goals as goal

pub returns : goal.returns
returns g c =
    let some : 0 < length c.args.worst.now = search rules in
    says_same (some_worst c.args.listing.now c.args.branches.now c.args.worst.now some)
    (says_both c.put.ensures c.write_each.ensures)
