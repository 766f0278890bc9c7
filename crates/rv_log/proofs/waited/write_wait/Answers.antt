use Rattle.std.proofs.Common.{◌∙◌, ◌++◌, ap}
use Rattle.std.specs.Prelude.{decimal}
use Rattle.rv_log.specs.Waited.{awaited_name, awaited_text, cycles_of, wait_text}
use Rattle.rv_text.proofs.Saying.{says_both, says_same}
use Rattle.rv_log.proofs.AfterNumber.{wait-words}
use Rattle.rv_log.proofs.waited.write_wait.Goals as goal

pub returns : goal.returns
unfolding wait_text
returns g c =
    let before = c.args.before.now in
    let wait = c.args.wait.now in
    let words = c.awaited_words.result.now in
    let name = awaited_name wait.awaited in
    let cycles = ap (λ n. (before ++ (decimal n ++ words)) ++ name) c.cycles.ensures in
    says_same (cycles
    ∙ wait-words before (decimal (cycles_of wait)) words name (awaited_text wait.awaited) c.awaited_words.ensures)
    (says_both c.write_cycles.ensures c.write_awaited_name.ensures)
