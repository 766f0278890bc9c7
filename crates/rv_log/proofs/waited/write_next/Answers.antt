use Rattle.std.proofs.Common.{◌∙◌, sym}
use Rattle.rv_text.proofs.Saying.{says_nothing, says_same}
use Rattle.rv_log.proofs.Waits.{none-after, none-said, some-after, some-said}
use Rattle.rv_log.proofs.waited.write_next.Goals as goal

pub returns-then-cycles-eq0-clause-said : goal.returns-then-cycles-eq0-clause-said
returns-then-cycles-eq0-clause-said g c =
    says_same (none-said c.args.before.now c.args.wait.now
    (sym c.cycles.ensures ∙ c.if-cycles-eq0.true)) (says_nothing _)

pub returns-then-cycles-eq0-clause-next : goal.returns-then-cycles-eq0-clause-next
returns-then-cycles-eq0-clause-next g c = none-after c.args.before.now c.args.wait.now (sym c.cycles.ensures
    ∙ c.if-cycles-eq0.true)

pub returns-else-cycles-eq0-clause-said : goal.returns-else-cycles-eq0-clause-said
returns-else-cycles-eq0-clause-said g c =
    says_same (some-said c.args.before.now c.args.wait.now (λ none. c.if-cycles-eq0.false (c.cycles.ensures ∙ none)))
    c.write_wait.ensures

pub returns-else-cycles-eq0-clause-next : goal.returns-else-cycles-eq0-clause-next
returns-else-cycles-eq0-clause-next g c =
    some-after c.args.before.now c.args.wait.now (λ none. c.if-cycles-eq0.false (c.cycles.ensures ∙ none))
