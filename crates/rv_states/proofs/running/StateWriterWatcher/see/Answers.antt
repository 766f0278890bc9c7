use Rattle.std.proofs.Common.{rules}
use Rattle.rv_text.proofs.Saying.{says_both, says_extends}
use Rattle.rv_states.proofs.Showing.{showing_early, showing_on}
use Rattle.rv_states.proofs.running.StateWriterWatcher.see.Goals as goal

pub returns-then-progress-self : goal.returns-then-progress-self
returns-then-progress-self g c start seen before shown showing =
    showing_early shown showing _ c.observe-next.result.pc c.observe-next.ensures.pc c.teach.ensures _
    c.if-progress-self.true c.follow_numbers.ensures

pub returns : goal.returns
returns g c start seen before shown showing =
    showing_on shown showing _ c.observe-next.result.pc c.observe-next.ensures.pc c.teach.ensures _ _ _ _
    c.rows-shown.result.now c.follow.ensures c.rows-shown.ensures c.drop_ended.ensures.opened
    c.drop_ended.ensures.rows c.drop_ended.ensures.interrupts
    (says_extends c.after-out.ensures.failed c.after-out.ensures.known c.has_failed-self.ensures (search rules)
    (says_both c.write_shown.ensures c.write_begun.ensures))
