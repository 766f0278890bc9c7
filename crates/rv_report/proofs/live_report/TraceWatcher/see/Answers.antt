use Rattle.std.proofs.Common.{rules}
use Rattle.rv_text.proofs.Saying.{says_extends}
use Rattle.rv_report.proofs.LiveReport.{room_for_more, traced_on}
use Rattle.rv_report.proofs.live_report.TraceWatcher.see.Goals as goal

pub count_all-requires : goal.count_all-requires
count_all-requires g c =
    let (start, seen, before, shown, traced) = c.requires.shown in record { room = room_for_more shown traced }

pub returns : goal.returns
returns g c start seen before shown traced =
    let more = says_extends c.after-out.ensures.failed c.after-out.ensures.known c.has_failed-self.ensures
    (search rules) c.say_trace.ensures in
    traced_on shown traced c.count_all.new.self _ _ c.count_all.ensures (more.extends _ _ traced.trace)
