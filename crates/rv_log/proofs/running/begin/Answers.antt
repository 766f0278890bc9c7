use Rattle.std.proofs.Common.{rules}
use Rattle.rv_text.proofs.Saying.{says_extends}
use Rattle.rv_log.proofs.running.begin.Goals as goal

pub returns : goal.returns
returns g c = says_extends c.new-out.ensures.whole c.new-out.ensures.known c.has_failed.ensures
    (search rules) c.write_begin.ensures
