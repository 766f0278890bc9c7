use Rattle.std.proofs.Common.{refl}
use Rattle.rv_text.proofs.Saying.{says_more}
use Rattle.rv_text.proofs.sink.Sink.put.Goals as goal

pub returns-then-not-self : goal.returns-then-not-self
returns-then-not-self g c =
    says_more c.put.result _ _ c.args.text.now refl c.if-not-self.true c.is_err-self.ensures.value c.put.ensures
