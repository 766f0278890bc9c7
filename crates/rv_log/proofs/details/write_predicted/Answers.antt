use Rattle.std.proofs.Common.{ap, sym}
use Rattle.rv_log.specs.Details.{predicted_text}
use Rattle.rv_text.proofs.Saying.{says_same}
use Rattle.rv_log.proofs.details.write_predicted.Goals as goal

pub returns-in-Some : goal.returns-in-Some
unfolding predicted_text
returns-in-Some g c = says_same (ap (λ p. predicted_text p c.args.correction) (sym c.in-Some.is)) c.write_known.ensures
