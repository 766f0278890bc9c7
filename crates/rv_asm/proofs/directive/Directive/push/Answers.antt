use Rattle.std.proofs.Common.{arith}
use Rattle.std.proofs.lemmas.List.{map-append}
use Rattle.rv_asm.proofs.Emitted.{appends_more}
use Rattle.rv_asm.proofs.directive.Directive.push.Goals as goal

pub returns-in_ok-push_zeros-in-Characters : goal.returns-in_ok-push_zeros-in-Characters
returns-in_ok-push_zeros-in-Characters c = grind (arith, map-append, appends_more)
