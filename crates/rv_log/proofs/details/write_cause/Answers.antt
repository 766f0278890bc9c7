use Rattle.std.proofs.Common.{◌≡◌, ◌∙◌, ◌++◌, ap, append-nil, codes, rules}
use Rattle.std.specs.Prelude.{decimal}
use Rattle.rv_isa.specs.Cause.{code_of}
use Rattle.rv_log.specs.Details.{cause_text}
use Rattle.rv_text.proofs.Saying.{says_same}
use Rattle.rv_log.proofs.details.write_cause.Goals as goal

pub returns : goal.returns
unfolding cause_text
returns g c =
    let number : c.from.result ≡ code_of c.args.cause = search rules in
    says_same (ap (λ text. codes "trapped, cause " ++ text) (append-nil (decimal c.from.result) ∙ ap decimal number))
    c.write_numbered.ensures
