use Rattle.std.proofs.Common.{◌∙◌, ◌++◌, codes}
use Rattle.rv_log.specs.Log.{head_text}
use Rattle.rv_text.proofs.Saying.{says_same}
use Rattle.rv_log.proofs.cycle.write_head.Goals as goal

pub returns : goal.returns
unfolding head_text
returns g c =
    let number = c.as_bytes-number.ensures.value ∙ c.format.ensures.text in
    says_same (λ i. codes "Kanata\t0004\nC=\t" ++ (number i ++ codes "\n")) c.put_all.ensures
