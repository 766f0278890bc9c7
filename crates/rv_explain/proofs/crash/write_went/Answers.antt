use Rattle.std.proofs.Common.{◌++◌}
use Rattle.std.specs.Prelude.{codes}
use Rattle.rv_explain.specs.Crash.{went_text}
use Rattle.rv_text.proofs.Saying.{says_same}
use Rattle.rv_explain.proofs.crash.write_went.Goals as goal

pub returns : goal.returns
unfolding went_text
returns g c =
    let address = c.hexadecimal-address.ensures in
    says_same (λ i. codes "The program went to " ++ (address i ++ codes ", outside RAM, from ")) c.put_all.ensures
