use Rattle.std.proofs.Common.{◌∙◌, [], codes}
use Rattle.rv_log.specs.Command.{introduction_text}
use Rattle.rv_text.proofs.Saying.{says_both, says_same}
use Rattle.rv_log.proofs.AfterNumber.{says_after_number}
use Rattle.rv_log.proofs.command.write_introduction.Goals as goal

pub returns : goal.returns
unfolding introduction_text
returns g c =
    let address = says_same (c.as_slice.ensures ∙ c.hexadecimal-address.ensures) c.put.ensures in
    says_after_number (codes "I\t") _ (codes "\t") c.write_numbered.ensures
    (says_after_number [] _ (codes "\t0\nL\t") c.write_numbered-2.ensures
    (says_after_number [] _ (codes "\t0\t") c.write_numbered-3.ensures (says_both address c.put-2.ensures)))
