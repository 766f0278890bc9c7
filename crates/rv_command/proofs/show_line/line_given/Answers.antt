use Rattle.std.proofs.Common.{◌≡◌, List, codes, subst}
use Rattle.std.specs.Prelude.{IfOk}
use Rattle.clap.specs.Words.{Text, found_of}
use Rattle.rv_command.specs.ShowLine.{show_line}
use Rattle.rv_command.proofs.Texts.{texts_held}
use Rattle.rv_command.proofs.show_line.line_given.Goals as goal

pub returns-in-Some : goal.returns-in-Some
returns-in-Some c = subst (λ (texts : List Text). IfOk c.show_line.result (λ line. line.bytes.items ≡ show_line texts))
    (texts_held _ (found_of c.args.given.now) (codes "show") c.get_strs.ensures c.in-Some.is) c.show_line.ensures

pub returns-in-None : goal.returns-in-None
returns-in-None c = subst
    (λ (texts : List Text). IfOk c.show_line-in-None.result (λ line. line.bytes.items ≡ show_line texts))
    (texts_held _ (found_of c.args.given.now) (codes "show") c.get_strs.ensures c.in-None.is)
    c.show_line-in-None.ensures
