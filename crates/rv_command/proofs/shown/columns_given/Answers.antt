use Rattle.std.proofs.Common.{◌∙◌, ap, codes}
use Rattle.clap.specs.Words.{found_of}
use Rattle.rv_command.specs.Shown.{columns_of}
use Rattle.rv_command.proofs.Texts.{texts_held}
use Rattle.rv_command.proofs.shown.columns_given.Goals as goal

pub returns-in-Some : goal.returns-in-Some
returns-in-Some c =
    c.columns.ensures ∙ ap columns_of
    (texts_held _ (found_of c.args.given.now) (codes "show") c.get_strs.ensures c.in-Some.is)

pub returns-in-None : goal.returns-in-None
returns-in-None c =
    c.columns-in-None.ensures
    ∙ ap columns_of (texts_held _ (found_of c.args.given.now) (codes "show") c.get_strs.ensures c.in-None.is)
