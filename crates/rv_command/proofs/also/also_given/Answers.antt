use Rattle.std.proofs.Common.{◌∙◌, ap, codes}
use Rattle.clap.specs.Words.{found_of}
use Rattle.rv_command.specs.Also.{settings_of}
use Rattle.rv_command.proofs.Texts.{texts_held}
use Rattle.rv_command.proofs.also.also_given.Goals as goal

pub returns-in-Some : goal.returns-in-Some
returns-in-Some c =
    c.settings.ensures ∙ ap settings_of
    (texts_held _ (found_of c.args.given.now) (codes "also") c.get_strs.ensures c.in-Some.is)

pub returns-in-None : goal.returns-in-None
returns-in-None c =
    c.settings-in-None.ensures
    ∙ ap settings_of (texts_held _ (found_of c.args.given.now) (codes "also") c.get_strs.ensures c.in-None.is)
