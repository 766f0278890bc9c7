use Rattle.std.proofs.Common.{◌∙◌, ap}
use Rattle.rv_drawing.specs.Shorter.{shortened}
use Rattle.rv_drawing.proofs.label.statement.Goals as goal

pub returns : goal.returns
returns c = c.shortened.ensures ∙ ap shortened c.statement.ensures
