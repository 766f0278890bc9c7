use Rattle.rv_sentences.specs.StayLines.{wait_names}
use Rattle.rv_sentences.proofs.stay_lines.wait_name.Goals as goal

-- the program's table is the definition's
pub returns : goal.returns
unfolding wait_names
returns c = c.name_at.ensures
