use Rattle.std.proofs.Common.{sym, ◌∙◌}
use Rattle.rv_states.proofs.Status.{so_many_entries}
use Rattle.rv_states.proofs.entries.EntriesValues.count.Goals as goal

pub returns : goal.returns
returns c = c.len.ensures.count ∙ sym (so_many_entries _ _ _)
