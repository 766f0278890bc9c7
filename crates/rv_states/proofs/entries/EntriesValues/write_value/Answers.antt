use Rattle.std.proofs.Common.{arith}
use Rattle.rv_states.proofs.Status.{within_entries}
use Rattle.rv_states.proofs.entries.EntriesValues.write_value.Goals as goal

pub write_entry_at-requires : goal.write_entry_at-requires
write_entry_at-requires g c = grind (arith, within_entries)
