use Rattle.std.proofs.Common.{length}
use Rattle.rv_command.proofs.show_line.+first_nothing.Given as goal

abbrev pub decreases-first_nothing : goal.decreases-first_nothing
decreases-first_nothing l = length l.texts.now
