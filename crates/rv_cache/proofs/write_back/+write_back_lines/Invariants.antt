use Rattle.std.proofs.Common.{length}
use Rattle.rv_cache.proofs.write_back.+write_back_lines.Given as goal

abbrev pub decreases-write_back_lines : goal.decreases-write_back_lines
decreases-write_back_lines g l = length l.lines.now
