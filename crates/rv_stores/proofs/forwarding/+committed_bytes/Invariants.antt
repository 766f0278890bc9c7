use Rattle.std.proofs.Common.{length}
use Rattle.rv_stores.proofs.forwarding.+committed_bytes.Given as goal

abbrev pub decreases-committed_bytes : goal.decreases-committed_bytes
decreases-committed_bytes l = length l.stores.now
