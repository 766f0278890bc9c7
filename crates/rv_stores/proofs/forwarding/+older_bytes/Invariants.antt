use Rattle.std.proofs.Common.{length}
use Rattle.rv_stores.proofs.forwarding.+older_bytes.Given as goal

abbrev pub decreases-older_bytes : goal.decreases-older_bytes
decreases-older_bytes l = length l.stores.now
