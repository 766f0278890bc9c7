use Rattle.std.proofs.Common.{refl}
use Rattle.rv_isa.specs.Key.{order}
use Rattle.rv_isa.proofs.keys.all_keys.Goals as goal

-- the program's order is the definition's
pub returns : goal.returns
unfolding order
returns c = refl
