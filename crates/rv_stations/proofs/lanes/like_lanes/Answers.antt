-- The lower halves of eight tags in lanes.
use Rattle.std.proofs.Common.{ℕ, bit_and, arith, w32, Fits}
use Rattle.std.proofs.lemmas.Nat.{and_le_r}
use Rattle.std.proofs.lemmas.Simd.{Each1-zip2, Each2-splat}
use Rattle.rv_stations.proofs.GiveLemmas.{like_lanes}
use Rattle.rv_stations.proofs.lanes.like_lanes.Goals as goal

lower_fits : (a : ℕ) → Fits w32 (bit_and a 4294967295)
lower_fits a = omega (arith, and_le_r a 4294967295)

pub overflow_cast-result : goal.overflow_cast-result
overflow_cast-result c = grind (arith, Each1-zip2, Each2-splat, lower_fits)

pub returns : goal.returns
returns c = like_lanes c.args.seq c.args.tags.now c.requires
