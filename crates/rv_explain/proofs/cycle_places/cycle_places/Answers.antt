use Rattle.std.proofs.Common.{arith}
use Rattle.rv_explain.proofs.cycle_places.cycle_places.Goals as goal

pub places_by-requires-clause-after : goal.places_by-requires-clause-after
places_by-requires-clause-after c = grind arith

pub returns : goal.returns
returns c = grind arith
