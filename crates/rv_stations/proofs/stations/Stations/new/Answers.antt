-- A description's kinds have 1 to 64 stations.
use Rattle.rv_isa.specs.declared.operations.Kind.TheVariants.{Alu, Mul, Div, Mem}
use Rattle.rv_stations.proofs.stations.Stations.new.Goals as goal

pub new-requires : goal.new-requires
new-requires c = (c.values.ensures.legal.kinds Alu).stations

pub new-requires-2 : goal.new-requires-2
new-requires-2 c = (c.values.ensures.legal.kinds Mul).stations

pub new-requires-3 : goal.new-requires-3
new-requires-3 c = (c.values.ensures.legal.kinds Div).stations

pub new-requires-4 : goal.new-requires-4
new-requires-4 c = (c.values.ensures.legal.kinds Mem).stations
