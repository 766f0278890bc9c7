-- The executions that hold a unit, as JSON.
use Rattle.std.specs.Prelude.{◌++◌, codes, map}
use Rattle.rv_isa.specs.declared.{issues.Issue.Issue, per_kind.PerKind.PerKind}
use Rattle.rv_units.specs.Pool.{Pool}
use Rattle.rv_states.specs.Json.{Json, also, array, begins, numeral}

-- a start: its cycle, and for how many cycles it holds its unit
unfoldable pub start_json : Issue → Json
start_json start =
    begins (codes "since") (numeral start.cycle) ++ (also (codes "cycles") (numeral start.cost) ++ codes "}")

-- the starts of each kind
unfoldable pub units_json : PerKind Pool → Json
units_json units =
    begins (codes "alu") (array (map start_json units.alu.starts)) ++
    (also (codes "mul") (array (map start_json units.mul.starts)) ++
    (also (codes "div") (array (map start_json units.div.starts)) ++
    (also (codes "mem") (array (map start_json units.mem.starts)) ++
    codes "}")))
