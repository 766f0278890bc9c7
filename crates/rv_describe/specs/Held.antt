-- What a table holds at a key, as the code has it.
use Rattle.std.specs.Prelude.{Option, Some, None}
use Rattle.toml.specs.{Data.Data, View.view}
use Rattle.rv_describe.specs.declared.held.Held.{Held}
use Rattle.rv_describe.specs.declared.held.Held.TheVariants.{NoTable, Nothing, Value}

-- the same as the definitions have it
abbrev pub held_of : Held → Option (Option Data)
held_of NoTable = None
held_of Nothing = Some None
held_of (Value value) = Some (Some (view value.now))
