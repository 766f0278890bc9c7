-- What a register gives to an instruction that waits, as JSON.
use Rattle.std.specs.Prelude.{ℕ, List, ◌++◌, codes}
use Rattle.rv_stations.specs.declared.waiting.Operand.{Operand}
use Rattle.rv_stations.specs.declared.waiting.Operand.TheVariants.{Value, Tag}
use Rattle.rv_states.specs.Json.{Json, also, begins, numeral}

-- a value that is known, or the number of the instruction that gives it
unfoldable pub known_text : Operand → List ℕ
known_text (Value value) = also (codes "value") (numeral value)
known_text (Tag number) = also (codes "producer") (numeral number)

-- a register, and what it gives
unfoldable pub operand_json : ℕ → Operand → Json
operand_json register operand = begins (codes "register") (numeral register) ++ (known_text operand ++ codes "}")
