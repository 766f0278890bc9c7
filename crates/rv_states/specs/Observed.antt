-- What retired instructions left, as JSON.
use Rattle.std.specs.Prelude.{ℕ, List, ◌++◌, codes, map}
use Rattle.rv_isa.specs.declared.lines.Lines.{Lines}
use Rattle.rv_arch.specs.Csr.{Kept}
use Rattle.rv_states.specs.Json.{also, array, begins, numeral, truth}
use Rattle.rv_states.specs.Registers.{csrs_json}

-- the levels of the interrupt lines in the last cycle
unfoldable pub lines_text : Lines → List ℕ
lines_text lines =
    also (codes "software") (truth lines.software) ++
    (also (codes "timer") (truth lines.timer) ++
    also (codes "external") (truth lines.external))

-- what retired instructions left
unfoldable pub observed_text : ℕ → List ℕ → Kept → Lines → List ℕ
observed_text pc registers csrs lines =
    begins (codes "pc") (numeral pc) ++
    (also (codes "registers") (array (map numeral registers)) ++
    (also (codes "csrs") (csrs_json csrs lines) ++
    lines_text lines))
