-- The words of the fetch buffer as JSON.
use Rattle.std.specs.Prelude.{ℕ, List, ◌++◌, codes}
use Rattle.rv_front.specs.FetchBuffer.{FetchBuffer}
use Rattle.rv_front.specs.declared.fetched.Fetched.{Fetched}
use Rattle.rv_states.specs.Json.{Json, also, also_some, begins, numeral, truth}

-- its address, the word if RAM has one there, the cycle of its fetch, and the predicted next pc
unfoldable pub fetched_json : Fetched → Json
fetched_json f =
    begins (codes "pc") (numeral f.pc) ++
    ((also_some (codes "word") f.word ++
    (also (codes "fetched") (numeral f.cycle) ++
    also (codes "predicted") (numeral f.predicted))) ++
    codes "}")

-- where the fetch goes on, and whether it is halted
unfoldable pub next_fetch_text : FetchBuffer → List ℕ
next_fetch_text front = also (codes "next_fetch") (numeral front.next_pc) ++ also (codes "halted") (truth front.halted)
