-- An instruction in flight, or one that left the hardware, as JSON.
use Rattle.std.specs.Prelude.{ℕ, if◌then◌else◌, List, [], ◌++◌, codes, Option, Some, None, option_map}
use Rattle.rv_isa.specs.Cause.{code_of}
use Rattle.rv_isa.specs.declared.{causes.Cause.Cause, issues.Issue.Issue}
use Rattle.rv_passage.specs.Passage.{is_in_flight}
use Rattle.rv_passage.specs.declared.passage.{Ending.Ending, Passage.Passage}
use Rattle.rv_passage.specs.declared.passage.Ending.TheVariants.{InFlight, Retired, Trapped, Squashed}
use Rattle.rv_states.specs.Json.{Json, also, also_some, begins, numeral, quoted}

-- the cost of its execution
abbrev pub cost_of : Passage → Option ℕ
cost_of p = option_map (λ (issue : Issue). issue.cost) p.issue

-- what it was, and when it passed through the hardware
unfoldable pub passage_text : Passage → List ℕ
passage_text p =
    also (codes "pc") (numeral p.pc) ++
    (also_some (codes "word") p.word ++
    (also (codes "fetched") (numeral p.fetched) ++
    (also_some (codes "dispatched") p.dispatched ++
    (also_some (codes "issued") (option_map (λ (issue : Issue). issue.cycle) p.issue) ++
    (also_some (codes "cost") (cost_of p) ++
    also_some (codes "broadcast") p.broadcast)))))

-- it retired, and wrote a register or none
unfoldable pub retired_text : Option (ℕ × ℕ) → List ℕ
retired_text None = also (codes "end") (quoted (codes "retired"))
retired_text (Some written) =
    also (codes "end") (quoted (codes "retired")) ++
    (also (codes "register") (numeral written.0) ++ also (codes "value") (numeral written.1))

-- it trapped
unfoldable pub trapped_text : Cause → List ℕ
trapped_text cause = also (codes "end") (quoted (codes "trapped")) ++ also (codes "cause") (numeral (code_of cause))

-- it was squashed
unfoldable pub squashed_text : List ℕ
squashed_text = also (codes "end") (quoted (codes "squashed"))

-- how it left the hardware
abbrev pub ending_text : Ending → List ℕ
ending_text InFlight = []
ending_text (Retired order cycle written next) = retired_text written
ending_text (Trapped cycle cause) = trapped_text cause
ending_text (Squashed cycle) = squashed_text

-- all of one that left
unfoldable pub ended_text : Passage → List ℕ
ended_text p = passage_text p ++ ending_text p.ending

-- its number alone while it is in flight: the hardware has the rest
abbrev pub details_text : Passage → List ℕ
details_text p = if is_in_flight p then [] else ended_text p

-- an instruction by its number
unfoldable pub instruction_json : Passage → Json
instruction_json p = begins (codes "number") (numeral p.number) ++ (details_text p ++ codes "}")
