-- The counts of a run so far, as JSON.
use Rattle.std.specs.Prelude.{List, [], ◌++◌, codes, ℕ, Option, Some, None}
use Rattle.std.specs.List.{flat_map}
use Rattle.rv_watch.specs.declared.progress.Progress.{Progress}
use Rattle.rv_hardware.specs.Report.{all_stalls, count_of, stall_name}
use Rattle.rv_hardware.specs.declared.report.{Stall.Stall, StallCounts.StallCounts}
use Rattle.rv_states.specs.Json.{Json, also, begins, numeral, quoted}

-- what the last cycle waited for, where it dispatched nothing
unfoldable pub stall_text : Option Stall → List ℕ
stall_text None = []
stall_text (Some stall) = also (codes "stall") (quoted (stall_name stall))

-- the cycles so far that dispatched nothing for a reason
abbrev pub stall_count : StallCounts → Stall → List ℕ
stall_count stalls stall = also (stall_name stall) (numeral (count_of stall stalls))

-- the cycles so far, those that dispatched something, and by the reason those that did not
unfoldable pub counts_json : Progress → Json
counts_json progress =
    begins (codes "cycles") (numeral progress.cycles) ++
    (also (codes "busy") (numeral progress.busy) ++ (flat_map (stall_count progress.stalls) all_stalls ++ codes "}"))

-- that, and the counts
unfoldable pub counts_text : Progress → List ℕ
counts_text progress = stall_text progress.stall ++ also (codes "counts") (counts_json progress)
