-- Where the cycles of a run went.
use Rattle.std.specs.Prelude.{ℕ, ◌+◌, ◌*◌, ◌/◌, ◌%◌, ◌==◌, if◌then◌else◌, List}
use Rattle.std.specs.Prelude.{[], ◌++◌, codes, decimal, length, take, drop}
use Rattle.std.specs.List.{flat_map}
use Rattle.rv_hardware.specs.Report.{all_stalls, count_of, stall_name}
use Rattle.rv_hardware.specs.declared.report.{Stall.Stall, StallCounts.StallCounts}

-- how many of so many parts of a whole a count is, to the nearest; none of nothing
abbrev pub parts_of : ℕ → ℕ → ℕ → ℕ
parts_of parts count all = if all == 0 then 0 else (2 * parts * count + all) / (2 * all)

-- a part of all, in brackets, by its tenths of a percent
unfoldable pub share_text : ℕ → List ℕ
share_text tenths = codes " (" ++ (decimal (tenths / 10) ++ (codes "." ++ (decimal (tenths % 10) ++ codes "%)")))

-- the spaces before a text, so that both have the width of so many spaces
unfoldable pub indent : List ℕ → List ℕ → List ℕ
indent spaces text = drop (length text) spaces

-- a bar: 50 marks are all
unfoldable pub bar_text : ℕ → List ℕ
bar_text marks = take marks (codes "##################################################")

-- a name, a count, what it is of all in percent by its tenths, and so many marks
unfoldable pub row_text : List ℕ → List ℕ → ℕ → ℕ → List ℕ
row_text name count tenths marks =
    name ++ (indent (codes "          ") count ++ (count ++
    (indent (codes "     ") (decimal (tenths / 10)) ++ (decimal (tenths / 10) ++
    (codes "." ++ (decimal (tenths % 10) ++ (codes "%  " ++ (bar_text marks ++ codes "\n"))))))))

-- a part of all cycles, with a mark for each two percent
unfoldable pub share_line : List ℕ → ℕ → ℕ → List ℕ
share_line name count all = row_text name (decimal count) (parts_of 1000 count all) (parts_of 50 count all)

-- cycles, and retired instructions
unfoldable pub count_text : ℕ → ℕ → List ℕ
count_text cycles retired =
    codes "cycles " ++ (decimal cycles ++ (codes ", retired instructions " ++ (decimal retired ++ codes "\n")))

-- the same of a part, unless it is none
unfoldable pub part_line : List ℕ → ℕ → ℕ → List ℕ
part_line name count all = if count == 0 then [] else share_line name count all

-- a part of all cycles after a name in a column of its own, unless it is none
unfoldable pub column_line : List ℕ → ℕ → ℕ → List ℕ
column_line name count all =
    if count == 0 then [] else name ++ (indent (codes "       ") name ++ share_line [] count all)

-- the cycles that dispatched nothing for a reason
abbrev pub stall_line : StallCounts → ℕ → Stall → List ℕ
stall_line stalls cycles stall = column_line (stall_name stall) (count_of stall stalls) cycles

-- the cycles that dispatched something, and those that did not, by the reason
unfoldable pub stall_text : ℕ → ℕ → StallCounts → List ℕ
stall_text cycles busy stalls = column_line (codes "busy") busy cycles ++ flat_map (stall_line stalls cycles) all_stalls
