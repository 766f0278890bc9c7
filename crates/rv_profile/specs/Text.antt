-- The table of a profile: a line for each address, its cells with a tab between two.
use Rattle.std.specs.Prelude.{ℕ, ◌==◌, if◌then◌else◌, List, [], ◌∷◌, ◌++◌, codes, decimal, take, Option, Some, None}
use Rattle.std.specs.List.{flat_map}
use Rattle.rv_causes.specs.Account.{Accounted, cycles_at}
use Rattle.rv_source.specs.Listing.{Line, Listed, line_at}
use Rattle.rv_text.specs.Line.{ratio_text, word_text}
use Rattle.rv_text.specs.Plain.{plain_text}
use Rattle.rv_text.specs.ReadField.{cell_text}
use Rattle.rv_text.specs.declared.fields.Value.TheVariants.{Count}
use Rattle.rv_counts.specs.Wait.{Waited}
use Rattle.rv_counts.specs.declared.counts.WordCounts.{WordCounts}

-- the names of the columns
unfoldable pub columns : List ℕ
columns =
    codes "address\tline\tstatement\tfetched\tretired\tsquashed\tdispatch_mean\tdispatch_most\tissue_mean\tissue_most\t"
    ++
    codes "broadcast_mean\tbroadcast_most\tretire_mean\tretire_most\thits\tmisses\tmispredicted\thead"

-- that of the cycles on a path, where one is shown
unfoldable pub path_column : Option Accounted → List ℕ
path_column None = codes "\n"
path_column (Some path) = codes "\tpath\n"

unfoldable pub table_head : Option Accounted → List ℕ
table_head path = columns ++ path_column path

-- a number, the first 64 bytes of a text in printing characters, and a tab after each
abbrev pub filled_cells : ℕ → List ℕ → List ℕ
filled_cells number text = (decimal number ++ codes "\t") ++ (plain_text (take 64 text) ++ codes "\t")

-- the number and the statement of a line; nothing of a word that no line fills
unfoldable pub line_cells : Option Line → List ℕ
line_cells (Some line) = filled_cells line.number line.text
line_cells None = codes "\t\t"

-- where the instruction stands
unfoldable pub place_cells : Listed → ℕ → List ℕ
place_cells listing address = (word_text address ++ codes "\t") ++ line_cells (line_at listing address)

-- the mean of so many waits, rounded down to three digits after the point, and the greatest
abbrev pub mean_cells : ℕ → ℕ → ℕ → List ℕ
mean_cells total count most = ratio_text total count ++ (codes "\t" ++ (decimal most ++ codes "\t"))

-- the mean of waits and the greatest; hyphens of none
unfoldable pub wait_cells : Waited → List ℕ
wait_cells wait =
    if wait.count == 0 then codes "-\t-\t" else mean_cells wait.total wait.count wait.most

-- the waits between the stages
unfoldable pub waits_cells : WordCounts → List ℕ
waits_cells word =
    wait_cells word.dispatch ++ (wait_cells word.issue ++ (wait_cells word.broadcast ++ wait_cells word.retirement))

-- how many there were, by how they ended
unfoldable pub ended_cells : WordCounts → List ℕ
ended_cells word = flat_map cell_text (Count word.fetched ∷ Count word.retired ∷ Count word.squashed ∷ [])

-- the cycles of an address on a path, where one is shown
unfoldable pub path_cell : Option Accounted → ℕ → List ℕ
path_cell None address = codes "\n"
path_cell (Some path) address = codes "\t" ++ (decimal (cycles_at address path.words) ++ codes "\n")

-- how the loads and the predictions fared, and at the end of the line the cycles at the head, and on a path
unfoldable pub last_cells : Option Accounted → WordCounts → List ℕ
last_cells path word =
    flat_map cell_text (Count word.hits ∷ Count word.misses ∷ Count word.mispredicted ∷ []) ++
    (decimal word.head_cycles ++ path_cell path word.address)

-- the line of an address
unfoldable pub word_line : Listed → Option Accounted → WordCounts → List ℕ
word_line listing path word =
    place_cells listing word.address ++ (ended_cells word ++ (waits_cells word ++ last_cells path word))

-- the table
unfoldable pub table_text : Listed → Option Accounted → List WordCounts → List ℕ
table_text listing path words = table_head path ++ flat_map (word_line listing path) words
