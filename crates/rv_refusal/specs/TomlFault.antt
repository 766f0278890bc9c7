-- Where a text ceases to be TOML.
use Rattle.std.specs.Prelude.{ℕ, zero, suc, ◌+◌, ◌-◌, ◌==◌, ◌&&◌, Bool, List, ◌++◌}
use Rattle.std.specs.Prelude.{codes, get_or, length, nat_lt, take, if◌then◌else◌}
use Rattle.rv_describe.specs.Document.{is_toml}
use Rattle.rv_refusal.specs.Caret.{caret_below}
use Rattle.rv_refusal.specs.Lines.{line_at, line_feeds}
use Rattle.rv_refusal.specs.NameOn.{blanks}
use Rattle.rv_refusal.specs.Place.{line_place, shown_line}
use Rattle.rv_refusal.specs.Separator.{separator_hint}

-- a line ends there, and what stands up to it is TOML
abbrev pub is_toml_up_to : List ℕ → ℕ → Bool
is_toml_up_to text place = get_or text (place - 1) 0 == 10 && is_toml (take place text)

-- the last such place that is no later than one; the beginning where there is none
unfoldable pub toml_up_to : List ℕ → ℕ → ℕ
toml_up_to text zero = zero
toml_up_to text (suc place) = if is_toml_up_to text (suc place) then suc place else toml_up_to text place

-- The number of the line that begins where a text ceases to be TOML: the lines before it are, and no more of its lines
-- are with them.
unfoldable pub toml_line : List ℕ → ℕ
toml_line text = line_feeds (take (toml_up_to text (length text)) text) + 1

-- what was expected of a line with which a text, like an example, is no longer TOML: another name, where the line alone is
unfoldable pub toml_expected : List ℕ → List ℕ → List ℕ
toml_expected example line =
    if is_toml line then codes "expected: a key or a table that does not stand above\n"
    else codes "expected: TOML, as in "
    ++ (example ++ codes ": a value for each key, strings in quotes, brackets closed, whole numbers up to 9223372036854775807\n")

-- the line of a part of the job, which has this name and so many lines before it, with which it ceases to be TOML, and
-- whether it was to be a separator
unfoldable pub toml_lines : List ℕ → ℕ → List ℕ → List ℕ → List ℕ
toml_lines name before example part =
    let line = line_at (toml_line part) part in
    line_place name before (toml_line part)
    ++ (codes "\n" ++ (shown_line line
    ++ (caret_below (blanks line) ++ (toml_expected example line ++ separator_hint line))))

-- the longest text whose line is looked for, since that reads the text again for each line
abbrev pub most_searched : ℕ
most_searched = 16384

-- why a part of the job is no TOML
unfoldable pub no_toml : List ℕ → ℕ → List ℕ → List ℕ → List ℕ
no_toml name before example part =
    if nat_lt most_searched (length part) then codes "expected: a TOML document, as in " ++ (example ++ codes "\n")
    else toml_lines name before example part
