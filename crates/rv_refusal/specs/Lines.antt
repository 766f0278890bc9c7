-- Where a line stands in a job.
use Rattle.std.specs.Prelude.{ℕ, ◌-◌, ◌==◌, List, [], count_by, get_or, length, take}
use Rattle.std.specs.List.{slice_split}

-- the line with a number, from 1, without its line feed; nothing stands on a line that the text does not have
abbrev pub line_at : ℕ → List ℕ → List ℕ
line_at number text = get_or (slice_split (λ byte. byte == 10) text) (number - 1) []

-- how many line feeds a text has
abbrev pub line_feeds : List ℕ → ℕ
line_feeds text = count_by (λ byte. byte == 10) text

-- how many lines of a text stand before its last part
abbrev pub lines_before : List ℕ → List ℕ → ℕ
lines_before text part = line_feeds (take (length text - length part) text)
