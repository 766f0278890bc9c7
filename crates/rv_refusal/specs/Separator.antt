-- The lines between the parts of a job, where one may be missing or is written otherwise.
use Rattle.std.specs.Prelude.{ℕ, ◌+◌, ◌==◌, List, [], ◌∷◌, ◌++◌, Bool, not, ◌&&◌, ◌||◌, codes, drop}
use Rattle.std.specs.Prelude.{if◌then◌else◌, Option, Some, None, is_some}
use Rattle.std.specs.{List.slice_split, Option.option_map_or, Str.bytes_eq}
use Rattle.rv_job.specs.Parts.{without_return}
use Rattle.rv_refusal.specs.EntryLine.{entry_on}
use Rattle.rv_refusal.specs.NameOn.{begins_with, blanks, goes_on_with, key_on}
use Rattle.rv_refusal.specs.Place.{line_place}

-- a line reads as one of a description, which begins with a bracket or with a key before `=`, or as a separator, with a
-- per cent sign
abbrev pub reads_described : List ℕ → Bool
reads_described line = goes_on_with 91 line || (goes_on_with 37 line || is_some (key_on line))

-- a line begins with two per cent signs, after blanks
abbrev pub begins_separator : List ℕ → Bool
begins_separator line = begins_with 37 (drop (blanks line) line) && begins_with 37 (drop (blanks line + 1) line)

-- a line begins as a separator, and is none, since something stands before or after it
unfoldable pub spoils_separator : List ℕ → Bool
spoils_separator line = begins_separator line && not (bytes_eq (without_return line) (codes "%%"))

-- what is said of a line that is no separator for what stands beside its two bytes
unfoldable pub separator_hint : List ℕ → List ℕ
separator_hint line =
    if spoils_separator line then codes "hint: a line %% has nothing but these two bytes\n" else []

-- what is said of a line at fault of the assembly that so many lines of the job stand before, where it is a separator,
-- which is the third one, reads as one of a description, and none do, or begins an entry of arrivals
unfoldable pub part_hint : ℕ → List ℕ → List ℕ
part_hint before line =
    if bytes_eq (without_return line) (codes "%%")
    then codes "hint: at most two lines %% stand in a job, between its description, its arrivals and its assembly\n"
    else (if before == 0 && reads_described line then codes "is a line %% missing?\n"
    else (if is_some (entry_on line) then codes
    "hint: arrivals are the second of three parts, with a line %% after them\n"
    else []))

-- what is said of a line at fault of the assembly that so many lines of the job stand before, where it was to be a separator,
-- or may be one of another part
unfoldable pub separator_question : ℕ → List ℕ → List ℕ
separator_question before line = if spoils_separator line then separator_hint line else part_hint before line

-- the number of the first line that is no separator for what stands beside its two bytes, of lines that are numbered from
-- here on
abbrev pub first_spoiled : ℕ → List (List ℕ) → Option ℕ
first_spoiled number [] = None
first_spoiled number (line ∷ others) = if spoils_separator line then Some number else first_spoiled (number + 1) others

-- what stands before the place of a line that is no separator
unfoldable pub spoiled_text : List ℕ
spoiled_text = codes "hint: a line %% has nothing but these two bytes: see "

-- what is said of such a line, by its number in an assembly that so many lines of the job stand before, unless it is the
-- one at fault
unfoldable pub spoiled_line : ℕ → ℕ → ℕ → List ℕ
spoiled_line before number other =
    if other == number then []
    else spoiled_text ++ (line_place (codes "assembly") before other ++ codes "\n")

-- what is said of the first such line of an assembly that so many lines of the job stand before, where the line with a
-- number is at fault
unfoldable pub later_hint : ℕ → ℕ → List ℕ → List ℕ
later_hint before number assembly =
    option_map_or (spoiled_line before number) (first_spoiled 1 (slice_split (λ byte. byte == 10) assembly)) []
