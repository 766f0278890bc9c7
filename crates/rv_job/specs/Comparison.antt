-- What a text says as a comparison: descriptions, each with a separator after it, and a program; and why it is refused.
use Rattle.std.specs.Prelude.{◌≡◌, ◌≤◌, ◌<◌, codes, count_by, drop, if◌then◌else◌, map, take}
use Rattle.std.specs.Prelude.{ℕ, ◌+◌, List, [], ◌∷◌, ◌++◌, length, ⊤, Some, None, Ok, Err}
use Rattle.std.specs.{List.slice_split, Str.bytes_eq}
use Rattle.rv_isa.specs.declared.{images.Image.Image, values.Values.Values}
use Rattle.rv_describe.specs.Description.{description_of}
use Rattle.rv_job.specs.Input.{most_bytes}
use Rattle.rv_job.specs.JobText.{HasLegalLength, RefusesAssembly}
use Rattle.rv_job.specs.Parts.{Halves, halves_of, is_line_feed, is_separator, without_mark, without_return}
use Rattle.rv_job.specs.TextImage.{Fits, IsImageOf}
use Rattle.rv_job.specs.declared.{comparison.Comparison.Comparison, errors.SimError.SimError, job.Job.Job}
use Rattle.rv_job.specs.declared.errors.SimError.TheVariants.{TooLong, TooManyDescriptions}
use Rattle.rv_job.specs.declared.errors.SimError.TheVariants.{Described, DoesNotFit, Memory}

-- the most machines that are compared
abbrev pub most_machines : ℕ
most_machines = 64

-- how many lines of a text are separators: as many descriptions stand in front of a program
abbrev pub separator_count : List ℕ → ℕ
separator_count text = count_by is_separator (slice_split is_line_feed text)

-- the name of the machine that a description whose first line this is gives it: what stands after `# name: ` there, if
-- that stands there
unfoldable pub machine_name : List ℕ → List ℕ
machine_name line = if bytes_eq (take 8 line) (codes "# name: ") then without_return (drop 8 line) else []

-- the first of some lines
abbrev pub first_of : List (List ℕ) → List ℕ
first_of [] = []
first_of (line ∷ lines) = line

-- the names that descriptions give their machines, where the first description begins with a line, and lines stand from there on: a
-- separator ends each description
abbrev pub names_from : List ℕ → List (List ℕ) → List (List ℕ)
names_from first [] = []
names_from first (line ∷ lines) =
    if is_separator line then machine_name first ∷ names_from (first_of lines) lines else names_from first lines

-- the names of the machines that a text compares; a text without separator gives none
abbrev pub names_of : List ℕ → List (List ℕ)
names_of text = let lines = slice_split is_line_feed text in names_from (without_mark (first_of lines)) lines

-- the front of a text describes machines, with a separator after each description, and the rest stands after the last of them
pub data IsAfter (text : List ℕ) : List Values → List ℕ → Type 0 where
  nothing : IsAfter text [] text
  another : {machines : List Values} {rest : List ℕ} {machine : Values} {halves : Halves} → IsAfter text machines rest →
      halves_of rest ≡ Some halves → description_of halves.before ≡ Ok machine →
      IsAfter text (machines ++ machine ∷ []) halves.after

-- a text compares a program on some machines; where no separator stands, on the one that an empty description describes
pub data Compares (text : List ℕ) : List Values → List ℕ → Type 0 where
  alone : {machine : Values} → halves_of text ≡ None → description_of [] ≡ Ok machine →
      Compares text (machine ∷ []) text
  described : {machines : List Values} {program : List ℕ} →
      IsAfter text machines program → halves_of program ≡ None → 0 < length machines → Compares text machines program

-- a job is a program on a machine, without arrivals
pub record IsLoaded (program : List ℕ) (machine : Values) (job : Job) : Type 0 where
  pub description : job.description ≡ machine
  pub arrivals : job.arrivals ≡ []
  pub image : IsImageOf machine.ram_base program job.image

-- jobs are a program on each of some machines
pub data AreLoaded (program : List ℕ) : List Values → List Job → Type 0 where
  nothing : AreLoaded program [] []
  another : {machines : List Values} {jobs : List Job} {machine : Values} {job : Job} →
      AreLoaded program machines jobs →
      IsLoaded program machine job → AreLoaded program (machines ++ machine ∷ []) (jobs ++ job ∷ [])

-- a comparison is what a text says
pub record IsComparisonOf (text : List ℕ) (comparison : Comparison) : Type 0 where
  pub length : HasLegalLength text
  pub number : separator_count text ≤ most_machines
  pub machines : List Values
  pub program : List ℕ
  pub compares : Compares text machines program
  pub loaded : AreLoaded program machines comparison.jobs.items
  pub names : map (λ name. name.items) comparison.names.items ≡ names_of text

-- why the description with a number is refused; memory may be refused for each part
abbrev pub RefusesDescribed : ℕ → List ℕ → SimError → Type 0
RefusesDescribed number part (Described place error) = (place ≡ number) × (description_of part ≡ Err error)
RefusesDescribed number part Memory = ⊤
RefusesDescribed number part _ = ⊥

-- the image of a program does not fit a machine
abbrev pub IsUnfit : List ℕ → Values → Type 0
IsUnfit program machine = (image : Image) × IsImageOf machine.ram_base program image × (Fits machine image → ⊥)

-- why a program is refused on the machine with a number
abbrev pub RefusesProgram : ℕ → List ℕ → Values → SimError → Type 0
RefusesProgram number program machine (DoesNotFit place) = (place ≡ number) × IsUnfit program machine
RefusesProgram number program machine error = RefusesAssembly machine.ram_base program error

-- why descriptions are refused: those before the one at fault are without fault
pub data RefusesDescriptions (text : List ℕ) : SimError → Type 0 where
  memory : RefusesDescriptions text Memory
  at : {machines : List Values} {rest : List ℕ} {halves : Halves} {error : SimError} → IsAfter text machines rest →
      halves_of rest ≡ Some halves → RefusesDescribed (length machines + 1) halves.before error →
      RefusesDescriptions text error

-- why a program is refused on some machines: on those before the one that is named it is not
pub data RefusesLoading (program : List ℕ) : List Values → SimError → Type 0 where
  memory : {machines : List Values} → RefusesLoading program machines Memory
  on : {before : List Values} (machine : Values) (after : List Values) {jobs : List Job} {error : SimError} →
      AreLoaded program before jobs → RefusesProgram (length before + 1) program machine error →
      RefusesLoading program (before ++ machine ∷ after) error

-- Why a text is refused as a comparison: what is tested earlier is without fault.
pub data RefusesComparison (text : List ℕ) : SimError → Type 0 where
  too_long : most_bytes < length text → RefusesComparison text TooLong
  too_many : HasLegalLength text → most_machines < separator_count text → RefusesComparison text TooManyDescriptions
  descriptions : {error : SimError} → HasLegalLength text → separator_count text ≤ most_machines →
      RefusesDescriptions text error → RefusesComparison text error
  program : {machines : List Values} {program : List ℕ} {error : SimError} → HasLegalLength text →
      separator_count text ≤ most_machines → Compares text machines program → RefusesLoading program machines error →
      RefusesComparison text error
