-- What the program says of words that are no command.
use Rattle.std.specs.Prelude.{◌≡◌, ◌≢◌, ◌⊎◌, ◌<◌, ℕ, List, [], ◌++◌, length, Option, codes}
use Rattle.std.specs.Io.KnownBytes.{Appends}
use Rattle.clap.specs.declared.error.kind.ErrorKind.{ErrorKind}
use Rattle.clap.specs.declared.error.kind.ErrorKind.TheVariants.{DisplayHelp, DisplayVersion, InvalidSubcommand}
use Rattle.clap.specs.declared.error.kind.ErrorKind.TheVariants.{OutOfMemory, UnknownArgument}
use Rattle.rv_job.specs.FaultStream.{FaultStream, Reports, ReportsError, ReportsOutOfMemory}
use Rattle.rv_job.specs.declared.errors.SimError.TheVariants.{WriteFailed}
use Rattle.rv_text.specs.Written.{AppendsBeginning}

-- a kind of error that is no request for help or the version
abbrev pub IsMistake : ErrorKind → Type 0
IsMistake kind = (kind ≢ DisplayHelp) × (kind ≢ DisplayVersion)

-- the line for words that may be meant as the name of a job's file
unfoldable pub job_hint : List ℕ
job_hint = codes "A job comes on standard input, as in 'rv_sim run < FILE'.\n"

-- what stands after clap's text: the hint, where a word is no argument or no command
unfoldable pub hint_of : ErrorKind → List ℕ
hint_of UnknownArgument = job_hint
hint_of InvalidSubcommand = job_hint
hint_of _ = []

-- a text is some text that is not empty, and after it the hint for a kind of error
pub record HasHint (kind : ErrorKind) (text : List ℕ) : Type 0 where
  pub said : List ℕ
  pub nonempty : 0 < length said
  pub hinted : text ≡ said ++ hint_of kind

-- a mistake: the text is reported, and the status is 2 even where it can't be written
abbrev pub ReportsMistake : List ℕ → Option (List ℕ) → Option (List ℕ) → FaultStream → FaultStream → ℕ → Type 0
ReportsMistake text old-output new-output old new status =
    (new-output ≡ old-output) × Reports old new text × (status ≡ 2)

-- help or the version: the text is written whole, or a beginning of it, which is reported
abbrev pub ShowsHelp : List ℕ → Option (List ℕ) → Option (List ℕ) → FaultStream → FaultStream → ℕ → Type 0
ShowsHelp text old-output new-output old new status =
    (Appends old-output new-output text × (new ≡ old) × (status ≡ 0))
    ⊎ (AppendsBeginning old-output new-output text × ReportsError WriteFailed old new status)

-- what is shown of clap's error of a kind, and the exit status: some text with its hint, unless memory ran out
abbrev pub ShowsUsage : ErrorKind → Option (List ℕ) → Option (List ℕ) → FaultStream → FaultStream → ℕ → Type 0
ShowsUsage kind old-output new-output old new status =
    ReportsOutOfMemory old-output new-output old new status
    ⊎ ((kind ≢ OutOfMemory) × (text : List ℕ) × HasHint kind text
    × ((IsMistake kind × ReportsMistake text old-output new-output old new status)
    ⊎ ((IsMistake kind → ⊥) × ShowsHelp text old-output new-output old new status)))
