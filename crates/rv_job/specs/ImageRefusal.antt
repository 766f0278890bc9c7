-- Why a text is refused where its image alone is asked for.
use Rattle.std.specs.Prelude.{◌<◌, ℕ, List, length}
use Rattle.rv_isa.specs.declared.values.Values.{Values}
use Rattle.rv_job.specs.Input.{most_bytes}
use Rattle.rv_job.specs.JobText.{Describes, HasLegalLength, RefusesAssembly, RefusesDescription}
use Rattle.rv_job.specs.Parts.{parts_of}
use Rattle.rv_job.specs.declared.errors.SimError.{SimError}
use Rattle.rv_job.specs.declared.errors.SimError.TheVariants.{TooLong}

-- a fault of a text, of which the arrivals are not read; the image need not fit
pub data RefusesImage (text : List ℕ) : SimError → Type 0 where
  too_long : most_bytes < length text → RefusesImage text TooLong
  description : {error : SimError} → HasLegalLength text → RefusesDescription (parts_of text).description error →
      RefusesImage text error
  assembly : {error : SimError} {machine : Values} → HasLegalLength text → Describes text machine →
      RefusesAssembly machine.ram_base (parts_of text).assembly error → RefusesImage text error
