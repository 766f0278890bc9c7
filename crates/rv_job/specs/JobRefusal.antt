-- Why a text is refused as a job.
use Rattle.std.specs.Prelude.{◌<◌, ℕ, List, length}
use Rattle.rv_isa.specs.declared.{images.Image.Image, lines.Arrival.Arrival, values.Values.Values}
use Rattle.rv_job.specs.Input.{most_bytes}
use Rattle.rv_job.specs.JobText.{Assembles, Describes, HasLegalLength, Lists}
use Rattle.rv_job.specs.JobText.{RefusesArrivals, RefusesAssembly, RefusesDescription}
use Rattle.rv_job.specs.Parts.{parts_of}
use Rattle.rv_job.specs.TextImage.{Fits}
use Rattle.rv_job.specs.declared.errors.SimError.{SimError}
use Rattle.rv_job.specs.declared.errors.SimError.TheVariants.{TooLong, ImageDoesNotFit}

-- a fault of a text, where what is tested earlier is without fault.
pub data RefusesJob (text : List ℕ) : SimError → Type 0 where
  too_long : most_bytes < length text → RefusesJob text TooLong
  description : {error : SimError} → HasLegalLength text → RefusesDescription (parts_of text).description error →
      RefusesJob text error
  arrivals : {error : SimError} {machine : Values} → HasLegalLength text → Describes text machine →
      RefusesArrivals (parts_of text).arrivals error → RefusesJob text error
  assembly : {error : SimError} {machine : Values} {changes : List Arrival} → HasLegalLength text →
      Describes text machine →
      Lists text changes → RefusesAssembly machine.ram_base (parts_of text).assembly error → RefusesJob text error
  unfit : {machine : Values} {changes : List Arrival} {image : Image} → HasLegalLength text → Describes text machine →
      Lists text changes → Assembles text machine image → (Fits machine image → ⊥) →
      RefusesJob text (ImageDoesNotFit (length image.bytes) machine.ram_size)
