-- What a text says as a job, and why a part of it is refused.
use Rattle.std.specs.Prelude.{◌≡◌, ◌≤◌, ℕ, List, length, ⊤, Some, Ok, Err}
use Rattle.rv_isa.specs.declared.{images.Image.Image, lines.Arrival.Arrival, values.Values.Values}
use Rattle.rv_describe.specs.ArrivalList.{listed_arrivals}
use Rattle.rv_describe.specs.Description.{description_of}
use Rattle.rv_job.specs.Input.{most_bytes}
use Rattle.rv_job.specs.Parts.{parts_of}
use Rattle.rv_job.specs.TextImage.{IsImageOf, text_fault}
use Rattle.rv_job.specs.declared.{errors.SimError.SimError, job.Job.Job}
use Rattle.rv_job.specs.declared.errors.SimError.TheVariants.{Description, Arrivals, Assembly, Memory}

-- a text is not too long
abbrev pub HasLegalLength : List ℕ → Type 0
HasLegalLength text = length text ≤ most_bytes

-- the first part of a text describes a machine
abbrev pub Describes : List ℕ → Values → Type 0
Describes text machine = description_of (parts_of text).description ≡ Ok machine

-- the second part of a text lists the changes of the interrupt lines
abbrev pub Lists : List ℕ → List Arrival → Type 0
Lists text arrivals = listed_arrivals (parts_of text).arrivals ≡ Ok arrivals

-- the last part of a text means an image in a machine's RAM
abbrev pub Assembles : List ℕ → Values → Image → Type 0
Assembles text machine image = IsImageOf machine.ram_base (parts_of text).assembly image

-- a job is what a text says
pub record IsJobOf (text : List ℕ) (job : Job) : Type 0 where
  pub length : HasLegalLength text
  pub description : Describes text job.description
  pub arrivals : Lists text job.arrivals
  pub image : Assembles text job.description job.image

-- why a description is refused; memory may be refused for each part
abbrev pub RefusesDescription : List ℕ → SimError → Type 0
RefusesDescription part (Description error) = description_of part ≡ Err error
RefusesDescription part Memory = ⊤
RefusesDescription part _ = ⊥

-- why arrivals are refused
abbrev pub RefusesArrivals : List ℕ → SimError → Type 0
RefusesArrivals part (Arrivals error) = listed_arrivals part ≡ Err error
RefusesArrivals part Memory = ⊤
RefusesArrivals part _ = ⊥

-- why assembly is refused
abbrev pub RefusesAssembly : ℕ → List ℕ → SimError → Type 0
RefusesAssembly base part (Assembly error) = text_fault base part ≡ Some (error.fault, error.line)
RefusesAssembly base part Memory = ⊤
RefusesAssembly base part _ = ⊥
