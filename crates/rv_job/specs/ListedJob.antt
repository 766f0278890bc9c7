-- What a text says as a job, with the lines of its program.
use Rattle.std.specs.Prelude.{◌≡◌, List, ℕ}
use Rattle.rv_asm.specs.Listing.{listing_of}
use Rattle.rv_job.specs.JobText.{IsJobOf}
use Rattle.rv_job.specs.Parts.{parts_of}
use Rattle.rv_job.specs.declared.listed_job.ListedJob.{ListedJob}

-- a job is what a text says, and the listing is that of its assembly where the described RAM begins
pub record IsListedJobOf (text : List ℕ) (listed : ListedJob) : Type 0 where
  pub job : IsJobOf text listed.job
  pub listing : listed.listing ≡ listing_of listed.job.description.ram_base (parts_of text).assembly
