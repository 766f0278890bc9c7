-- What a text says where its image alone is asked for.
use Rattle.std.specs.Prelude.{ℕ, List, ◌++◌, codes, decimal}
use Rattle.rv_job.specs.JobText.{Assembles, Describes, HasLegalLength}
use Rattle.rv_job.specs.declared.image_text.DescribedImage.{DescribedImage}
use Rattle.rv_text.specs.Line.{word_text}

-- an image is what a text says on the machine that it describes
pub record IsDescribedImageOf (text : List ℕ) (made : DescribedImage) : Type 0 where
  pub length : HasLegalLength text
  pub description : Describes text made.description
  pub image : Assembles text made.description made.image

-- the line of an image: how many bytes it has, and where execution starts
unfoldable pub image_line : ℕ → ℕ → List ℕ
image_line bytes start = codes "ok " ++ (decimal bytes ++ (codes " bytes start " ++ (word_text start ++ codes "\n")))
