-- The texts of why no core was made.
use Rattle.std.specs.Prelude.{ℕ, List, codes}
use Rattle.rv_core.specs.declared.errors.NewError.{NewError}
use Rattle.rv_core.specs.declared.errors.NewError.TheVariants.{Memory, ImageDoesNotFit}

-- how each is reported
unfoldable pub refusal_text : NewError → List ℕ
refusal_text Memory = codes "out of memory"
refusal_text ImageDoesNotFit = codes "image does not fit"
