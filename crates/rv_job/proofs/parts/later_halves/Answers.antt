use Rattle.std.proofs.Common.{option_copied, arith}
use Rattle.std.proofs.lemmas.{Bool.ne_eqb}
use Rattle.rv_job.proofs.Places.{next_place, no_separator_at_front}
use Rattle.rv_job.proofs.parts.later_halves.Goals as goal
use Rattle.rv_job.proofs.parts.later_halves.Goals.{then-text-place-eq10+in_default, else-text-place-eq10}

pub loop-place-preserved : goal.loop-place-preserved
loop-place-preserved c =
    grind (
      arith,
      next_place,
      then-text-place-eq10+in_default,
      option_copied,
      no_separator_at_front,
      else-text-place-eq10,
      ne_eqb,
    )
