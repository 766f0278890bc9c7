use Rattle.std.proofs.Common.{◌≡◌, ℕ, ◌+◌, ◌-◌, List, ◌++◌, length, drop, replicate, ap, arith}
use Rattle.std.proofs.lemmas.List.{drop-replicate}
use Rattle.rv_arch.proofs.reference.Reference.new.Goals as goal

-- an image that is written over zeros has zeros after it
image_over_zeros : (size : ℕ) (image : List ℕ) → image ++ drop (0 + length image) (replicate size 0) ≡ image
    ++ replicate (size - length image) 0
image_over_zeros size image =
    let none : 0 + length image ≡ length image = omega arith in
    rw none (ap (λ (rest : List ℕ). image ++ rest) (drop-replicate (length image) size 0))

pub returns-clause-reset : goal.returns-clause-reset
returns-clause-reset c =
    rw (
      c.load.ensures.loaded,
      c.in_ok-ram.ensures,
      c.in_ok-new.ensures.fresh,
      c.reset.ensures,
      image_over_zeros c.args.size c.args.image.now,
    )
