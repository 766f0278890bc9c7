use Rattle.std.proofs.Common.{◌≡◌, ◌∙◌, ℕ, IfSome, Option, Some, None, ap}
use Rattle.rv_isa.specs.Instruction.{kind_of_word}
use Rattle.rv_isa.specs.declared.operations.Kind.{Kind}
use Rattle.rv_rob.specs.ReorderBuffer.{ReorderBuffer}
use Rattle.rv_counts.specs.Found.{count_stationed}
use Rattle.rv_counts.proofs.cycle_places.dispatch_before.Goals as goal

-- what was counted for the kind that was sought is so for the one that there is
for_kind : (o : Option Kind) (sought : Kind) (count : ℕ) (rob : ReorderBuffer) → IfSome o (λ k. sought ≡ k) →
    count ≡ count_stationed sought rob → IfSome o (λ k. count ≡ count_stationed k rob)
for_kind None sought count rob is counted = tt
for_kind (Some k) sought count rob is counted = counted ∙ ap (λ k. count_stationed k rob) is

pub loss_of-requires-clause-stationed : goal.loss_of-requires-clause-stationed
loss_of-requires-clause-stationed c =
    for_kind (kind_of_word c.args.fetched.now.instruction) c.kind_sought.result _ c.args.rob.now c.kind_sought.ensures
    c.count_found-dispatched.ensures.stationed
