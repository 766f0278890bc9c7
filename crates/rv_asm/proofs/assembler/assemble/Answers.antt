use Rattle.std.proofs.Common.{arith}
use Rattle.std.proofs.lemmas.Result.{IfOk-weaker}
use Rattle.rv_asm.proofs.Kept.{same_fault, same_image}
use Rattle.rv_asm.proofs.assembler.assemble.Goals as goal

pub returns-clause-clean : goal.returns-clause-clean
returns-clause-clean c = grind (arith, same_fault)

pub returns-clause-bytes : goal.returns-clause-bytes
returns-clause-bytes c =
    IfOk-weaker c.image_of.result _ _
    (λ image bytes. same_image c.args.base c.args.text.now _ _ c.in_ok-layout.ensures.tells c.in_ok-layout.ensures.kept
    image.bytes bytes)
    c.image_of.ensures.bytes

pub returns-clause-refused : goal.returns-clause-refused
returns-clause-refused c = grind (arith, same_fault)
