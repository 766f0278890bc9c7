use Rattle.std.proofs.Common.{ap, arith}
use Rattle.std.proofs.lemmas.Result.{IfOk-weaker}
use Rattle.rv_asm.proofs.Kept.{same_fault, same_image}
use Rattle.rv_asm.proofs.Words.{listed_is}
use Rattle.rv_asm.proofs.listing.assemble_listed.Goals as goal

pub returns-clause-clean : goal.returns-clause-clean
returns-clause-clean c = grind (arith, same_fault)

pub returns-clause-bytes : goal.returns-clause-bytes
returns-clause-bytes c =
    IfOk-weaker c.listed_image.result _ _
    (λ listed bytes. same_image c.args.base c.args.text.now _ _ c.in_ok-layout.ensures.tells c.in_ok-layout.ensures.kept
    listed.image.bytes bytes)
    c.listed_image.ensures.bytes

pub returns-clause-listing : goal.returns-clause-listing
returns-clause-listing c =
    IfOk-weaker c.listed_image.result _ _
    (λ listed is. listed_is c.args.base c.args.text.now _ _ _ (ap (λ l. l.reach) c.in_ok-layout.ensures.tells)
    c.in_ok-layout.ensures.kept is)
    c.listed_image.ensures.listing

pub returns-clause-refused : goal.returns-clause-refused
returns-clause-refused c = grind (arith, same_fault)
