use Rattle.rv_asm.proofs.assembler.image_of.Goals as goal

pub returns-clause-bytes : goal.returns-clause-bytes
returns-clause-bytes c =
    rw c.from_vec.ensures (c.in-Ok.ensures.spells _ _ c.in_ok-sections.ensures.text c.in_ok-sections.ensures.data_bytes)
