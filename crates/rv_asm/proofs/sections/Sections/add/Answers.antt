use Rattle.std.proofs.Common.{refl}
use Rattle.rv_asm.proofs.Emitted.{added_here, nothing_added}
use Rattle.rv_asm.specs.declared.operation.Section.TheVariants.{Text, Data}
use Rattle.rv_asm.proofs.sections.Sections.add.Goals as goal

pub returns-in-Text-clause-text : goal.returns-in-Text-clause-text
returns-in-Text-clause-text c = added_here Text _ c.emit_line.result _ _ _ c.in-Text.is c.emit_line.ensures.emitted

pub returns-in-Text-clause-data_bytes : goal.returns-in-Text-clause-data_bytes
returns-in-Text-clause-data_bytes c = nothing_added Data Text _ c.emit_line.result _ _ c.in-Text.is refl

pub returns-in-Data-clause-text : goal.returns-in-Data-clause-text
returns-in-Data-clause-text c = nothing_added Text Data _ c.emit_line-in-Data.result _ _ c.in-Data.is refl

pub returns-in-Data-clause-data_bytes : goal.returns-in-Data-clause-data_bytes
returns-in-Data-clause-data_bytes c = added_here Data _ c.emit_line-in-Data.result _ _ _ c.in-Data.is
    c.emit_line-in-Data.ensures.emitted
