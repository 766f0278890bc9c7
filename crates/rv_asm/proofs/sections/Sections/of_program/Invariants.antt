use Rattle.std.proofs.Common.{◌≡◌, drop}
use Rattle.rv_asm.proofs.Emitted.{Begins}
use Rattle.rv_asm.specs.Faults.{second_fault}
use Rattle.rv_asm.specs.Kept.{first_with_fault}
use Rattle.rv_asm.specs.Meaning.{contents}
use Rattle.rv_asm.specs.Symbols.{kept_in, layout_of, lines_in}
use Rattle.rv_asm.specs.declared.operation.Section.TheVariants.{Text, Data}
use Rattle.rv_asm.proofs.sections.Sections.of_program.Given as goal

-- the rest has the first fault of all lines, and with what its lines mean the sections are complete
abbrev pub invariant-loop-line : goal.invariant-loop-line
invariant-loop-line l =
    let base = l.program.base in
    let whole = layout_of l.program.layout.now in
    let rest = drop l.line-index l.line-items in
    record {
      fault : first_with_fault (second_fault base whole) (kept_in rest)
          ≡ first_with_fault (second_fault base whole) (kept_in l.line-items);
      text : Begins (contents base whole Text (lines_in l.line-items)) (contents base whole Text (lines_in rest))
          l.sections.text.items;
      data_bytes : Begins (contents base whole Data (lines_in l.line-items)) (contents base whole Data (lines_in rest))
          l.sections.data_bytes.items;
    }
