use Rattle.std.proofs.Common.{◌≡◌, ◌∙◌, [], arith, drop, sym}
use Rattle.std.proofs.lemmas.List.{drop_all}
use Rattle.rv_asm.proofs.Emitted.{begins_all}
use Rattle.rv_asm.proofs.Next.{begins_next, next_fault}
use Rattle.rv_asm.specs.Symbols.{layout_of}
use Rattle.rv_asm.specs.declared.operation.Section.TheVariants.{Text, Data}
use Rattle.rv_asm.proofs.sections.Sections.of_program.Goals as goal
use Rattle.rv_asm.proofs.sections.Sections.of_program.Goals.{After-loop-line}

pub loop-line-preserved : goal.loop-line-preserved
loop-line-preserved c =
    let lines = c.deref-line-items.result.now in
    let i = c.loop-line.line-index in
    let base = c.args.program.now.base in
    let whole = layout_of c.args.program.now.layout.now in
    record {
      fault = sym (next_fault lines i _ c.loop-line-test.true _ _ c.in_default.ensures.clean)
          ∙ c.loop-line.invariant.fault;
      text = begins_next lines i _ c.loop-line-test.true base whole Text c.loop-line.invariant.text
          c.in_default.ensures.text;
      data_bytes = begins_next lines i _ c.loop-line-test.true base whole Data c.loop-line.invariant.data_bytes
          c.in_default.ensures.data_bytes;
    }

pub returns-in-Err-clause-refused : goal.returns-in-Err-clause-refused
returns-in-Err-clause-refused c = λ memory.
    let not_memory = λ (e : _). memory (c.at.ensures.fault ∙ e) in
    rw (c.at.ensures.fault, c.at.ensures.line not_memory, ← c.deref-line-items.ensures.value)
    (sym c.loop-line.invariant.fault
    ∙ next_fault c.deref-line-items.result.now c.loop-line.line-index _ c.loop-line-test.true _ _
    (c.in-Err.ensures.refused not_memory))

finished : (c : After-loop-line) → drop c.loop-line.line-index c.deref-line-items.result.now ≡ []
finished c = drop_all c.loop-line.line-index c.deref-line-items.result.now (omega (arith, c.loop-line-test.false))

pub returns-clause-clean : goal.returns-clause-clean
returns-clause-clean c = rw (← c.deref-line-items.ensures.value) (sym (rw (finished c) at c.loop-line.invariant.fault))

pub returns-clause-text : goal.returns-clause-text
returns-clause-text c = rw (← c.deref-line-items.ensures.value)
    (begins_all (rw (finished c) at c.loop-line.invariant.text))

pub returns-clause-data_bytes : goal.returns-clause-data_bytes
returns-clause-data_bytes c =
    rw (← c.deref-line-items.ensures.value) (begins_all (rw (finished c) at c.loop-line.invariant.data_bytes))
