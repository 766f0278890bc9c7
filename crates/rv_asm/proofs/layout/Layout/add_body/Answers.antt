use Rattle.rv_asm.proofs.Few.{read_then, refused_by}
use Rattle.rv_asm.specs.Faults.{moved}
use Rattle.rv_asm.specs.Read.{tokens_in}
use Rattle.rv_asm.specs.Statement.{operands_read}
use Rattle.rv_asm.specs.Symbols.{found}
use Rattle.rv_asm.proofs.layout.Layout.add_body.Goals as goal

pub returns-clause-refused : goal.returns-clause-refused
returns-clause-refused c =
    rw (
      ← c.redefines.ensures,
      c.if-redefines.false,
      c.in_ok-form.ensures.named,
      read_then
          (operands_read (tokens_in c.in_ok-form.tokens.now)) c.in_ok-form.form
          (moved (found c.args.self.now.symbols) c.args.self.now.reach),
    )
    (refused_by _ c.add_form.result _ c.add_form.ensures.moved)
