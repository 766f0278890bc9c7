use Rattle.rv_asm.proofs.Few.{read_then}
use Rattle.rv_asm.specs.Read.{tokens_in}
use Rattle.rv_asm.specs.Statement.{operands_read, statement}
use Rattle.rv_asm.proofs.statement.read_statement.Goals as goal

pub returns : goal.returns
returns c =
    rw (
      c.in_ok-form.ensures.named,
      read_then (operands_read (tokens_in c.in_ok-form.operands.now)) c.in_ok-form.form
          statement,
    ) c.formed_statement.ensures
