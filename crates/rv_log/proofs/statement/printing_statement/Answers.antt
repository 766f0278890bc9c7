use Rattle.std.proofs.Common.{◌∙◌, ap, sym}
use Rattle.rv_log.proofs.Printing.{plain-whole}
use Rattle.rv_text.specs.Plain.{plain_text}
use Rattle.rv_log.proofs.statement.printing_statement.Goals as goal

pub returns-then-printing_length-statement-clause-shown : goal.returns-then-printing_length-statement-clause-shown
returns-then-printing_length-statement-clause-shown c =
    let plain = plain-whole c.statement_of-statement.result.now (sym c.printing_length.ensures.length
    ∙ c.if-printing_length-statement.true) in
    sym plain ∙ ap plain_text c.statement_of-statement.ensures.statement
