use Rattle.std.proofs.Common.{◌∙◌, sym}
use Rattle.rv_asm.proofs.Data.{data_refused, data_taken}
use Rattle.rv_asm.proofs.statement.data.Goals as goal

pub returns-then-not-are_values : goal.returns-then-not-are_values
returns-then-not-are_values c =
    sym (data_refused c.args.width c.args.tokens.now (sym c.are_values.ensures ∙ c.if-not-are_values.true))

pub returns : goal.returns
returns c = sym (data_taken c.args.width c.args.tokens.now (sym c.are_values.ensures ∙ c.if-not-are_values.false))
