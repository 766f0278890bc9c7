use Rattle.std.proofs.Common.{sym, ◌∙◌}
use Rattle.rv_asm.proofs.Named.{register_below, some_below}
use Rattle.rv_asm.proofs.names.register_named.Goals as goal

-- each number of the table is a register's
pub returns-in-Some : goal.returns-in-Some
returns-in-Some c = some_below c.new.ensures.valid c.new.ensures.register
    (register_below _ _ (sym c.in-Some.ensures)) ∙ c.in-Some.ensures
