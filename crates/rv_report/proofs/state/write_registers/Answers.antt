use Rattle.std.proofs.Common.{ℕ, List, slice_index, arith}
use Rattle.rv_report.specs.State.{register_line, register_lines}
use Rattle.rv_text.proofs.Writing.{texts_below}
use Rattle.rv_text.proofs.Saying.{says_below, says_nothing}
use Rattle.rv_report.proofs.state.write_registers.Goals as goal

-- the line of a register by its number
abbrev line_in : List ℕ → ℕ → List ℕ
line_in registers number = register_line number (slice_index registers number)

pub loop-number-init : goal.loop-number-init
unfolding texts_below
loop-number-init g c = says_nothing _

pub loop-number-preserved : goal.loop-number-preserved
loop-number-preserved g c =
    says_below (line_in c.args.registers.now) c.loop-number.number c.loop-number.invariant c.write_register.ensures

pub returns : goal.returns
unfolding texts_below register_lines
returns g c = grind arith
