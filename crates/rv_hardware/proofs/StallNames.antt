-- The name of each reason to dispatch nothing is a word of a format.
use Rattle.std.proofs.Common.{◌≡◌, true, arith}
use Rattle.rv_isa.proofs.Names.{is_word}
use Rattle.rv_hardware.specs.Report.{stall_name}
use Rattle.rv_hardware.specs.declared.report.Stall.{Stall}

-- the name of each stall is a word
pub stall_name-word : (stall : Stall) → is_word (stall_name stall) ≡ true
stall_name-word stall = grind arith
