use Rattle.std.specs.Prelude.{ℕ}
use Rattle.rv_isa.specs.declared.causes.Cause.{Cause}
use Rattle.rv_isa.specs.declared.causes.Cause.TheVariants.{InstructionAddressMisaligned, InstructionAccessFault}
use Rattle.rv_isa.specs.declared.causes.Cause.TheVariants.{IllegalInstruction, Breakpoint, LoadAddressMisaligned}
use Rattle.rv_isa.specs.declared.causes.Cause.TheVariants.{LoadAccessFault, StoreAddressMisaligned}
use Rattle.rv_isa.specs.declared.causes.Cause.TheVariants.{StoreAccessFault, EnvironmentCall}

-- Privileged Architecture 20211203, 3.1.15, table 3.6: the exception codes of machine mode
abbrev pub code_of : Cause → ℕ
code_of InstructionAddressMisaligned = 0
code_of InstructionAccessFault = 1
code_of IllegalInstruction = 2
code_of Breakpoint = 3
code_of LoadAddressMisaligned = 4
code_of LoadAccessFault = 5
code_of StoreAddressMisaligned = 6
code_of StoreAccessFault = 7
code_of EnvironmentCall = 11
