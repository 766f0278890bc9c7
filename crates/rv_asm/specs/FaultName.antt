-- The names of the faults, as they are printed.
use Rattle.std.specs.Prelude.{ℕ, List, codes}
use Rattle.rv_asm.specs.declared.fault.AsmFault.{AsmFault}
use Rattle.rv_asm.specs.declared.fault.AsmFault.TheVariants.{BadToken, UnknownMnemonic, BadOperands}
use Rattle.rv_asm.specs.declared.fault.AsmFault.TheVariants.{BadRegister, DuplicateSymbol, TooLarge}
use Rattle.rv_asm.specs.declared.fault.AsmFault.TheVariants.{UnknownSymbol, OutOfRange, Misaligned, Memory}

-- the name of a fault
unfoldable pub fault_name : AsmFault → List ℕ
fault_name BadToken = codes "BadToken"
fault_name UnknownMnemonic = codes "UnknownMnemonic"
fault_name BadOperands = codes "BadOperands"
fault_name BadRegister = codes "BadRegister"
fault_name DuplicateSymbol = codes "DuplicateSymbol"
fault_name TooLarge = codes "TooLarge"
fault_name UnknownSymbol = codes "UnknownSymbol"
fault_name OutOfRange = codes "OutOfRange"
fault_name Misaligned = codes "Misaligned"
fault_name Memory = codes "Memory"
