pub mod Decodes
pub mod InstructionTable
pub mod Known
pub mod Operand
