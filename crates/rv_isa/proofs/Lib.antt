pub mod LegalKeys
pub mod LastLevels
pub mod Levels
pub mod Names
pub mod Numbered
pub mod Padded
pub mod WithKind
pub mod TwoRegisters
