-- An instruction leaves its station and starts: it is the one that the definition starts, and the parts stay tied.
pub mod Executed
pub mod Found
pub mod Operands
pub mod Parts
pub mod Passed
pub mod Ready
pub mod Search
pub mod Started
pub mod Stores
pub mod Tied
pub mod Writes
