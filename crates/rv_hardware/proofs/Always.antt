-- What is true of all hardware that a reset and cycles lead to, part by part.
pub mod Sizes
pub mod Sets
pub mod Queue
pub mod Entries
pub mod Executions
pub mod Units
pub mod Port
pub mod Stores
pub mod Serial
pub mod Halted
pub mod Sound
pub mod Faults
