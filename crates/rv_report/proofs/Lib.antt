mod Begun
mod Counts
pub mod InOrder
mod Learned
mod LiveReport
mod MemoryLines
mod Placed
mod TableRows
mod Speculated
mod Passed
mod Tallied
