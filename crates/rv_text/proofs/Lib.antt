pub mod Writing
pub mod Saying
