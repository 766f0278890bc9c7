pub mod Answered
pub mod Drained
pub mod Forwarded
pub mod Kept
pub mod Prefix
pub mod Retired
