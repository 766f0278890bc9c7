pub mod Elsewhere
pub mod Fetching
