pub mod Renaming
pub mod Kept
