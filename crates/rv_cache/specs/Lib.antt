pub mod Cache
pub mod Consistent
pub mod Line
pub mod Replacement
pub mod WriteBack
