pub mod Divided
pub mod Replacement
pub mod Sets
pub mod Steps
pub mod Written
