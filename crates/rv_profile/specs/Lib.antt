pub mod Text
pub mod Keeping
pub mod Run
