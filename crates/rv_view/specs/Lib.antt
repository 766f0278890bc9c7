pub mod Following
pub mod Run
pub mod Viewing
