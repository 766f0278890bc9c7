mod Begun
mod Viewing
pub mod EndedView
pub mod HasRun
pub mod Reached
