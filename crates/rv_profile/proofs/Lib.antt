pub mod OneProfile
mod Profiling
