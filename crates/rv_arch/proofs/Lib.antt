pub mod RunInvariants
pub mod Runs
pub mod StepLaws
pub mod Steps
