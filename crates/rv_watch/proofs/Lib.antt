pub mod RunReports
pub mod Shown
pub mod RunStops
