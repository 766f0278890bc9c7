mod AfterNumber
mod Logging
pub mod OneLog
mod Printing
mod Waits
