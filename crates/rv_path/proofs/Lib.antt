mod MarkedRun
mod MarksKept
mod Numbers
pub mod OneAccount
pub mod OneMarking
pub mod OnePath
mod Pathing
