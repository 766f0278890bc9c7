pub mod Distance
pub mod Faulty
pub mod Named
pub mod Passed
pub mod OutOfRange
