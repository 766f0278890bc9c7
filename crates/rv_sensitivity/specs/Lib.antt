pub mod Change
pub mod Trials
pub mod Neighbours
pub mod Setting
