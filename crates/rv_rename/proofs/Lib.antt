pub mod Youngest
pub mod Prefixes
pub mod CheckpointLists
