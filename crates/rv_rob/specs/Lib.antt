pub mod Entry
pub mod ReorderBuffer
