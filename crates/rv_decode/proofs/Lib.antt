pub mod Masks
pub mod Relation
pub mod Rows
pub mod Offsets
pub mod OtherOpcodes
