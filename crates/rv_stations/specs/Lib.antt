pub mod Column
pub mod ColumnFields
pub mod Pool
pub mod PoolFields
pub mod Waiting
