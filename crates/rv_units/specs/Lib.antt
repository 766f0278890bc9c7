pub mod Bus
pub mod BusFields
pub mod Pool
pub mod PoolFields
