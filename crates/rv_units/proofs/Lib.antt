pub mod BusLemmas
pub mod PoolLemmas
