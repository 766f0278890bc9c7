pub mod Queue
pub mod Store
