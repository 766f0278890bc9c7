pub mod Picture
pub mod Recording
