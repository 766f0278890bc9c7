pub mod IsText
pub mod Line
pub mod Plain
pub mod ReadField
pub mod Said
pub mod Written
