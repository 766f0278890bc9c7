pub mod Listing
pub mod Places
pub mod Statement
pub mod PlaceText
