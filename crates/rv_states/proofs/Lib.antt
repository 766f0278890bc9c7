mod Arrays
mod Each
mod Given
mod Grammar
mod JsonParts
mod JsonStates
mod Names
mod NoJson
mod Numerals
pub mod OneText
mod Plain
mod Safe
mod Showing
mod Status
