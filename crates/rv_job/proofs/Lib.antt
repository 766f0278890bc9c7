mod Compared
mod HalvesShorter
pub mod HandedOn
mod Places
mod Reading
mod SeparatorCount
