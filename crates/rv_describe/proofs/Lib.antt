pub mod AtFault
pub mod Items
pub mod Legal
pub mod LegalArrivals
pub mod Mapped
