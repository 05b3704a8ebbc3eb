pub mod Deniers
pub mod Laws
pub mod Lines
pub mod Lowerings
pub mod ReasonText
pub mod Ruled
pub mod Slots
pub mod WhyText
