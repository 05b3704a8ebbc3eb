pub mod Alike
pub mod Changed
pub mod Handed
pub mod Laws
pub mod Moves
