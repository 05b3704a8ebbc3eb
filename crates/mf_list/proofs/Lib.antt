mod Changes
pub mod Counts
mod Finds
mod Fresh
mod Grants
pub mod Held
mod Kept
mod Maps
pub mod Places
pub mod Settings
mod Steps
pub mod Walk
