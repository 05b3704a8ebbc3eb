pub mod Lasting
pub mod Listing
pub mod Settings
pub mod Valid
mod Relabelled
mod FirstValues
pub mod Asked
pub mod Boots
pub mod Openings
pub mod Kept
pub mod Observed
pub mod Marked
mod Leading
pub mod Files
mod Whole
