pub mod Pieces
pub mod Known
pub mod NoFaults
mod Checked
mod Complete
pub mod Modules
pub mod Whole
pub mod Passes
pub mod Summed
pub mod Slotted
mod FromSource
mod Told
mod Wrote
