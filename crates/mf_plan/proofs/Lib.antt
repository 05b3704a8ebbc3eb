pub mod LookingUp
pub mod Finding
pub mod LoweredChecks
pub mod Transfers
mod Relabelling
mod Viewing
mod LoweredViews
mod Setting
