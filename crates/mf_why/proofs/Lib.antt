mod Allowed
mod Composed
mod Decided
mod Each
mod Entries
mod Histories
mod Lowered
mod Privileges
mod Rules
pub mod Slots
mod Telling
mod Texts
mod Untold
