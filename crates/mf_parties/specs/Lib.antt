pub mod Changing
pub mod Parties
pub mod Standing
