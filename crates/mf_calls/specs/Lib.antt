pub mod Names
pub mod Paths
pub mod Boots
pub mod Tasks
pub mod Tunable
pub mod WellFormed
pub mod Generated
