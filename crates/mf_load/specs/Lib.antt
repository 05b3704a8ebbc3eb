pub mod Alone
pub mod Counts
pub mod InTurn
pub mod Laws
pub mod Replied
pub mod Summary
