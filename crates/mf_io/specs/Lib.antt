pub mod Calls
pub mod Causes
pub mod Held
pub mod Memory
pub mod Outside
pub mod Sure
pub mod SureCalls
