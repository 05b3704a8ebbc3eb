pub mod Errors
pub mod Modules
pub mod Privileges
pub mod Standing
