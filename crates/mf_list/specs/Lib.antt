pub mod Asked
pub mod Faults
pub mod Fresh
pub mod Held
pub mod Lists
pub mod Once
pub mod Places
pub mod Registration
