pub mod Laws
pub mod Register
pub mod Policies
pub mod Weights
pub mod Passes
