pub mod Laws
pub mod Orders
pub mod Permits
pub mod Reasons
