pub mod Item
pub mod Named
pub mod NoSubject
pub mod Operation
