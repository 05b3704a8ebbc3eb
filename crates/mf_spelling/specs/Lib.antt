pub mod Spelling
pub mod Canonical
pub mod Printed
