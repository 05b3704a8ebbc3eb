pub mod Letters
pub mod Matrix
pub mod MatrixText
pub mod Passing
pub mod Slotted
