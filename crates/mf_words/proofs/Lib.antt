pub mod Behind
pub mod Splits
pub mod Pieces
