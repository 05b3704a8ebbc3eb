pub mod Splits
mod Texts
