pub mod Composed
