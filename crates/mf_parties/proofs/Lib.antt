pub mod FirstNames
pub mod Reading
pub mod Spelling
pub mod Standing
