pub mod Appending
pub mod Numerals
mod OctalDigits
pub mod Unescaping
