pub mod Among
pub mod CompsLaws
pub mod NumberBits
pub mod Valid
pub mod Comparing
