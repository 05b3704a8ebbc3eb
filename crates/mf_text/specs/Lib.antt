pub mod Appending
pub mod Escape
pub mod EscapeLaws
pub mod Number
pub mod Results
