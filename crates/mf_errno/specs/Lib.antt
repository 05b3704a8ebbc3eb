pub mod Errno
pub mod Names
pub mod OfTwo
pub mod Privilege
pub mod Same
pub mod Selection
