pub mod Deciding
pub mod Denying
pub mod Errnos
pub mod Places
