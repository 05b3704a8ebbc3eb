pub mod Header
pub mod Pieces
pub mod Lines
pub mod Verdict
pub mod Judging
pub mod Laws
