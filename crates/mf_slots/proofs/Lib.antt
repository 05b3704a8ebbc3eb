pub mod Places
pub mod ZonesLaws
pub mod Counted
pub mod Relabelling
