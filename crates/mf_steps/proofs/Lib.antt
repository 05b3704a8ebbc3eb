pub mod Sound
pub mod Planned
pub mod Loop
pub mod Legality
pub mod OneWay
pub mod Left
pub mod Doing
