pub mod Bounds
pub mod Comps
pub mod Elem
pub mod Label
pub mod OfSets
