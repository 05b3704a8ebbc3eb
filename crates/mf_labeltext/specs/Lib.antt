pub mod Canonical
pub mod Commas
pub mod FirstFault
pub mod LabelGrammar
pub mod Reading
pub mod RoundTrip
