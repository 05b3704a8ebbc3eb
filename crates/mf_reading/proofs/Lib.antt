mod Lists
pub mod Bounded
mod Plans
mod Labels
mod Contents
mod Finding
mod Replies
mod Holding
mod Rules
mod Effects
mod Values
mod Listed
mod Labelled
mod Lowered
mod Openings
pub mod Runs
pub mod WholeText
