pub mod Granted
pub mod Allowed
mod Requests
pub mod Rooted
pub mod Observing
mod Lowered
pub mod RelabelChange
pub mod StateChange
pub mod Unlinking
pub mod EntityChange
pub mod Openings
pub mod Replies
mod Leading
pub mod Handing
mod Entries
mod Keeping
mod Denials
mod LastName
mod Given
mod LabelParts
pub mod Loads
mod Suiting
pub mod LabelsAlone
mod PutBack
mod LoweredBy
mod Left
mod ByOutline
mod Ready
