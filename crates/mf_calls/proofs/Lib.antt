pub mod Directories
pub mod FewBoots
pub mod TaskLaws
pub mod LoadNames
pub mod LoadLabels
pub mod Loads
pub mod LoadSteps
