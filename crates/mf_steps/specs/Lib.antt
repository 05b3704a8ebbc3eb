pub mod StepRun
pub mod PlanRoom
pub mod Steps
pub mod StepText
pub mod Laws
pub mod Stepper
pub mod Answers
pub mod Outcome
