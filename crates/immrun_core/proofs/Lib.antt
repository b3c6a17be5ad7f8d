pub mod Buffer
pub mod Complete
pub mod StreamSteps
pub mod Told
pub mod Readiness
pub mod Tasks
pub mod Generated
pub mod TaskEnds
