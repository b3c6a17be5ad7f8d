pub mod Deeds
pub mod Parts
pub mod OneCell
pub mod OneRun
pub mod OneSteps
pub mod NotedLines
