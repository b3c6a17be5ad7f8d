pub mod Lines
pub mod Logs
pub mod Steps
pub mod Working
pub mod NewPasses
