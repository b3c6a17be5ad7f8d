pub mod Steps
pub mod PlainPools
pub mod ByHash
pub mod Takings
