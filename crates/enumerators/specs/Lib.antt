pub mod Series
pub mod Rests
pub mod Orders
pub mod PlainPools
pub mod Walking
pub mod SharedWalks
