pub mod Keeps
pub mod Turning
pub mod Joins
pub mod Chains
pub mod AtHome
pub mod Mine
