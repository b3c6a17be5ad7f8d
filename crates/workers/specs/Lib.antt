pub mod Hands
pub mod Tables
pub mod Opened
pub mod Scripts
pub mod Lanes
pub mod Worked
pub mod Closed
pub mod Laws
