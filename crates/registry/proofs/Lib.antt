pub mod Moves
pub mod Places
pub mod Made
pub mod Whole
pub mod Closed
pub mod Answered
pub mod Served
