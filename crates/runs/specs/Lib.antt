pub mod Calls
pub mod Notes
pub mod Places
pub mod Needs
pub mod Works
pub mod OneThread
pub mod Waits
