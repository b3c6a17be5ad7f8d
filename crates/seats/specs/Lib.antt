pub mod Seats
pub mod Ends
pub mod Logs
pub mod Worked
pub mod Steps
pub mod Waits
