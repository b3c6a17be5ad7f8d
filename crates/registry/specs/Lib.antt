pub mod Requests
pub mod Seats
pub mod Registry
