pub mod Refusals
pub mod Calls
pub mod Given
