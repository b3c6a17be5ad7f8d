pub mod Codes
pub mod Frozen
pub mod Kept
pub mod Keys
pub mod Table
