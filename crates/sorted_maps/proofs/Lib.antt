pub mod Added
pub mod Ordinal
pub mod Placing
