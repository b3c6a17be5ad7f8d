pub mod Added
pub mod Entries
pub mod InCommon
pub mod InOrder
