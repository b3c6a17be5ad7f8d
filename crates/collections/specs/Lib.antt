pub mod Changes
pub mod Kinds
pub mod Reprs
pub mod Frozen
