pub mod Arrays
pub mod Builders
pub mod Reprs
