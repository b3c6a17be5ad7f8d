pub mod KeptKinds
pub mod Pairs
