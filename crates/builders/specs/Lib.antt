pub mod Changes
pub mod Dicts
pub mod HashSets
pub mod Laws
pub mod Lists
pub mod Maps
pub mod Sets
