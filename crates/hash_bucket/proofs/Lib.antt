pub mod Elements
pub mod Hashes
pub mod Searches
pub mod Trees
