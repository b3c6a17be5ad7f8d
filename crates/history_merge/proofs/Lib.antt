pub mod Order
pub mod Weaves
pub mod Walk
pub mod Merged
pub mod Growing
pub mod Found
pub mod Bridges
