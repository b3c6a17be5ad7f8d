pub mod Firsts
pub mod Links
pub mod Distinct
pub mod Slices
pub mod Alike
pub mod Found
pub mod Latter
pub mod Contents
