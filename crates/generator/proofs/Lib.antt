pub mod Letters
pub mod Numbers
pub mod Turns
pub mod Words
