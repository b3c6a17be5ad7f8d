pub mod Answers
pub mod Ends
pub mod Least
pub mod Listed
pub mod Rows
pub mod Search
pub mod Shape
pub mod Sides
