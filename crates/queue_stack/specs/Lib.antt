pub mod Answers
pub mod Ends
pub mod Full
pub mod Skew
