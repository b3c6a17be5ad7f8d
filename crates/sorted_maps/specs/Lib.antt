pub mod Answers
pub mod Ordered
pub mod Placed
