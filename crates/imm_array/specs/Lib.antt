pub mod Answers
pub mod Capacity
pub mod Contents
