pub mod Answers
pub mod Bucketed
pub mod Buckets
pub mod Hashed
pub mod Places
pub mod Rows
