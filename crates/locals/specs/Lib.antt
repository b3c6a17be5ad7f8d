pub mod Bound
pub mod Results
pub mod Commands
