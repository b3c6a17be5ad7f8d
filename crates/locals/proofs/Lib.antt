pub mod NamesOf
pub mod Answering
