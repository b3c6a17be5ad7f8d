mod Counted
mod Cut
mod Digits
pub mod Judgements
pub mod Listing
mod NameLemmas
pub mod Within
pub mod ReadAgain
pub mod WrittenWords
pub mod WrittenLetters
mod WrittenNumbers
mod WrittenValues
mod WrittenSources
mod WrittenContents
mod WrittenOperations
mod WrittenQueries
mod WrittenCalls
pub mod WrittenLines
