pub mod Lists
pub mod Refusals
pub mod Transactions
pub mod Commits
pub mod Versions
