pub mod Noted
pub mod Transactions
pub mod Slots
