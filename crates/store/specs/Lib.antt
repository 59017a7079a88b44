pub mod Fits
pub mod Calls
pub mod Stages
pub mod Restored
pub mod Reader
pub mod Answers
pub mod Opening
