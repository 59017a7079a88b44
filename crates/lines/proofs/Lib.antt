pub mod Gather
pub mod Splits
pub mod Digits
pub mod Trips
pub mod Lined
pub mod Pairs
pub mod Wholes
