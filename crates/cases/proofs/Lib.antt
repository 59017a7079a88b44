pub mod Stops
pub mod Rows
