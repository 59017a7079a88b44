pub mod Requests
pub mod Standing
pub mod Text
