pub mod Records
pub mod Parsing
pub mod Files
pub mod Held
pub mod Laws
pub mod Words
