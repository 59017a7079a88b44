pub mod Anys
pub mod Arrays
pub mod Writes
pub mod Ranges
