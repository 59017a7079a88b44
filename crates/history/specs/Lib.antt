pub mod Engine
pub mod Sound
pub mod Promise
pub mod Examples
pub mod Pasts
