mod Walks
pub mod Sums
mod Places
mod Stacks
mod Copies
pub mod Named
pub mod Moments
pub mod Newest
