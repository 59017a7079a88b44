pub mod Members
pub mod Stands
pub mod Lines
pub mod Keys
pub mod Serial
pub mod Shown
pub mod Taking
