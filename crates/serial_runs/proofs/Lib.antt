pub mod Through
pub mod Numbers
pub mod Leading
pub mod Keeping
