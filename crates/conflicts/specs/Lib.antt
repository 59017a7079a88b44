pub mod Rising
pub mod Marks
pub mod Held
pub mod Laws
