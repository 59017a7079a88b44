pub mod Sizes
pub mod Chain
pub mod Words
pub mod Lent
pub mod Store
pub mod Laws
pub mod History
pub mod Rooms
