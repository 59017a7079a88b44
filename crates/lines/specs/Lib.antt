pub mod Words
pub mod Numbers
pub mod Requests
pub mod Held
pub mod Said
pub mod Laws
