pub mod Requests
pub mod Calls
pub mod Laws
pub mod Settling
