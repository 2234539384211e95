pub mod Sets
pub mod Reading
pub mod Encoding
pub mod Telling
pub mod Writing
pub mod Laws
