pub mod Fronts
pub mod Spelled
pub mod Walks
