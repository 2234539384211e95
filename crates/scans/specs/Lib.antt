pub mod Elements
pub mod Faults
pub mod Reads
pub mod Spelling
