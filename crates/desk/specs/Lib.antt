pub mod Answers
pub mod Ends
pub mod InUse
pub mod Values
pub mod Writings
