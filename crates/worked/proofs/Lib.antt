pub mod Scans
pub mod Cases
